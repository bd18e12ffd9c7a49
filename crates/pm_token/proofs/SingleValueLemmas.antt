-- The values of character and byte literals.
use Rattle.std.proofs.Common.{◌≡◌, ◌↔◌, ℕ, Bool, true, false, ◌==◌, ne_eqb, List, [], ◌∷◌, ◌++◌, codes, Option, Some}
use Rattle.std.proofs.Common.{None, Result, Ok, Err, IsOk, IfErr, is_ok, refl, sym, ap, ap₂, ◌∙◌, subst, inl, inr}
use Rattle.std.proofs.Common.{append_assoc}
use Rattle.std.specs.Option.{option_map}
use Rattle.std.specs.Char.{is_ascii, is_ascii_digit}
use Rattle.std.proofs.lemmas.Bool.{both_ways, and_parts, or_parts, cond-true, eqb-false, not-true}
use Rattle.lexical.specs.Text.{ends_with, first_passes}
use Rattle.lexical.specs.Form.{Form, Then, Exactly}
use Rattle.lexical.specs.Quoted.{ByteEscape, Str, StringEscape}
use Rattle.lexical.specs.SingleQuoted.{Byte, Character, SingleQuoted, SingleUnit, is_byte_char_plain, is_char_plain}
use Rattle.lexical.specs.Literal.{IsLiteralToken, QuotedLiteral}
use Rattle.lexical.specs.Literal as literals
use Rattle.lexical.proofs.NumberFinderLemmas.{number_first}
use Rattle.lexical.proofs.TextLemmas.{ends_back}
use Rattle.lexical.proofs.WordLemmas.{apart_fronts, differ}
use Rattle.literal_escaper.specs.Kind.{Kind, byte_kind, string_kind}
use Rattle.literal_escaper.specs.Single.{single}
use Rattle.pm_token.specs.declared.literals.conversion.ConversionErrorKind.{ConversionErrorKind}
use Rattle.pm_token.specs.declared.literals.conversion.ConversionErrorKind.TheVariants.{InvalidLiteralKind}
use Rattle.pm_token.specs.Escaped.{byte_text, character_text}
use Rattle.pm_token.specs.Joined.{escape_value, numbers}
use Rattle.pm_token.specs.LiteralText.{IsLiteralText}
use Rattle.pm_token.specs.SingleValue.{IsUnsuffixed, byte_value, char_value, single_content, single_value}
use Rattle.pm_token.specs.SingleValue.{value_from_single}
use Rattle.pm_token.specs.ValueLaws.{ByteValuesComeBack, BytesHaveUnits, CharacterValuesComeBack, CharactersHaveUnits}
use Rattle.pm_token.specs.ValueLaws.{HasSingle}
use Rattle.pm_token.proofs.ContentLemmas.{between_splits, between_within}
use Rattle.pm_token.proofs.EscapeValueLemmas.{byte_escape, string_escape}
use Rattle.pm_token.proofs.SuffixLemmas.{no_single_suffix}
use Rattle.pm_token.proofs.UnitLemmas.{EscapesAs, one}
use Rattle.pm_token.proofs.ValueLawLemmas.{bytes_come_back, characters_come_back, single_escape, single_stand}

-- ---- one unit

eqb_flip : (c d : ℕ) → (d == c) ≡ false → (c == d) ≡ false
eqb_flip c d e = ne_eqb c d (λ same. eqb-false d c e (sym same))

-- a character that may be alone is a unit
bare_unit : (kind : Kind ℕ) (c : ℕ) → is_char_plain c ≡ true → kind.of_char c ≡ Ok c
    → (single kind (c ∷ [])).unit ≡ Ok c
bare_unit kind c plain is =
    let quote = or_parts (39 == c) _ (not-true _ plain) in
    let backslash = or_parts (92 == c) _ quote.1 in
    let line = or_parts (10 == c) _ backslash.1 in
    let return = or_parts (13 == c) _ line.1 in
    let tab = or_parts (9 == c) _ return.1 in
    single_stand kind c (c ∷ []) (record {
      whole = refl;
      unit_is = is;
      no_tab = eqb_flip c 9 tab.0;
      no_return = eqb_flip c 13 return.0;
      no_line = eqb_flip c 10 line.0;
      no_backslash = eqb_flip c 92 backslash.0;
      no_quote = eqb_flip c 39 quote.0;
    })

-- what a kind must provide: a unit for each character that may be alone, and for each escape
record Fits (kind : Kind ℕ) (plain : ℕ → Bool) (Escape : Form) : Type 0 where
  bare : (c : ℕ) → plain c ≡ true → is_char_plain c ≡ true
  char : (c : ℕ) → plain c ≡ true → kind.of_char c ≡ Ok c
  escape : (back r : List ℕ) → Escape back r → EscapesAs kind one (92 ∷ back) (escape_value numbers back)

character_fits : Fits string_kind is_char_plain StringEscape
character_fits = record { bare = λ c plain. plain; char = λ c plain. refl; escape = string_escape }

byte_fits : Fits byte_kind is_byte_char_plain ByteEscape
byte_fits = record {
  bare = λ c plain. (and_parts (is_char_plain c) (is_ascii c) plain).0;
  char = λ c plain. cond-true _ _ _ (and_parts (is_char_plain c) (is_ascii c) plain).1;
  escape = byte_escape;
}

-- the unit between single quotes is read as a unit
one_unit : (kind : Kind ℕ) (plain : ℕ → Bool) (Escape : Form) (unit r : List ℕ) → Fits kind plain Escape
    → SingleUnit plain Escape unit r
    → (n : ℕ) × ((single kind unit).unit ≡ Ok n)
one_unit kind plain Escape unit r fits (inl bare) = (
  bare.0,
  ap (λ p. (single kind p).unit) bare.1
      ∙ bare_unit kind bare.0 (fits.bare bare.0 bare.2) (fits.char bare.0 bare.2),
)
one_unit kind plain Escape unit r fits (inr then) =
    let whole : unit ≡ 92 ∷ then.back = then.whole ∙ ap (λ p. p ++ then.back) then.first in
    let is = fits.escape then.back r then.second in
    (is.unit, ap (λ p. (single kind p).unit) whole ∙ single_escape kind (92 ∷ then.back) is.unit is.escapes)

-- ---- the whole literal

-- a content of one unit gives the literal's value
single_is : (kind : Kind ℕ) (front text content : List ℕ) (unit : ℕ) → text ≡ front ++ (content ++ codes "'")
    → (single kind content).unit ≡ Ok unit
    → single_value kind front text ≡ Ok unit
single_is kind front text content unit whole is =
    ap (λ t. single_value kind front t) whole
    ∙ (ap (λ o. value_from_single (option_map (λ content. (single kind content).unit) o))
    (between_within front (codes "'") content)
    ∙ ap (λ u. value_from_single (Some u)) is)

has_single : (kind : Kind ℕ) (plain : ℕ → Bool) (Escape : Form) (front text : List ℕ) → Fits kind plain Escape
    → SingleQuoted front plain Escape text []
    → HasSingle kind front text (single_value kind front text)
has_single kind plain Escape front text fits h =
    let inner = h.second in
    let end = inner.second in
    let closing : inner.back ≡ 39 ∷ end.back = end.whole ∙ ap (λ x. x ++ end.back) end.first in
    let whole : text ≡ front ++ (inner.front ++ (39 ∷ end.back)) =
    h.whole ∙ ap₂ (λ x y. x ++ y) h.first (inner.whole ∙ ap (λ x. inner.front ++ x) closing) in
    let unit = one_unit kind plain Escape inner.front (inner.back ++ []) fits inner.first in
    record {
      content = inner.front;
      suffix = end.back;
      unit = unit.0;
      whole = whole;
      is_suffix = end.second;
      unit_is = unit.1;
      value_is = λ none. single_is kind front text inner.front unit.0
          (whole ∙ ap (λ s. front ++ (inner.front ++ (39 ∷ s))) none) unit.1;
    }

pub characters_have_units : CharactersHaveUnits
characters_have_units text is = has_single string_kind is_char_plain StringEscape (codes "'") text character_fits is

pub bytes_have_units : BytesHaveUnits
bytes_have_units text is = has_single byte_kind is_byte_char_plain ByteEscape (codes "b'") text byte_fits is

pub character_values_come_back : CharacterValuesComeBack
character_values_come_back c scalar =
    let is = characters_come_back c scalar in
    single_is string_kind (codes "'") (character_text c) is.0 c is.1 is.2

pub byte_values_come_back : ByteValuesComeBack
byte_values_come_back b low =
    let is = bytes_come_back b low in
    single_is byte_kind (codes "b'") (byte_text b) is.0 b is.1 is.2

-- ---- which literals have a value

-- a literal cannot have another prefix than its own
other : (front g text rest : List ℕ) (A : Form) → differ front g ≡ true → text ≡ front ++ rest
    → Then (Exactly g) A text [] → ⊥
other front g text rest A apart e h =
    apart_fronts front g (λ p r. Unit {0}) A apart text text [] []
    (record { front = front; back = rest; whole = e; first = refl; second = tt }) h refl

-- a literal that begins with this character is between quotes
begins_quoted : (c : ℕ) (text rest : List ℕ) → is_ascii_digit c ≡ false → (c == 40) ≡ false → (c == 45) ≡ false
    → IsLiteralText text → text ≡ c ∷ rest → QuotedLiteral text []
unfolding IsLiteralToken literals.Literal
begins_quoted c text rest digit opener minus (inl (inl (inl quoted)), all) e = quoted
begins_quoted c text rest digit opener minus (inl (inl (inr number)), all) e =
    let at = number_first text [] number in
    absurd (both_ways (first_passes is_ascii_digit text) (ap (first_passes is_ascii_digit) e ∙ digit)
    (ap (first_passes is_ascii_digit) at.2 ∙ at.3))
begins_quoted c text rest digit opener minus (inl (inr error), all) e =
    absurd (both_ways (first_passes (λ d. d == 40) text) (ap (first_passes (λ d. d == 40)) e ∙ opener)
    (ap (first_passes (λ d. d == 40)) error))
begins_quoted c text rest digit opener minus (inr negative, all) e =
    absurd (both_ways (first_passes (λ d. d == 45) text) (ap (first_passes (λ d. d == 45)) e ∙ minus)
    (ap (first_passes (λ d. d == 45)) negative.whole))

-- of the literals between quotes, those that begin with `'` are characters
begins_character : (text rest : List ℕ) → text ≡ 39 ∷ rest → QuotedLiteral text [] → Character text []
unfolding Str
begins_character text rest e h = elim h [
  | inl plain ↦ absurd (elim plain [
    | inl str ↦ other (codes "'") (codes "\"") text rest _ refl e str
    | inr raw ↦ other (codes "'") (codes "r") text rest _ refl e raw
  ])
  | inr more ↦ elim more [
    | inl character ↦ character
    | inr bytes ↦ absurd (elim bytes [
      | inl strings ↦ elim strings [
        | inl str ↦ other (codes "'") (codes "b\"") text rest _ refl e str
        | inr raw ↦ other (codes "'") (codes "br") text rest _ refl e raw
      ]
      | inr others ↦ elim others [
        | inl byte ↦ other (codes "'") (codes "b'") text rest _ refl e byte
        | inr c ↦ elim c [
          | inl str ↦ other (codes "'") (codes "c\"") text rest _ refl e str
          | inr raw ↦ other (codes "'") (codes "cr") text rest _ refl e raw
        ]
      ]
    ])
  ]
]

-- of the literals between quotes, those that begin with `b'` are bytes
begins_byte : (text rest : List ℕ) → text ≡ 98 ∷ 39 ∷ rest → QuotedLiteral text [] → Byte text []
unfolding Str
begins_byte text rest e h = elim h [
  | inl plain ↦ absurd (elim plain [
    | inl str ↦ other (codes "b'") (codes "\"") text rest _ refl e str
    | inr raw ↦ other (codes "b'") (codes "r") text rest _ refl e raw
  ])
  | inr more ↦ elim more [
    | inl character ↦ absurd (other (codes "b'") (codes "'") text rest _ refl e character)
    | inr bytes ↦ elim bytes [
      | inl strings ↦ absurd (elim strings [
        | inl str ↦ other (codes "b'") (codes "b\"") text rest _ refl e str
        | inr raw ↦ other (codes "b'") (codes "br") text rest _ refl e raw
      ])
      | inr others ↦ elim others [
        | inl byte ↦ byte
        | inr c ↦ absurd (elim c [
          | inl str ↦ other (codes "b'") (codes "c\"") text rest _ refl e str
          | inr raw ↦ other (codes "b'") (codes "cr") text rest _ refl e raw
        ])
      ]
    ]
  ]
]

-- whether exactly literals of this form without a suffix have a value, and all others give `InvalidLiteralKind`
pub record IsExact (Quoted : Form) (text : List ℕ) (value : Result ℕ ConversionErrorKind) : Type 0 where
  pub ok : IsOk value ↔ IsUnsuffixed Quoted text
  pub kind : IfErr value (λ error. error ≡ InvalidLiteralKind)

-- a literal of this form without a suffix has a value
unsuffixed_value : (kind : Kind ℕ) (front text : List ℕ) (value : Result ℕ ConversionErrorKind)
    → HasSingle kind front text value
    → ends_with 39 text ≡ true → (unit : ℕ) × (value ≡ Ok unit)
unsuffixed_value kind front text value has ends =
    let split : text ≡ (front ++ has.content) ++ (39 ∷ has.suffix) = has.whole
    ∙ sym (append_assoc front has.content (39 ∷ has.suffix)) in (
      has.unit,
      has.value_is (no_single_suffix (front ++ has.content) has.suffix [] has.is_suffix
          (sym (ap (ends_with 39) split) ∙ ends)),
    )

exact : (kind : Kind ℕ) (front text : List ℕ) (Quoted : Form)
    → (Quoted text [] → HasSingle kind front text (single_value kind front text))
    → ((rest : List ℕ) → text ≡ front ++ rest → Quoted text [])
    → IsExact Quoted text (single_value kind front text)
exact kind front text Quoted has quoted = by_content (single_content front text) refl
  where
    by_content : (o : Option (List ℕ)) → single_content front text ≡ o
        → IsExact Quoted text (single_value kind front text)
    by_content None none =
        let value : single_value kind front text ≡ Err InvalidLiteralKind =
        ap (λ o. value_from_single (option_map (λ content. (single kind content).unit) o)) none in
        subst (IsExact Quoted text) (sym value) (record {
          ok = (
            λ ok. absurd (both_ways _ refl ok),
            λ is.
                let at = unsuffixed_value kind front text (single_value kind front text) (has is.0) is.1 in
                absurd (both_ways _ (ap is_ok value) (ap is_ok at.1)),
          );
          kind = refl;
        })
    by_content (Some content) some =
        let whole = between_splits front (codes "'") text content some in
        let is = quoted (content ++ codes "'") whole in
        let ends : ends_with 39 text ≡ true =
        ap (ends_with 39) (whole ∙ sym (append_assoc front content (codes "'"))) ∙ ends_back 39 (front ++ content) in
        let at = unsuffixed_value kind front text (single_value kind front text) (has is) ends in
        subst (IsExact Quoted text) (sym at.1) (record { ok = (λ ok. (is, ends), λ is. refl); kind = tt })

pub exact_character : (text : List ℕ) → IsLiteralText text → IsExact Character text (char_value text)
exact_character text is =
    exact string_kind (codes "'") text Character (characters_have_units text)
    (λ rest e. begins_character text rest e (begins_quoted 39 text rest refl refl refl is e))

pub exact_byte : (text : List ℕ) → IsLiteralText text → IsExact Byte text (byte_value text)
exact_byte text is =
    exact byte_kind (codes "b'") text Byte (bytes_have_units text)
    (λ rest e. begins_byte text rest e (begins_quoted 98 text (39 ∷ rest) refl refl refl is e))
