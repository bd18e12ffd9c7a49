-- The value of a content without CR is what the units of the grammar give.
use Rattle.std.proofs.Common.{◌≡◌, ℕ, nat_eq, Bool, true, false, cond, not, ◌&&◌, ◌||◌, ◌==◌, ne_eqb, List, [], ◌∷◌}
use Rattle.std.proofs.Common.{◌++◌, codes, Option, Some, None, Ok, map-id, refl, sym, ap, ap₂, ◌∙◌, subst, inl, inr}
use Rattle.std.proofs.Math.Bool.{or-false}
use Rattle.std.specs.Char.{is_ascii}
use Rattle.std.specs.Cmp.Lexicographic.{pointwise}
use Rattle.std.specs.List.{concat, flat_map, list_all}
use Rattle.std.specs.Option.{option_map}
use Rattle.std.specs.Str.{encode_utf8_all}
use Rattle.std.specs.declared.ops.Range.{Range}
use Rattle.std.proofs.lemmas.Bool.{both_ways, and_parts, cond-false, eqb-false, not-true}
use Rattle.std.proofs.lemmas.List.Concat.{flat_map_single}
use Rattle.std.proofs.lemmas.List.Folds.{list_all-append}
use Rattle.lexical.specs.Form.{Form, Each, Either, Many}
use Rattle.lexical.specs.Quoted.{BodyUnit, ByteEscape, ByteUnit, CEscape, CUnit, Continuation, Str, StringUnit}
use Rattle.lexical.specs.Quoted.{StringEscape, is_byte_plain, is_c_plain, is_string_plain}
use Rattle.literal_escaper.specs.declared.errors.EscapeError.TheVariants.{MultipleSkippedLinesWarning}
use Rattle.literal_escaper.specs.declared.errors.EscapeError.TheVariants.{UnskippedWhitespaceWarning}
use Rattle.literal_escaper.specs.Character.{is_blank as blank}
use Rattle.literal_escaper.specs.Items.{Item, front, items, items_from, line_skip, lines_range, warning_at, white_range}
use Rattle.literal_escaper.specs.Kind.{Kind, byte_kind, c_kind, string_kind}
use Rattle.literal_escaper.specs.Text.{bytes, while_front, while_rest}
use Rattle.literal_escaper.specs.Value.{value_of}
use Rattle.literal_escaper.proofs.ItemLemmas.{items_past}
use Rattle.pm_token.specs.Content.{raw_content}
use Rattle.pm_token.specs.Joined.{Makes, escape_value, is_blank, is_skipped, units_value, numbers, unit_value, utf8}
use Rattle.pm_token.specs.Value.{c_bytes, with_zero, unit_bytes, units, value_from}
use Rattle.pm_token.specs.ValueLaws.{ByteStringsHaveValues, CStringsHaveValues, StringsHaveValues, cooked_text}
use Rattle.pm_token.proofs.ContentLemmas.{between_within}
use Rattle.pm_token.proofs.EscapeValueLemmas.{byte_escape, c_escape, string_escape}
use Rattle.pm_token.proofs.UnitLemmas.{EscapesAs, Spells, byte_chars, c_chars, one, string_chars}
use Rattle.pm_token.proofs.SuffixLemmas.{content_units}
use Rattle.pm_token.proofs.ReadLemmas.{Alone, Begins, Give, begins_alone, begins_escape, give_front, give_none}
use Rattle.pm_token.proofs.ReadLemmas.{given_value}

-- ---- line ends that are skipped

give_warning : {U : Type 0} (o : Option (Range ℕ)) (items : List (Item U)) (units : List U) → Give items units
    → Give (warning_at UnskippedWhitespaceWarning o ++ items) units
give_warning None items units give = give
give_warning (Some range) items units give = record { sound = give.sound; all = give.all }

give_warnings : {U : Type 0} (o more : Option (Range ℕ)) (items : List (Item U)) (units : List U) → Give items units
    → Give ((warning_at MultipleSkippedLinesWarning o ++ warning_at UnskippedWhitespaceWarning more) ++ items) units
give_warnings None more items units give = give_warning more items units give
give_warnings (Some range) more items units give =
    let past = give_warning more items units give in record { sound = past.sound; all = past.all }

give_line : {U : Type 0} (kind : Kind U) (end : ℕ) (line : List ℕ) (units : List U)
    → Give (items_from kind end (while_rest blank line)) units
    → Give (items_from kind end (92 ∷ 10 ∷ line)) units
unfolding front line_skip
give_line kind end line units give =
    let rest = while_rest blank line in
    subst (λ items. Give items units) (sym (items_past kind end (92 ∷ 10 ∷ line)))
    (give_warnings (lines_range end (92 ∷ 10 ∷ line) (while_front blank line) rest)
    (white_range end (92 ∷ 10 ∷ line) rest)
    (items_from kind end rest) units give)

-- ---- the units of the grammar

or_none : (a b : Bool) → (a || b) ≡ false → (a ≡ false) × (b ≡ false)
or_none true b h = absurd (both_ways true h refl)
or_none false b h = (refl, h)

eqb_flip : (c d : ℕ) → (d == c) ≡ false → (c == d) ≡ false
eqb_flip c d e = ne_eqb c d (λ same. eqb-false d c e (sym same))

-- a character that is a unit alone
alone : {U : Type 0} (kind : Kind U) (c : ℕ) (unit : U) → is_string_plain c ≡ true → kind.of_char c ≡ Ok unit
    → Alone kind c unit
alone kind c unit plain is =
    let quote = or_none (34 == c) _ (not-true _ plain) in
    let backslash = or_none (92 == c) _ quote.1 in
    let return = or_none (13 == c) _ backslash.1 in
    record {
      unit_is = is;
      no_return = eqb_flip c 13 return.0;
      no_backslash = eqb_flip c 92 backslash.0;
      no_quote =
          eqb_flip c 34 quote.0;
    }

-- what a kind must provide: a unit with the right value for each character that may be alone, and for each escape
pub record Fits {U : Type 0} (kind : Kind U) (spell : U → List ℕ) (makes : Makes) (plain : ℕ → Bool)
    (Escape : Form) : Type 0 where
  pub bare : (c : ℕ) → plain c ≡ true → is_string_plain c ≡ true
  pub char : Spells spell kind.of_char makes.of_char plain
  pub escape : (back r : List ℕ) → Escape back r → EscapesAs kind spell (92 ∷ back) (escape_value makes back)

-- whether the text has no error, and its units give this value
record Has {U : Type 0} (kind : Kind U) (spell : U → List ℕ) (end : ℕ) (text value : List ℕ) : Type 0 where
  units : List U
  give : Give (items_from kind end text) units
  value_is : flat_map spell units ≡ value

abbrev no_return : List ℕ → Bool
no_return text = list_all (λ c. not (c == 13)) text

-- blanks but CR are skipped
skips : (c : ℕ) → (c == 13) ≡ false → (c == 92) ≡ false → is_skipped true (c ∷ []) ≡ blank c
skips c return backslash =
    ap (λ b. (b && false) || is_blank (c ∷ [])) backslash
    ∙ sym (ap (λ b. is_blank (c ∷ []) || b) return ∙ or-false (is_blank (c ∷ [])))

-- an escape isn't skipped
escape_stands : (letter : ℕ) (back : List ℕ) (skipping : Bool) → (letter == 10) ≡ false
    → is_skipped skipping (92 ∷ letter ∷ back) ≡ false
escape_stands letter back true line = ap (λ b. (b && pointwise nat_eq back []) || false) line
escape_stands letter back false line = ap (λ b. (b && pointwise nat_eq back []) || false) line

module _ {U : Type 0} (kind : Kind U) (spell : U → List ℕ) (makes : Makes) (end : ℕ) where
  -- what the units of the grammar give, both if blanks at the start are kept and if they are skipped
  abbrev HasBoth : List ℕ → List (List ℕ) → Type 0
  HasBoth text parts = Has kind spell end text (units_value makes false parts)
      × Has kind spell end (while_rest blank text) (units_value makes true parts)

  has_front : (text rest : List ℕ) (unit : U) (one more : List ℕ) → Begins kind end text unit rest → spell unit ≡ one
      → Has kind spell end rest more
      → Has kind spell end text (one ++ more)
  has_front text rest unit one more begins is has =
      record {
        units = unit ∷ has.units;
        give = give_front kind end text unit rest has.units begins has.give;
        value_is = ap₂ (λ x y. x ++ y) is has.value_is;
      }

  -- the one of two facts that the test selects
  has_chosen : (b : Bool) (text other value another : List ℕ) → Has kind spell end text value
      → Has kind spell end other another
      → Has kind spell end (cond b text other) (cond b value another)
  has_chosen true text other value another has more = has
  has_chosen false text other value another has more = more

  -- the first unit is a character alone
  has_plain : (c : ℕ) (rest : List ℕ) (parts : List (List ℕ)) (unit : U) → Alone kind c unit
      → spell unit ≡ makes.of_char c → HasBoth rest parts
      → HasBoth (c ∷ rest) ((c ∷ []) ∷ parts)
  has_plain c rest parts unit is gives has =
      let value = unit_value makes (c ∷ []) in
      let value_is : spell unit ≡ value = gives ∙ sym (cond-false _ _ _ is.no_backslash) in
      let here = has_front (c ∷ rest) rest unit value (units_value makes false parts)
      (begins_alone kind end c unit rest is) value_is has.0 in
      let both = has_chosen (blank c) (while_rest blank rest) (c ∷ rest) (units_value makes true parts)
      (value ++ units_value makes false parts) has.1 here in (
        subst (λ b. Has kind spell end (c ∷ rest)
            (cond b (units_value makes true parts) (value ++ units_value makes false parts)))
            (sym (ap (λ b. (b && false) || false) is.no_backslash)) here,
        subst (λ b. Has kind spell end (while_rest blank (c ∷ rest))
            (cond b (units_value makes true parts) (value ++ units_value makes false parts)))
            (sym (skips c is.no_return is.no_backslash)) both,
      )

  -- the first unit is an escape
  has_escape : (back rest : List ℕ) (parts : List (List ℕ)) → EscapesAs kind spell (92 ∷ back) (escape_value makes back)
      → HasBoth rest parts
      → HasBoth (92 ∷ (back ++ rest)) ((92 ∷ back) ∷ parts)
  has_escape back rest parts is has = (with false, with true)
    where
      here : Has kind spell end (92 ∷ (back ++ rest)) (escape_value makes back ++ units_value makes false parts)
      here = has_front (92 ∷ (back ++ rest)) rest is.unit (escape_value makes back) (units_value makes false parts)
          (begins_escape kind end (92 ∷ back) is.unit rest is.escapes) is.value_is has.0

      stands : (skipping : Bool) → is_skipped skipping (92 ∷ back) ≡ false
      stands skipping = ap (is_skipped skipping) is.escapes.whole
          ∙ escape_stands is.escapes.letter is.escapes.back skipping is.escapes.no_line

      with : (skipping : Bool) → Has kind spell end (92 ∷ (back ++ rest))
          (units_value makes skipping ((92 ∷ back) ∷ parts))
      with skipping =
          subst (λ b. Has kind spell end (92 ∷ (back ++ rest))
          (cond b (units_value makes true parts) (escape_value makes back ++ units_value makes false parts)))
          (sym (stands skipping)) here

  -- the first unit is a line end after a backslash
  has_line : (rest : List ℕ) (parts : List (List ℕ)) → HasBoth rest parts
      → HasBoth (92 ∷ 10 ∷ rest) ((92 ∷ 10 ∷ []) ∷ parts)
  has_line rest parts has =
      let here : Has kind spell end (92 ∷ 10 ∷ rest) (units_value makes true parts) =
      record {
        units = has.1.units;
        give = give_line kind end rest has.1.units has.1.give;
        value_is =
            has.1.value_is;
      } in
      (here, here)

  module _ (plain : ℕ → Bool) (Escape : Form) (fits : Fits kind spell makes plain Escape) where
    has_unit : (unit rest r : List ℕ) (parts : List (List ℕ)) → no_return (unit ++ rest) ≡ true
        → BodyUnit plain Escape unit r → HasBoth rest parts
        → HasBoth (unit ++ rest) (unit ∷ parts)
    has_unit unit rest r parts clean (inl one) has =
        let gives = fits.char one.0 one.2 in
        subst (λ p. HasBoth (p ++ rest) (p ∷ parts)) (sym one.1)
        (has_plain one.0 rest parts gives.unit (alone kind one.0 gives.unit (fits.bare one.0 one.2) gives.is)
        gives.value_is has)
    has_unit unit rest r parts clean (inr (inl newline)) has =
        absurd (both_ways false refl (ap (λ p. no_return (p ++ rest)) (sym newline) ∙ clean))
    has_unit unit rest r parts clean (inr (inr then)) has =
        subst (λ p. HasBoth (p ++ rest) (p ∷ parts)) (sym whole) (rest_after then.second)
      where
        whole : unit ≡ 92 ∷ then.back
        whole = then.whole ∙ ap (λ p. p ++ then.back) then.first

        rest_after : Either Continuation Escape then.back r
            → HasBoth (92 ∷ (then.back ++ rest)) ((92 ∷ then.back) ∷ parts)
        rest_after (inl (inl line)) =
            subst (λ p. HasBoth (92 ∷ (p ++ rest)) ((92 ∷ p) ∷ parts)) (sym line) (has_line rest parts has)
        rest_after (inl (inr newline)) =
            absurd (both_ways false refl
            (sym (ap (λ p. no_return (p ++ rest)) (whole ∙ ap (λ p. 92 ∷ p) newline)) ∙ clean))
        rest_after (inr escaped) = has_escape then.back rest parts (fits.escape then.back r escaped) has

    has_units : (parts : List (List ℕ)) (r : List ℕ) → no_return (concat parts) ≡ true
        → Each (BodyUnit plain Escape) parts r → HasBoth (concat parts) parts
    has_units [] r clean each =
        let none : Has kind spell end [] [] = record { units = []; give = give_none kind end; value_is = refl } in
        (none, none)
    has_units (unit ∷ parts) r clean each =
        let more = and_parts _ _ (sym (list_all-append (λ c. not (c == 13)) unit (concat parts)) ∙ clean) in
        has_unit unit (concat parts) (concat parts ++ r) parts clean each.0 (has_units parts r more.1 each.1)

-- whether the content has no error, and its units give this value
record Reads {U : Type 0} (kind : Kind U) (spell : U → List ℕ) (content value : List ℕ) : Type 0 where
  units : List U
  is : value_of (items kind content) ≡ Ok units
  value_is : flat_map spell units ≡ value

reads : {U : Type 0} (kind : Kind U) (spell : U → List ℕ) (makes : Makes) (plain : ℕ → Bool) (Escape : Form)
    (content r : List ℕ)
    → Fits kind spell makes plain Escape → no_return content ≡ true
    → (many : Many (BodyUnit plain Escape) content r) → Reads kind spell content (units_value makes false many.units)
reads kind spell makes plain Escape content r fits clean many =
    let has = has_units kind spell makes (bytes content) plain Escape fits many.units r
    (ap no_return (sym many.whole) ∙ clean) many.each in
    let here = subst (λ text. Has kind spell (bytes content) text (units_value makes false many.units))
    (sym many.whole) has.0 in
    record { units = here.units; is = given_value (items kind content) here.units here.give; value_is = here.value_is }

-- ---- the three kinds

string_fits : Fits string_kind one numbers is_string_plain StringEscape
string_fits = record { bare = λ c plain. plain; char = λ c plain. string_chars c refl; escape = string_escape }

byte_fits : Fits byte_kind one numbers is_byte_plain ByteEscape
byte_fits = record {
  bare = λ c plain. (and_parts (is_string_plain c) (is_ascii c) plain).0;
  char = λ c plain. byte_chars c (and_parts (is_string_plain c) (is_ascii c) plain).1;
  escape = byte_escape;
}

c_fits : Fits c_kind unit_bytes utf8 is_c_plain CEscape
c_fits = record {
  bare = λ c plain. (and_parts (is_string_plain c) (not (c == 0)) plain).0;
  char = λ c plain. c_chars c (and_parts (is_string_plain c) (not (c == 0)) plain).1;
  escape = c_escape;
}

-- numbers give themselves
ones : (units : List ℕ) → flat_map one units ≡ units
ones units = flat_map_single (λ n. n) units ∙ map-id units

pub strings_have_values : StringsHaveValues
unfolding Str
strings_have_values content is clean = record {
  units = content_units (codes "\"") content StringUnit is;
  value_is = λ body. let has = reads string_kind one numbers is_string_plain StringEscape content
      (codes "\"") string_fits clean body in
      ap (λ o. value_from (option_map (units string_kind) o) raw) (between_within (codes "\"") (codes "\"") content)
      ∙ (ap (λ v. value_from (Some v) raw) has.is ∙ ap Ok (sym (ones has.units) ∙ has.value_is));
}
  where
    raw : Option (List ℕ)
    raw = raw_content (codes "r") (cooked_text (codes "\"") content)

pub byte_strings_have_values : ByteStringsHaveValues
byte_strings_have_values content is clean = record {
  units = content_units (codes "b\"") content ByteUnit is;
  value_is = λ body. let has = reads byte_kind one numbers is_byte_plain ByteEscape content
      (codes "\"") byte_fits clean body in
      ap (λ o. value_from (option_map (units byte_kind) o) raw) (between_within (codes "b\"") (codes "\"") content)
      ∙ (ap (λ v. value_from (Some v) raw) has.is ∙ ap Ok (sym (ones has.units) ∙ has.value_is));
}
  where
    raw : Option (List ℕ)
    raw = option_map encode_utf8_all (raw_content (codes "br") (cooked_text (codes "b\"") content))

pub c_strings_have_values : CStringsHaveValues
c_strings_have_values content is clean = record {
  units = content_units (codes "c\"") content CUnit is;
  value_is = λ body. let has = reads c_kind unit_bytes utf8 is_c_plain CEscape content (codes "\"") c_fits clean body in
      ap (λ o. value_from (option_map (λ text. c_bytes (units c_kind text)) o) raw)
      (between_within (codes "c\"") (codes "\"") content)
      ∙ (ap (λ v. value_from (Some (c_bytes v)) raw) has.is ∙ ap (λ v. Ok (with_zero v)) has.value_is);
}
  where
    raw : Option (List ℕ)
    raw = option_map (λ text. with_zero (encode_utf8_all text))
        (raw_content (codes "cr") (cooked_text (codes "c\"") content))
