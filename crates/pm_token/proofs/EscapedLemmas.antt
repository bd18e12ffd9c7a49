-- What the constructors write is a literal of the grammar.
use Rattle.std.proofs.Common.{◌≡◌, ℕ, ◌≤◌, Bool, true, false, not, ◌&&◌, ◌==◌, List, [], ◌∷◌, ◌++◌, codes, length, refl}
use Rattle.std.proofs.Common.{sym, ap, ne_eqb, ◌∙◌, subst, arith, inl, inr, append-nil}
use Rattle.std.specs.Prelude.{filter}
use Rattle.std.specs.List.{concat}
use Rattle.std.specs.Char.{IsScalar, digit_char, is_ascii_hexdigit}
use Rattle.std.specs.Char.Escape.{escape_unicode}
use Rattle.std.proofs.lemmas.Bool.{cond_both, and_from, and_parts, or_from, or_parts, not-true, eqb-false, le-leb}
use Rattle.lexical.specs.Text.{first_passes}
use Rattle.lexical.specs.Form.{Form, Then, Exactly, Many, Each}
use Rattle.lexical.specs.Rule.{Rule, Stands}
use Rattle.lexical.specs.Quoted as rule
use Rattle.lexical.specs.Quoted.{is_one_of, is_octal_digit, is_scalar, hex_value, is_string_plain, StringEscape}
use Rattle.lexical.specs.Quoted.{BodyUnit, StringUnit, Suffix, Str}
use Rattle.lexical.specs.SingleQuoted.{is_char_plain, SingleUnit, Character}
use Rattle.lexical.specs.Literal.{IsLiteralToken}
use Rattle.lexical.specs.Literal as literals
use Rattle.lexical.specs.Token.{Literal}
use Rattle.pm_token.specs.Built.{IsBuiltToken}
use Rattle.lexical.proofs.ClassLemmas.{any_of}
use Rattle.lexical.proofs.QuotedLemmas.{EndsSuffix, no_name, stops, stop_ends}
use Rattle.pm_token.specs.Escaped.{is_bare, written_char, char_text, content, string_text, character_text}
use Rattle.pm_token.specs.Text.{IsText}
use Rattle.pm_token.proofs.HexLemmas.{digits_of, IsCoded, escape_is_coded, hex_digit, hex_digits, length_digits}
use Rattle.pm_token.proofs.HexLemmas.{hex_value-digits}
use Rattle.pm_token.proofs.HexLemmas.{is_scalar-IsScalar}
use Rattle.pm_token.proofs.TextLemmas.{text_literal}

-- ---- one character

-- whether the character is neither this quote nor a backslash, LF, CR or tab
abbrev pub is_plain : ℕ → ℕ → Bool
is_plain quote c = not (is_one_of (quote ∷ codes "\\\n\r\t") c)

-- whether a kind of literal allows what is written for c: the letters after a backslash, zeros, and c without them
pub record Allows (class : ℕ → Bool) (Escape : Form) (plain : ℕ → List ℕ) (quote c : ℕ) : Type 0 where
  pub letter : (letter : ℕ) (r : List ℕ) → is_one_of (codes "nrt\\'\"") letter ≡ true → Escape (letter ∷ []) r
  pub zeros : (r : List ℕ) → (c == 0) ≡ true → Escape (codes "0") r × Escape (codes "x00") r
  pub other : (r : List ℕ) → is_plain quote c ≡ true → SingleUnit class Escape (plain c) r

unit_of_escape : (class : ℕ → Bool) (Escape : Form) (back r : List ℕ) → Escape back r
    → SingleUnit class Escape (92 ∷ back) r
unit_of_escape class Escape back r is =
    inr (record { front = codes "\\"; back = back; whole = refl; first = refl; second = is })

eqb_flip : (c d : ℕ) → (c == d) ≡ false → (d == c) ≡ false
eqb_flip c d e = ne_eqb d c (λ same. eqb-false c d e (sym same))

-- any other character is plain
bare : (quote c : ℕ) → (c == 9) ≡ false → (c == 13) ≡ false → (c == 10) ≡ false → (c == 92) ≡ false
    → (c == quote) ≡ false
    → is_plain quote c ≡ true
bare quote c tab cr lf backslash other =
    ap not (or_from _ _ (eqb_flip c quote other) (or_from _ _ (eqb_flip c 92 backslash)
    (or_from _ _ (eqb_flip c 10 lf) (or_from _ _ (eqb_flip c 13 cr) (or_from _ _ (eqb_flip c 9 tab) refl)))))

-- what is written for a character is a unit, whatever follows
pub written_stands : (class : ℕ → Bool) (Escape : Form) (plain : ℕ → List ℕ) (quote c : ℕ) (rest r : List ℕ)
    → Allows class Escape plain quote c
    → is_one_of (codes "nrt\\'\"") quote ≡ true → SingleUnit class Escape (char_text quote plain c rest) r
written_stands class Escape plain quote c rest r allows is =
    cond_both ((c == 0) && first_passes is_octal_digit rest) _ _ (λ p. SingleUnit class Escape p r)
    (λ e. unit_of_escape class Escape _ r (allows.zeros r (and_parts _ _ e).0).1)
    (λ e. cond_both (c == 0) _ _ (λ p. SingleUnit class Escape p r)
    (λ e. unit_of_escape class Escape _ r (allows.zeros r e).0)
    (λ e. cond_both (c == 9) _ _ (λ p. SingleUnit class Escape p r) (λ e. short 116 refl)
    (λ tab. cond_both (c == 13) _ _ (λ p. SingleUnit class Escape p r) (λ e. short 114 refl)
    (λ cr. cond_both (c == 10) _ _ (λ p. SingleUnit class Escape p r) (λ e. short 110 refl)
    (λ lf. cond_both (c == 92) _ _ (λ p. SingleUnit class Escape p r) (λ e. short 92 refl)
    (λ backslash. cond_both (c == quote) _ _ (λ p. SingleUnit class Escape p r) (λ e. short quote is)
    (λ other. allows.other r (bare quote c tab cr lf backslash other))))))))
  where
    short : (letter : ℕ) → is_one_of (codes "nrt\\'\"") letter ≡ true → SingleUnit class Escape (92 ∷ letter ∷ []) r
    short letter is = unit_of_escape class Escape (letter ∷ []) r (allows.letter letter r is)

-- ---- characters of strings

code : (allowed : ℕ → Bool) (c : ℕ) (p r : List ℕ) (is : IsCoded c p) → IsScalar c → allowed c ≡ true
    → Stands (rule.code allowed) (digits_of (is.first ∷ is.others)) (125 ∷ r)
code allowed c p r is scalar fits =
    let digits = is.first ∷ is.others in
    let count : length (filter is_ascii_hexdigit (digits_of digits)) ≤ 6 =
    omega (arith, length_digits digits is.hex, is.few) in
    let number : hex_value (digits_of digits) ≡ c = hex_value-digits digits is.hex ∙ is.value in (
      record {
        front = digit_char is.first ∷ [];
        back = digits_of is.others;
        whole = refl;
        first = (digit_char is.first, refl, hex_digit is.first is.hex.0);
        second = record { each = hex_digits is.others is.hex.1; stops = refl };
      },
      and_from _ _ (le-leb _ _ count)
          (and_from _ _ (ap is_scalar number ∙ is_scalar-IsScalar c scalar) (ap allowed number ∙ fits)),
    )

-- the escape with a character's number
pub unicode : (letters : List ℕ) (pair : Rule) (allowed class : ℕ → Bool) (c : ℕ) (r : List ℕ) → IsScalar c
    → allowed c ≡ true
    → SingleUnit class (Stands (rule.escape_of letters pair allowed)) (escape_unicode c) r
unicode letters pair allowed class c r scalar fits =
    let is = escape_is_coded c scalar in
    let digits = digits_of (is.first ∷ is.others) in
    subst (λ q. SingleUnit class (Stands (rule.escape_of letters pair allowed)) q r) (sym is.whole)
    (unit_of_escape class (Stands (rule.escape_of letters pair allowed)) (117 ∷ 123 ∷ (digits ++ 125 ∷ [])) r
    (inr (inr (record {
      front = codes "u{";
      back = digits ++ 125 ∷ [];
      whole = refl;
      first = refl;
      second = record {
        front = digits;
        back = 125 ∷ [];
        whole = refl;
        first =
            code allowed c (escape_unicode c) r is scalar fits;
        second = refl;
      };
    }))))

-- a letter of the shorter list is in the longer one
pub letter_of_all : (letter : ℕ)
    → is_one_of (codes "nrt\\'\"") letter ≡ true → is_one_of (codes "nrt\\0'\"") letter ≡ true
letter_of_all letter is =
    any_of (λ d. is_one_of (codes "nrt\\0'\"") d ≡ true) (codes "nrt\\'\"") letter
    (refl, (refl, (refl, (refl, (refl, (refl, tt)))))) is

zeros_of_string : (r : List ℕ) → StringEscape (codes "0") r × StringEscape (codes "x00") r
zeros_of_string r = (
  inl (48, refl, refl),
  inr (inl (record {
    front = codes "x";
    back = codes "00";
    whole = refl;
    first = refl;
    second = record {
      front = codes "0";
      back = codes "0";
      whole = refl;
      first = (48, refl, refl);
      second =
          (48, refl, refl);
    };
  })),
)

-- strings and characters allow what is written for a character
allows_char : (class : ℕ → Bool) (quote c : ℕ) → IsScalar c → ((d : ℕ) → is_plain quote d ≡ true → class d ≡ true)
    → Allows class StringEscape written_char quote c
allows_char class quote c scalar within = record {
  letter = λ letter r is. inl (letter, refl, letter_of_all letter is);
  zeros = λ r e. zeros_of_string r;
  other = λ r plain. cond_both (is_bare c) (c ∷ []) (escape_unicode c) (λ p. SingleUnit class StringEscape p r)
      (λ e. inl (c, refl, within c plain))
      (λ e. unicode (codes "nrt\\0'\"") rule.low_pair (λ n. true) class c r scalar refl);
}

-- ---- bodies

pub string_plain : (c : ℕ) → is_plain 34 c ≡ true → is_string_plain c ≡ true
string_plain c is =
    let parts = or_parts (34 == c) _ (not-true _ is) in
    let others = or_parts (92 == c) _ parts.1 in
    let more = or_parts (13 == c) _ (or_parts (10 == c) _ others.1).1 in
    ap not (or_from _ _ parts.0 (or_from _ _ others.0 (or_from _ _ more.0 refl)))

pub body_unit : (class : ℕ → Bool) (Escape : Form) (p r : List ℕ) → SingleUnit class Escape p r
    → BodyUnit class Escape p r
body_unit class Escape p r is = elim is [
  | inl one ↦ inl one
  | inr escape ↦ inr (inr (record {
    front = escape.front;
    back = escape.back;
    whole = escape.whole;
    first =
        escape.first;
    second = inr escape.second;
  }))
]

-- the text of each character, as it is written
abbrev pub units_of : ℕ → (ℕ → List ℕ) → List ℕ → List (List ℕ)
units_of quote plain [] = []
units_of quote plain (c ∷ rest) = char_text quote plain c rest ∷ units_of quote plain rest

pub content_units : (quote : ℕ) (plain : ℕ → List ℕ) (text : List ℕ)
    → content quote plain text ≡ concat (units_of quote plain text)
content_units quote plain [] = refl
content_units quote plain (c ∷ rest) = ap (λ p. char_text quote plain c rest ++ p) (content_units quote plain rest)

each_unit : (text r : List ℕ) → IsText text → Each StringUnit (units_of 34 written_char text) r
each_unit [] r all = tt
each_unit (c ∷ rest) r all =
    let parts = and_parts _ _ all in (
      body_unit is_string_plain StringEscape _ _
          (written_stands is_string_plain StringEscape written_char 34 c rest
          (concat (units_of 34 written_char rest) ++ r)
          (allows_char is_string_plain 34 c parts.0 string_plain) refl),
      each_unit rest r parts.1,
    )

string_body : (text r : List ℕ) → IsText text → Many StringUnit (content 34 written_char text) r
string_body text r all = record {
  units = units_of 34 written_char text;
  whole = content_units 34 written_char text;
  each = each_unit text r all;
}

-- ---- literals

-- the end of a literal without a suffix
pub close_without_suffix : (close r : List ℕ) → EndsSuffix r → Then (Exactly close) Suffix close r
close_without_suffix close r ends = record {
  front = close;
  back = [];
  whole = sym (append-nil close);
  first = refl;
  second =
      inr (no_name r ends.start, refl);
}

-- the literal is a string before anything that can't continue a suffix
pub string_stands : (text r : List ℕ) → IsText text → EndsSuffix r → Str (string_text text) r
unfolding Str
string_stands text r all ends = record {
  front = codes "\"";
  back = content 34 written_char text ++ codes "\"";
  whole = refl;
  first = refl;
  second = record {
    front = content 34 written_char text;
    back = codes "\"";
    whole = refl;
    first = string_body text (34 ∷ r) all;
    second = close_without_suffix (codes "\"") r ends;
  };
}

pub string_before_stop : (text r : List ℕ) → IsText text → stops r ≡ true → Str (string_text text) r
string_before_stop text r all stop = string_stands text r all (stop_ends r stop)

-- what `string` writes is a whole literal
pub string_whole : (text : List ℕ) → IsText text → IsLiteralToken (string_text text)
unfolding IsLiteralToken literals.Literal
string_whole text all = inl (inl (inl (inl (string_before_stop text [] all refl))))

-- what `character` writes is a whole literal
pub character_stands : (c : ℕ) (r : List ℕ) → IsScalar c → EndsSuffix r → Character (character_text c) r
character_stands c r scalar ends = record {
  front = codes "'";
  back = char_text 39 written_char c [] ++ codes "'";
  whole = refl;
  first = refl;
  second = record {
    front = char_text 39 written_char c [];
    back = codes "'";
    whole = refl;
    first = written_stands is_char_plain StringEscape written_char 39 c [] (39 ∷ r)
        (allows_char is_char_plain 39 c scalar (λ d plain. plain)) refl;
    second = close_without_suffix (codes "'") r ends;
  };
}

pub character_whole : (c : ℕ) → IsScalar c → IsLiteralToken (character_text c)
unfolding IsLiteralToken literals.Literal
character_whole c scalar = inl (inl (inr (inl (character_stands c [] scalar (stop_ends [] refl)))))

-- the string literal for a doc comment is a valid token
pub doc_built : (text : List ℕ) → IsText text → IsBuiltToken (Literal (string_text text))
doc_built text all = (string_whole text all, text_literal text all)
