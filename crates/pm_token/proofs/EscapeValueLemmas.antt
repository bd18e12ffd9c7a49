-- The value of each escape that the grammar allows, but for hex digits and codes.
use Rattle.std.proofs.Common.{◌≡◌, ℕ, ◌<◌, Bool, true, false, not, ◌&&◌, ◌==◌, nat_lt, List, [], ◌∷◌, codes, Option}
use Rattle.std.proofs.Common.{Some, None, Ok, refl, sym, ap, ◌∙◌, subst, arith, inl, inr, eqb-true, ltb-true}
use Rattle.std.specs.Char.{is_ascii}
use Rattle.std.specs.List.{list_all}
use Rattle.std.proofs.lemmas.Bool.{agree_below, agree_below_at, and_parts, both_ways, cond-false, false_from_ne_true}
use Rattle.std.proofs.lemmas.Bool.{not-true, or_cases}
use Rattle.lexical.specs.Rule.{Stands}
use Rattle.lexical.specs.Quoted as rule
use Rattle.lexical.specs.Quoted.{is_one_of, StringEscape, ByteEscape, CEscape}
use Rattle.literal_escaper.specs.Escape.{escape, letter, letter_unit}
use Rattle.literal_escaper.specs.Kind.{Kind, byte_kind, c_kind, string_kind}
use Rattle.literal_escaper.specs.Units.{c_char}
use Rattle.pm_token.specs.Joined.{Makes, escape_value, meant, numbers, utf8}
use Rattle.pm_token.specs.Value.{unit_bytes}
use Rattle.pm_token.proofs.UnitLemmas.{EscapesAs, Spells, byte_chars, c_chars, one, string_chars}
use Rattle.pm_token.proofs.HexEscapeLemmas.{hex_pair, low_pair, nonzero_pair}
use Rattle.pm_token.proofs.UnicodeEscapeLemmas.{unicode_escapes}

-- ---- letters

one_low : (letters : List ℕ) (c : ℕ) → list_all (λ d. nat_lt d 128) letters ≡ true → is_one_of letters c ≡ true
    → c < 128
one_low [] c low h = absurd (both_ways false refl h)
one_low (d ∷ letters) c low h =
    let parts = and_parts (nat_lt d 128) (list_all (λ d. nat_lt d 128) letters) low in
    elim (or_cases (d == c) (is_one_of letters c) h) [
      | inl same ↦ let e = eqb-true d c same in let lt = ltb-true d 128 parts.0 in omega arith
      | inr more ↦ one_low letters c parts.1 more
    ]

abbrev is_that : Option ℕ → ℕ → Bool
is_that None c = false
is_that (Some d) c = d == c

that_is : (o : Option ℕ) (c : ℕ) → is_that o c ≡ true → o ≡ Some c
that_is None c h = absurd (both_ways false refl h)
that_is (Some d) c h = ap Some (eqb-true d c h)

-- whether the letter is read as the character that it means, which passes, and begins no other kind of escape
abbrev is_letter : (ℕ → Bool) → ℕ → Bool
is_letter passes c = (is_that (letter c) (meant c) && passes (meant c)) &&
    (not (c == 120) && (not (c == 117) && not (c == 10)))

-- whether this is true of each of the letters
abbrev AreLetters : (ℕ → Bool) → List ℕ → Type 0
AreLetters passes letters = (c : ℕ) → is_one_of letters c ≡ true → is_letter passes c ≡ true

letter_escapes : {U : Type 0} (kind : Kind U) (spell : U → List ℕ) (makes : Makes) (passes : ℕ → Bool)
    (letters back r : List ℕ)
    → Spells spell kind.of_char makes.of_char passes → AreLetters passes letters → Stands (rule.simple letters) back r
    → EscapesAs kind spell (92 ∷ back) (escape_value makes back)
unfolding escape
letter_escapes kind spell makes passes letters back r spells are simple =
    let c = simple.0 in
    let parts = and_parts _ _ (are c simple.2) in
    let char = and_parts (is_that (letter c) (meant c)) (passes (meant c)) parts.0 in
    let others = and_parts (not (c == 120)) _ parts.1 in
    let more = and_parts (not (c == 117)) (not (c == 10)) others.1 in
    let gives = spells (meant c) char.1 in
    let read : letter_unit kind (letter c) ≡ Ok gives.unit = ap (letter_unit kind) (that_is (letter c) (meant c) char.0)
    ∙ gives.is in
    subst (λ p. EscapesAs kind spell (92 ∷ p) (escape_value makes p)) (sym simple.1) (
    record {
      unit = gives.unit;
      escapes = record {
        letter = c;
        back = [];
        whole = refl;
        no_line = not-true _ more.1;
        gives = λ rest. cond-false _ _ _ (not-true _ others.0)
            ∙ (cond-false _ _ _ (not-true _ more.0) ∙ ap (λ u. record { unit = u; rest = rest }) read);
      };
      value_is = gives.value_is ∙ sym (cond-false _ _ _ (not-true _ others.0) ∙ cond-false _ _ _ (not-true _ more.0));
    })

-- ASCII letters are tested one by one
letters_are : (passes : ℕ → Bool) (letters : List ℕ) → list_all (λ d. nat_lt d 128) letters ≡ true
    → agree_below (λ x. is_one_of letters x && is_letter passes x) (is_one_of letters) 128 ≡ true
    → AreLetters passes letters
letters_are passes letters low agree c h =
    (and_parts (is_one_of letters c) (is_letter passes c)
    (agree_below_at (λ x. is_one_of letters x && is_letter passes x) (is_one_of letters) 128 c agree
    (one_low letters c low h) ∙ h)).1

-- ---- escapes

pub string_escape : (back r : List ℕ) → StringEscape back r
    → EscapesAs string_kind one (92 ∷ back) (escape_value numbers back)
string_escape back r (inl simple) =
    letter_escapes string_kind one numbers (λ c. true) (codes "nrt\\0'\"") back r string_chars
    (letters_are (λ c. true) (codes "nrt\\0'\"") refl refl) simple
string_escape back r (inr (inl hex)) = low_pair back r hex
string_escape back r (inr (inr code)) = unicode_escapes string_kind one numbers (λ n. true) back r string_chars code

pub byte_escape : (back r : List ℕ) → ByteEscape back r
    → EscapesAs byte_kind one (92 ∷ back) (escape_value numbers back)
byte_escape back r (inl simple) =
    letter_escapes byte_kind one numbers is_ascii (codes "nrt\\0'\"") back r byte_chars
    (letters_are is_ascii (codes "nrt\\0'\"") refl refl) simple
byte_escape back r (inr (inl hex)) = hex_pair back r hex
byte_escape back r (inr (inr code)) =
    unicode_escapes byte_kind one numbers (λ n. false) back r (λ n e. absurd (both_ways false refl e)) code

pub c_escape : (back r : List ℕ) → CEscape back r → EscapesAs c_kind unit_bytes (92 ∷ back) (escape_value utf8 back)
c_escape back r (inl simple) =
    letter_escapes c_kind unit_bytes utf8 (λ c. not (c == 0)) (codes "nrt\\'\"") back r c_chars
    (letters_are (λ c. not (c == 0)) (codes "nrt\\'\"") refl refl) simple
c_escape back r (inr (inl hex)) = nonzero_pair back r hex
c_escape back r (inr (inr code)) = unicode_escapes c_kind unit_bytes utf8 (λ n. nat_lt 0 n) back r some_chars code
  where
    some_chars : Spells unit_bytes c_char utf8.of_char (λ n. nat_lt 0 n)
    some_chars n h =
        let some = ltb-true 0 n h in
        c_chars n (ap not (false_from_ne_true (n == 0) (λ e. let none = eqb-true n 0 e in absurd (omega arith))))
