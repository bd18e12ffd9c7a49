-- The text of an integer is a whole literal.
use Rattle.std.proofs.Common.{◌≡◌, ℕ, ◌<◌, ◌^◌, ℤ, pos, negsuc, Bool, true, false, ◌||◌, ◌==◌, List, [], ◌∷◌, ◌++◌}
use Rattle.std.proofs.Common.{codes, Some, refl, ap, ◌∙◌, subst, arith, ap₂, inl, inr, drop, eqb-true, SFits, suc}
use Rattle.std.specs.List.{list_all}
use Rattle.std.specs.Char.{is_ascii_digit, digit_value}
use Rattle.std.specs.Str.{chars, IsAscii}
use Rattle.std.specs.Fmt.{decimal, signed_decimal}
use Rattle.std.specs.Int.{w64, w128}
use Rattle.std.specs.Prelude.{int_lt, unsigned_abs}
use Rattle.std.specs.Str.Parse.{AllDigits, IsNumeral}
use Rattle.std.proofs.lemmas.Bool.{both_ways, and_parts, and_from, or_left, or_cases, le-leb, ltb-true}
use Rattle.std.proofs.lemmas.Bool.{false_from_ne_true}
use Rattle.std.proofs.lemmas.Fmt.{decimal_is_IsNumeral_wide, IsAscii-decimal_wide}
use Rattle.std.proofs.lemmas.Str.{chars-append, chars-IsAscii, IsUtf8-from_ascii}
use Rattle.std.proofs.lemmas.Str.Ascii.{IsAscii-cons}
use Rattle.std.proofs.lemmas.Str.Parse.{digit_from_value}
use Rattle.unicode_ident.proofs.Computing.{unicode_ident}
use Rattle.lexical.specs.Ascii.{all_ascii}
use Rattle.lexical.specs.Text.{begins_with, begins_any, first_passes}
use Rattle.lexical.specs.Number.{Number, Digits, is_digit_or_underscore, base_prefixes, number, tail}
use Rattle.lexical.specs.Rule.{find}
use Rattle.lexical.specs.Literal.{Literal}
use Rattle.lexical.specs.Finder.{prepend, and_find}
use Rattle.lexical.proofs.StripLemmas.{is_ascii}
use Rattle.lexical.proofs.TextLemmas.{begins_splits}
use Rattle.lexical.proofs.FinderLemmas.{found_is}
use Rattle.lexical.proofs.NumberFinderLemmas.{finds_digits, finds_number, number_decimal}
use Rattle.pm_token.proofs.ShortLemmas.{sign}
use Rattle.pm_token.specs.Integer.{suffix_text}
use Rattle.pm_token.specs.LiteralText.{IsWholeLiteral}
use Rattle.pm_token.specs.declared.literals.integers.Suffix.{Suffix}
use Rattle.pm_token.specs.declared.literals.integers.Suffix.TheVariants.{Nothing, U8, U16, U32, U64, U128, Usize, I8}
use Rattle.pm_token.specs.declared.literals.integers.Suffix.TheVariants.{I16, I32, I64, I128, Isize}

-- ---- suffixes

-- whether the letter is that of a base prefix: `x`, `o` or `b`
abbrev is_base_letter : ℕ → Bool
is_base_letter c = (c == 120) || ((c == 111) || (c == 98))

-- whether the text may end an integer: it can't be read as digits or as part of a base prefix, and it is ASCII
record EndsInteger (suffix : List ℕ) : Type 0 where
  ends : find tail suffix ≡ Some (suffix, [])
  stops : first_passes is_digit_or_underscore suffix ≡ false
  no_prefix : first_passes is_base_letter suffix ≡ false
  ascii : all_ascii suffix ≡ true

suffix_ends : (suffix : Suffix) → EndsInteger (suffix_text suffix)
unfolding unicode_ident find
suffix_ends Nothing = record { ends = refl; stops = refl; no_prefix = refl; ascii = refl }
suffix_ends U8 = record { ends = refl; stops = refl; no_prefix = refl; ascii = refl }
suffix_ends U16 = record { ends = refl; stops = refl; no_prefix = refl; ascii = refl }
suffix_ends U32 = record { ends = refl; stops = refl; no_prefix = refl; ascii = refl }
suffix_ends U64 = record { ends = refl; stops = refl; no_prefix = refl; ascii = refl }
suffix_ends U128 = record { ends = refl; stops = refl; no_prefix = refl; ascii = refl }
suffix_ends Usize = record { ends = refl; stops = refl; no_prefix = refl; ascii = refl }
suffix_ends I8 = record { ends = refl; stops = refl; no_prefix = refl; ascii = refl }
suffix_ends I16 = record { ends = refl; stops = refl; no_prefix = refl; ascii = refl }
suffix_ends I32 = record { ends = refl; stops = refl; no_prefix = refl; ascii = refl }
suffix_ends I64 = record { ends = refl; stops = refl; no_prefix = refl; ascii = refl }
suffix_ends I128 = record { ends = refl; stops = refl; no_prefix = refl; ascii = refl }
suffix_ends Isize = record { ends = refl; stops = refl; no_prefix = refl; ascii = refl }

-- ---- digits

digit_passes : (c : ℕ) → digit_value c < 10 → is_ascii_digit c ≡ true
digit_passes c h = let range = digit_from_value c h in and_from _ _ (le-leb _ _ range.0) (le-leb _ _ range.1)

digits_pass : (digits : List ℕ) → AllDigits 10 digits → list_all is_ascii_digit digits ≡ true
digits_pass [] all = refl
digits_pass (c ∷ digits) all = and_from _ _ (digit_passes c all.0) (digits_pass digits all.1)

no_prefix : (c : ℕ) (rest : List ℕ) → first_passes is_base_letter rest ≡ false
    → begins_any base_prefixes (c ∷ rest) ≡ false
no_prefix c rest h = false_from_ne_true _ (λ begins. elim (or_cases _ _ begins) [
  | inl x ↦ clash (codes "0x") 48 120 x refl refl
  | inr more ↦ elim (or_cases _ _ more) [
    | inl o ↦ clash (codes "0o") 48 111 o refl refl
    | inr last ↦ elim (or_cases _ _ last) [
      | inl b ↦ clash (codes "0b") 48 98 b refl refl
      | inr none ↦ absurd (both_ways _ refl none)
    ]
  ]
])
  where
    clash : (front : List ℕ) (nought letter : ℕ) → begins_with front (c ∷ rest) ≡ true → front ≡ nought ∷ letter ∷ []
        → is_base_letter letter ≡ true → ⊥
    clash front nought letter begins e is =
        let at = begins_splits front (c ∷ rest) begins in
        let after_zero : rest ≡ letter ∷ at.0 = ap (drop 1) (at.1 ∙ ap (λ x. x ++ at.0) e) in
        both_ways _ h (ap (first_passes is_base_letter) after_zero ∙ is)

-- no digit is the letter of a base prefix, and no suffix begins with one
digit_no_letter : (c : ℕ) → is_ascii_digit c ≡ true → is_base_letter c ≡ false
digit_no_letter c h = false_from_ne_true _ (λ is. elim (or_cases _ _ is) [
  | inl x ↦ absurd (both_ways (is_ascii_digit 120) refl (subst (λ d. is_ascii_digit d ≡ true) (eqb-true c 120 x) h))
  | inr more ↦ elim (or_cases _ _ more) [
    | inl o ↦ absurd (both_ways (is_ascii_digit 111) refl (subst (λ d. is_ascii_digit d ≡ true) (eqb-true c 111 o) h))
    | inr b ↦ absurd (both_ways (is_ascii_digit 98) refl (subst (λ d. is_ascii_digit d ≡ true) (eqb-true c 98 b) h))
  ]
])

no_letter : (digits : List ℕ) (suffix : Suffix) → list_all is_ascii_digit digits ≡ true
    → first_passes is_base_letter (digits ++ suffix_text suffix) ≡ false
no_letter [] suffix all = (suffix_ends suffix).no_prefix
no_letter (c ∷ digits) suffix all = digit_no_letter c (and_parts _ _ all).0

digits_or_underscores : (digits : List ℕ) → list_all is_ascii_digit digits ≡ true
    → list_all is_digit_or_underscore digits ≡ true
digits_or_underscores [] all = refl
digits_or_underscores (c ∷ digits) all = let parts = and_parts _ _ all in
    and_from _ _ (or_left _ _ parts.0) (digits_or_underscores digits parts.1)

-- ---- integers

integer_found : (c : ℕ) (digits : List ℕ) (suffix : Suffix) → list_all is_ascii_digit (c ∷ digits) ≡ true
    → find number ((c ∷ digits) ++ suffix_text suffix) ≡ Some ((c ∷ digits) ++ suffix_text suffix, [])
unfolding find
integer_found c digits suffix all =
    let parts = and_parts _ _ all in
    let front : Digits (c ∷ digits) (suffix_text suffix) = record {
      front = c ∷ [];
      back = digits;
      whole = refl;
      first = (c, refl, parts.0);
      second = record { each = digits_or_underscores digits parts.1; stops = (suffix_ends suffix).stops };
    } in
    number_decimal _ (no_prefix c (digits ++ suffix_text suffix) (no_letter digits suffix parts.1))
    ∙ (ap (and_find (find tail)) (finds_digits.complete (c ∷ digits) (suffix_text suffix) front)
    ∙ ap (prepend (c ∷ digits)) (suffix_ends suffix).ends)

-- digits with a suffix are a literal, and it begins with a digit
integer_literal : (digits : List ℕ) (suffix : Suffix) → IsNumeral 10 digits
    → Literal (digits ++ suffix_text suffix) [] × (first_passes is_ascii_digit (digits ++ suffix_text suffix) ≡ true)
unfolding Literal
integer_literal [] suffix numeral = absurd (omega (arith, numeral.0))
integer_literal (c ∷ digits) suffix numeral =
    let all = digits_pass (c ∷ digits) numeral.1 in (
      inr (found_is (find number) Number finds_number _ _ _ (integer_found c digits suffix all)).1,
      (and_parts _ _ all).0,
    )

pub unsigned_whole : (n : ℕ) (suffix : Suffix) → n < 2 ^ 128 → IsWholeLiteral (decimal n ++ suffix_text suffix)
unsigned_whole n suffix h =
    inl (integer_literal (decimal n) suffix (decimal_is_IsNumeral_wide n (omega (arith, h))).0).0

pub signed_whole : (z : ℤ) (suffix : Suffix) → SFits w128 z → IsWholeLiteral (signed_decimal z ++ suffix_text suffix)
signed_whole (pos n) suffix h = unsigned_whole n suffix (omega (arith, h.sfits))
signed_whole (negsuc n) suffix h =
    let is = integer_literal (decimal (suc n)) suffix (decimal_is_IsNumeral_wide (suc n) (omega (arith, h.sfits))).0 in
    inr (record { number = decimal (suc n) ++ suffix_text suffix; whole = refl; literal = is.0; digit = is.1 })

-- ---- characters

chars_before_suffix : (front : List ℕ) (suffix : Suffix) → IsAscii front
    → chars (front ++ suffix_text suffix) ≡ front ++ suffix_text suffix
chars_before_suffix front suffix ascii =
    chars-append front (suffix_text suffix) (IsUtf8-from_ascii front ascii)
    ∙ ap₂ (λ xs ys. xs ++ ys) (chars-IsAscii front ascii)
    (chars-IsAscii (suffix_text suffix) (is_ascii (suffix_text suffix) (suffix_ends suffix).ascii))

pub chars_unsigned : (n : ℕ) (suffix : Suffix) → n < 2 ^ 128
    → chars (decimal n ++ suffix_text suffix) ≡ decimal n ++ suffix_text suffix
chars_unsigned n suffix h = chars_before_suffix (decimal n) suffix (IsAscii-decimal_wide n (omega (arith, h)))

pub chars_signed : (z : ℤ) (suffix : Suffix) → SFits w128 z
    → chars (signed_decimal z ++ suffix_text suffix) ≡ signed_decimal z ++ suffix_text suffix
chars_signed (pos n) suffix h = chars_unsigned n suffix (omega (arith, h.sfits))
chars_signed (negsuc n) suffix h =
    chars_before_suffix (45 ∷ decimal (suc n)) suffix
    (IsAscii-cons 45 (decimal (suc n)) (omega arith) (IsAscii-decimal_wide (suc n) (omega (arith, h.sfits))))

-- a number is written as its sign and the digits of its absolute value
pub sign_and_size : (z : ℤ) → sign (int_lt z (pos 0)) ++ decimal (unsigned_abs z) ≡ signed_decimal z
sign_and_size (pos n) =
    ap (λ negative. sign negative ++ decimal n)
    (false_from_ne_true _ (λ less. let below : n < 0 = ltb-true n 0 less in omega (arith, below)))
sign_and_size (negsuc n) = refl

-- a number of 64 bits also fits 128
pub fits_wide : (z : ℤ) → SFits w64 z → SFits w128 z
fits_wide (pos n) h = record { sfits = omega (arith, h.sfits) }
fits_wide (negsuc n) h = record { sfits = omega (arith, h.sfits) }
