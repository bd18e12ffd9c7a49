-- How the code of a character is read, as the constructors write it.
use Rattle.std.proofs.Common.{◌≡◌, ℕ, ◌*◌, ◌+◌, ◌<◌, ◌≤◌, true, false, ◌==◌, nat_lt, List, [], ◌∷◌, ◌++◌, length, Ok}
use Rattle.std.proofs.Common.{refl, ap, ap₂, ◌∙◌, arith, suc}
use Rattle.std.specs.Prelude.{filter}
use Rattle.std.specs.Char.{IsScalar, digit_char, digit_value}
use Rattle.std.specs.Char.Escape.{escape_unicode}
use Rattle.std.specs.List.{fold}
use Rattle.std.proofs.lemmas.Bool.{agree_below_at, cond-true, cond-false, false_from_ne_true, ltb-true}
use Rattle.std.proofs.lemmas.Str.{digit_value-digit_char}
use Rattle.literal_escaper.specs.Escape.{read_closing, code_unit, read_code, escape, is_code_character, is_hex}
use Rattle.literal_escaper.specs.Escape.{unicode_escape}
use Rattle.literal_escaper.specs.Kind.{Kind, character, string_kind}
use Rattle.literal_escaper.specs.Text.{while_front, while_rest}
use Rattle.pm_token.proofs.HexLemmas.{is_scalar-IsScalar, AreHex, digits_of, value_on, escape_is_coded as coded_as}
use Rattle.pm_token.proofs.UnicodeEscapeLemmas.{scalar_character}
use Rattle.pm_token.proofs.ReadLemmas.{Escapes}

-- ---- one digit

digit_hex : (d : ℕ) → d < 16 → is_hex (digit_char d) ≡ true
digit_hex d low = agree_below_at (λ x. is_hex (digit_char x)) (λ x. true) 16 d refl low

digit_code : (d : ℕ) → d < 16 → is_code_character (digit_char d) ≡ true
digit_code d low = agree_below_at (λ x. is_code_character (digit_char x)) (λ x. true) 16 d refl low

digit_no_line : (d : ℕ) → d < 16 → (digit_char d == 95) ≡ false
digit_no_line d low = agree_below_at (λ x. digit_char x == 95) (λ x. false) 16 d refl low

digit_no_brace : (d : ℕ) → d < 16 → (digit_char d == 125) ≡ false
digit_no_brace d low = agree_below_at (λ x. digit_char x == 125) (λ x. false) 16 d refl low

-- ---- digits, and the closing brace

digits_front : (ds more : List ℕ) → AreHex ds
    → while_front is_code_character ((digits_of ds ++ 125 ∷ []) ++ more) ≡ digits_of ds
digits_front [] more all = refl
digits_front (d ∷ ds) more all = cond-true _ _ _ (digit_code d all.0)
    ∙ ap (λ xs. digit_char d ∷ xs) (digits_front ds more all.1)

digits_rest : (ds more : List ℕ) → AreHex ds
    → while_rest is_code_character ((digits_of ds ++ 125 ∷ []) ++ more) ≡ 125 ∷ more
digits_rest [] more all = refl
digits_rest (d ∷ ds) more all = cond-true _ _ _ (digit_code d all.0) ∙ digits_rest ds more all.1

digits_hex : (ds : List ℕ) → AreHex ds → filter is_hex (digits_of ds) ≡ digits_of ds
digits_hex [] all = refl
digits_hex (d ∷ ds) all = cond-true _ _ _ (digit_hex d all.0) ∙ ap (λ xs. digit_char d ∷ xs) (digits_hex ds all.1)

digits_count : (ds : List ℕ) → length (digits_of ds) ≡ length ds
digits_count [] = refl
digits_count (d ∷ ds) = ap (λ n. suc n) (digits_count ds)

digits_number : (n : ℕ) (ds : List ℕ) → AreHex ds
    → fold (λ m c. 16 * m + digit_value c) n (digits_of ds) ≡ value_on n ds
digits_number n [] all = refl
digits_number n (d ∷ ds) all =
    ap (λ v. fold (λ m c. 16 * m + digit_value c) (16 * n + v) (digits_of ds)) (digit_value-digit_char d (omega arith))
    ∙ digits_number (16 * n + d) ds all.1

-- ---- the character

code_is : {U : Type 0} (kind : Kind U) (unit : U) (c : ℕ) (ds : List ℕ) → AreHex ds → length ds ≤ 6
    → value_on 0 ds ≡ c → IsScalar c → kind.of_code (Ok c) ≡ Ok unit
    → code_unit kind (digits_of ds) ≡ Ok unit
code_is kind unit c ds all few value scalar is =
    cond-false _ _ _ (false_from_ne_true (nat_lt 6 (length (digits_of ds)))
    (λ e. let lt = ltb-true 6 (length (digits_of ds)) e in absurd (omega (arith, digits_count ds))))
    ∙ (ap (λ n. kind.of_code (character n)) (digits_number 0 ds all ∙ value)
    ∙ (ap kind.of_code (scalar_character c (is_scalar-IsScalar c scalar)) ∙ is))

-- the digits in braces are read as the character
coded_is : {U : Type 0} (kind : Kind U) (unit : U) (c : ℕ) (ds more : List ℕ) → AreHex ds → length ds ≤ 6
    → value_on 0 ds ≡ c → IsScalar c → kind.of_code (Ok c) ≡ Ok unit
    → read_code kind ((digits_of ds ++ 125 ∷ []) ++ more) ≡ record { unit = Ok unit; rest = more }
unfolding read_code
coded_is kind unit c ds more all few value scalar is =
    ap₂ (λ digits rest. read_closing kind digits rest)
    (ap (filter is_hex) (digits_front ds more all) ∙ digits_hex ds all)
    (digits_rest ds more all)
    ∙ ap (λ u. record { unit = u; rest = more }) (code_is kind unit c ds all few value scalar is)

-- the text after `\u` is read as the character
unicode_is : {U : Type 0} (kind : Kind U) (unit : U) (c first : ℕ) (others more : List ℕ) → AreHex (first ∷ others)
    → length others ≤ 5 → value_on 0 (first ∷ others) ≡ c → IsScalar c
    → kind.of_code (Ok c) ≡ Ok unit
    → escape kind (117 ∷ (123 ∷ ((digits_of (first ∷ others) ++ 125 ∷ []) ++ more)))
    ≡ record { unit = Ok unit; rest = more }
unfolding escape unicode_escape
unicode_is kind unit c first others more all few value scalar is =
    cond-false _ _ _ (digit_no_line first all.0)
    ∙ (cond-false _ _ _ (digit_no_brace first all.0) ∙ (cond-true _ _ _ (digit_hex first all.0)
    ∙ coded_is kind unit c (first ∷ others) more all (omega arith) value scalar is))

-- the `\u` escape of a character is read as the character, in any kind
pub code_escapes_as : {U : Type 0} (kind : Kind U) (unit : U) (c : ℕ) → IsScalar c → kind.of_code (Ok c) ≡ Ok unit
    → Escapes kind (escape_unicode c) unit
code_escapes_as kind unit c scalar is =
    let coded = coded_as c scalar in record {
      letter = 117;
      back = 123 ∷ (digits_of (coded.first ∷ coded.others) ++ 125 ∷ []);
      whole = coded.whole;
      no_line = refl;
      gives = λ more. unicode_is kind unit c coded.first coded.others more coded.hex coded.few
          coded.value scalar is;
    }

-- the `\u` escape in a string
pub code_escapes : (c : ℕ) → IsScalar c → Escapes string_kind (escape_unicode c) c
code_escapes c scalar = code_escapes_as string_kind c c scalar refl
