-- The digits of a character's code.
use Rattle.std.proofs.Common.{◌≡◌, ℕ, suc, ◌+◌, ◌*◌, ◌<◌, ◌≤◌, Bool, true, false, cond, nat_lt, nat_le, min, List, []}
use Rattle.std.proofs.Common.{◌∷◌, length, Err, refl, sym, ap₂, ◌∙◌, arith, ltb-true}
use Rattle.std.specs.Prelude.{filter}
use Rattle.std.specs.Char.{digit_value}
use Rattle.std.specs.List.{fold}
use Rattle.std.proofs.lemmas.Bool.{cond-true, cond_both, leb-false, ltb-false, lt-ltb, false_from_ne_true}
use Rattle.literal_escaper.specs.declared.errors.EscapeError.TheVariants.{OverlongUnicodeEscape}
use Rattle.literal_escaper.specs.declared.errors.EscapeError.TheVariants.{OutOfRangeUnicodeEscape}
use Rattle.literal_escaper.specs.Escape.{code_unit, is_code_character, is_hex}
use Rattle.literal_escaper.specs.Kind.{Kind, character}
use Rattle.literal_escaper.specs.Unescaping.{code_answer, count_with, digit_count, digit_number, next_count}
use Rattle.literal_escaper.specs.Unescaping.{next_number, number_with}
use Rattle.literal_escaper.specs.Text.{while_front}

-- the number with one more hex digit
abbrev pub hex_step : ℕ → ℕ → ℕ
hex_step n c = 16 * n + digit_value c

-- ---- the count shows whether there are more than six digits

count_step : (n c : ℕ) (text : List ℕ) → n ≤ 7
    → ((m : ℕ) → m ≤ 7 → fold count_with m text ≡ min 7 (m + length (filter is_hex text)))
    → fold count_with n (c ∷ text) ≡ min 7 (n + length (filter is_hex (c ∷ text)))
count_step n c text h ih = step (is_hex c)
  where
    step : (b : Bool) → fold count_with (cond b (next_count n) n) text
        ≡ min 7 (n + length (cond b (c ∷ filter is_hex text) (filter is_hex text)))
    step true = cond_both (nat_lt n 7) (n + 1) n
        (λ m. fold count_with m text ≡ min 7 (n + suc (length (filter is_hex text))))
        (λ e. let lt = ltb-true n 7 e in let more = ih (n + 1) (omega arith) in omega (arith, more))
        (λ e. let le = ltb-false n 7 e in let same = ih n h in omega (arith, same))
    step false = ih n h

pub count_is : (n : ℕ) (text : List ℕ) → n ≤ 7 → fold count_with n text ≡ min 7 (n + length (filter is_hex text))
count_is n [] h = omega arith
count_is n (c ∷ text) h = count_step n c text h (λ m k. count_is m text k)

-- ---- the number determines the character

grows : (n : ℕ) (digits : List ℕ) → n ≤ fold hex_step n digits
grows n [] = omega arith
grows n (c ∷ digits) = let more = grows (hex_step n c) digits in omega (arith, more)

great : (n : ℕ) → 0x10_FFFF < n → character n ≡ Err OutOfRangeUnicodeEscape
great n h = cond-true (nat_lt 0x10_FFFF n) _ _ (lt-ltb 0x10_FFFF n h)

character_step : (n c : ℕ) (digits front : List ℕ)
    → ((m : ℕ) → character (fold number_with m front) ≡ character (fold hex_step m digits))
    → character (fold number_with (next_number n (digit_value c)) front)
    ≡ character (fold hex_step (hex_step n c) digits)
character_step n c digits front ih =
    cond_both (nat_le n 0x10_FFFF) (16 * n + digit_value c) n
    (λ m. character (fold number_with m front) ≡ character (fold hex_step (hex_step n c) digits))
    (λ e. ih (hex_step n c))
    (λ e. let past = leb-false n 0x10_FFFF e in
    let less = grows n digits in
    let more = grows (hex_step n c) digits in
    ih n ∙ (great (fold hex_step n digits) (omega arith)
    ∙ sym (great (fold hex_step (hex_step n c) digits) (omega arith))))

pub character_is : (n : ℕ) (text : List ℕ)
    → character (fold number_with n text) ≡ character (fold hex_step n (filter is_hex text))
character_is n [] = refl
character_is n (c ∷ text) =
    let ih : (m : ℕ) → character (fold number_with m text) ≡ character (fold hex_step m (filter is_hex text)) =
    λ m. character_is m text in
    step (is_hex c) ih
  where
    step : (b : Bool) → ((m : ℕ)
        → character (fold number_with m text) ≡ character (fold hex_step m (filter is_hex text)))
        → character (fold number_with (cond b (next_number n (digit_value c)) n) text)
        ≡ character (fold hex_step n (cond b (c ∷ filter is_hex text) (filter is_hex text)))
    step true ih = character_step n c (filter is_hex text) text ih
    step false ih = ih n

-- ---- the unit of the digits

same_test : (count many : ℕ) → count ≡ min 7 many → nat_lt 6 count ≡ nat_lt 6 many
same_test count many e = cases (nat_lt 6 many) refl
  where
    cases : (b : Bool) → nat_lt 6 many ≡ b → nat_lt 6 count ≡ b
    cases true long = let lt = ltb-true 6 many long in lt-ltb 6 count (omega arith)
    cases false short = let le = ltb-false 6 many short in
        false_from_ne_true (nat_lt 6 count) (λ long. let lt = ltb-true 6 count long in omega arith)

pub code_unit_is : {U : Type 0} (kind : Kind U) (text : List ℕ)
    → code_answer kind (digit_count text) (digit_number text)
    ≡ code_unit kind (filter is_hex (while_front is_code_character text))
code_unit_is kind text =
    ap₂ (λ long code. cond long (Err OverlongUnicodeEscape) (kind.of_code code))
    (same_test (digit_count text) (length (filter is_hex (while_front is_code_character text)))
    (count_is 0 (while_front is_code_character text) (omega arith) ∙ zeroed))
    (character_is 0 (while_front is_code_character text))
  where
    zeroed : min 7 (0 + length (filter is_hex (while_front is_code_character text)))
        ≡ min 7 (length (filter is_hex (while_front is_code_character text)))
    zeroed = omega arith
