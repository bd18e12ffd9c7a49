-- The code of a character, digit by digit.
use Rattle.std.proofs.Common.{◌≡◌, ℕ, ◌+◌, ◌*◌, ◌<◌, ◌≤◌, ◌==◌, ◌&&◌, Bool, true, false, cond, nat_lt, List, [], ◌∷◌}
use Rattle.std.proofs.Common.{length, refl, sym, ap, ◌∙◌, arith, ltb-true, get_or, take, drop, drop-cons, suc}
use Rattle.std.specs.Prelude.{filter}
use Rattle.std.specs.Char.{is_ascii_hexdigit, digit_value}
use Rattle.std.specs.List.{fold, list_all}
use Rattle.std.proofs.lemmas.Bool.{and_parts, agree_below_at, false_from_ne_true, lt-ltb}
use Rattle.std.proofs.lemmas.List.{take-append-drop}
use Rattle.std.proofs.lemmas.List.Folds.{list_all-append}
use Rattle.std.specs.Str.{IsUtf8, chars}
use Rattle.std.proofs.lemmas.Str.{encodes-chars}
use Rattle.lexical.proofs.TextLemmas.{all_pass, encode_all_ascii}
use Rattle.lexical.specs.Quoted.{hex_value, is_code, is_code_digit}

-- the value with one more digit. A `_` leaves it as it is
abbrev pub value_step : ℕ → ℕ → ℕ
value_step n c = cond (c == 95) n (16 * n + digit_value c)

-- the number of hex digits in the text
abbrev pub hexes : List ℕ → ℕ
hexes text = length (filter is_ascii_hexdigit text)

-- whether the value and count so far, together with the rest, give the value and count of the text
abbrev pub CountsTo : ℕ → ℕ → List ℕ → List ℕ → Type 0
CountsTo value count rest text = (fold value_step value rest ≡ hex_value text) × (count + hexes rest ≡ hexes text)

-- a code digit is a hex digit exactly if its value is below 16
hex_is : (c : ℕ) → is_code_digit c ≡ true → is_ascii_hexdigit c ≡ nat_lt (digit_value c) 16
hex_is c h = rw h at (agree_below_at (λ x. is_code_digit x && is_ascii_hexdigit x)
    (λ x. is_code_digit x && nat_lt (digit_value x) 16) 128 c refl (grind arith))

hex_no_line : (c : ℕ) → is_ascii_hexdigit c ≡ true → (c == 95) ≡ false
hex_no_line c h = grind arith

-- a step past a hex digit
pub reads_digit : (value count new many d c : ℕ) (after rest text : List ℕ) → rest ≡ c ∷ after → is_code_digit c ≡ true
    → CountsTo value count rest text
    → (digit_value c < 16) × (d ≡ digit_value c) → new ≡ 16 * value + d → many ≡ count + 1
    → CountsTo new many after text
reads_digit value count new many d c after rest text e is counts low value_is count_is =
    let hex : is_ascii_hexdigit c ≡ true = hex_is c is ∙ lt-ltb (digit_value c) 16 low.0 in
    let past = rw (e, hex_no_line c hex, hex) at counts in
    rw (value_is, low.1, count_is) (past.0, omega (arith, past.1))

-- a step past a `_`
pub reads_line : (value count new many c : ℕ) (after rest text : List ℕ) → rest ≡ c ∷ after → is_code_digit c ≡ true
    → CountsTo value count rest text
    → (digit_value c < 16 → ⊥) → new ≡ value → many ≡ count → CountsTo new many after text
reads_line value count new many c after rest text e is counts high value_is count_is =
    let other : is_ascii_hexdigit c ≡ false = hex_is c is
    ∙ false_from_ne_true _ (λ low. high (ltb-true (digit_value c) 16 low)) in
    rw (value_is, count_is) (rw (e, (rw other at is), other) at counts)

pub digits_tail : (c : ℕ) (after rest : List ℕ) → rest ≡ c ∷ after → list_all is_code_digit rest ≡ true
    → (is_code_digit c ≡ true) × (list_all is_code_digit after ≡ true)
digits_tail c after rest e all =
    and_parts (is_code_digit c) (list_all is_code_digit after) (ap (list_all is_code_digit) (sym e) ∙ all)

-- the bytes of a code are its digits
pub digits_bytes : (text bytes : List ℕ) → IsUtf8 text → bytes ≡ text → list_all is_code_digit (chars text) ≡ true
    → bytes ≡ chars text
digits_bytes text bytes utf8 same all =
    same ∙ (sym (encodes-chars text utf8) ∙ encode_all_ascii (chars text)
    (all_pass is_code_digit (λ c. nat_lt c 128) (λ c h. grind arith) (chars text) all))

-- if i bytes of the code were read, the rest begins with the byte at i
pub digits_next : (code : List ℕ) (i d : ℕ) → i < length code → list_all is_code_digit code ≡ true
    → (drop i code ≡ get_or code i d ∷ drop (i + 1) code) × (is_code_digit (get_or code i d) ≡ true)
digits_next code i d within all =
    let next : suc i ≡ i + 1 = omega arith in
    let split = drop-cons code i d within ∙ ap (λ m. get_or code i d ∷ drop m code) next in
    let rest : list_all is_code_digit (drop i code) ≡ true =
    (and_parts _ _ (sym (list_all-append is_code_digit (take i code) (drop i code))
    ∙ (ap (list_all is_code_digit) (take-append-drop i code) ∙ all))).1 in
    (split, (digits_tail (get_or code i d) (drop (i + 1) code) (drop i code) split rest).0)

-- ---- codes that are rejected

fold_grows : (n : ℕ) (text : List ℕ) → n ≤ fold value_step n text
fold_grows n [] = omega arith
fold_grows n (c ∷ text) = grind (arith, fold_grows (value_step n c) text)

-- more than six digits are no code
pub no_code_long : (allowed : ℕ → Bool) (value count : ℕ) (rest text : List ℕ) → CountsTo value count rest text
    → 6 < count → is_code allowed text ≡ false
no_code_long allowed value count rest text counts long = grind (arith, counts.1)

-- a value above 10FFFF is no code
pub no_code_great : (allowed : ℕ → Bool) (value count : ℕ) (rest text : List ℕ) → CountsTo value count rest text
    → 0x10_FFFF < value → is_code allowed text ≡ false
no_code_great allowed value count rest text counts great = let grown = fold_grows value rest in
    grind (arith, counts.0, grown)
