-- The test of 8 bytes at a time for characters that need no escape in a string.
use Rattle.std.proofs.Common.{◌≡◌, ℕ, ◌+◌, ◌-◌, ◌/◌, ◌^◌, ◌<◌, ◌≤◌, zero, suc, Bool, true, false, cond}
use Rattle.std.proofs.Common.{List, [], ◌∷◌, length, nat_eq, take}
use Rattle.std.proofs.Common.{refl, sym, ap, ap₂, ◌∙◌, subst, arith, w64}
use Rattle.std.specs.Int.{from_le_bytes, trailing_zeros}
use Rattle.std.specs.Int.Count.{count_trailing_zeros}
use Rattle.std.proofs.lemmas.Bool.{agree_below}
use Rattle.std.proofs.lemmas.Nat.{and_le_r, xor_lt}
use Rattle.std.proofs.lemmas.Nat.Bits.{bit_at-trailing_zeros}
use lib.Bits.{bit_and, bit_or, bit_xor}
use lib.Count.{trailing_of_zero}
use Rattle.lexical.specs.Finder.{while_front}
use Rattle.lexical.specs.MachineWord.{word_of}
use Rattle.pm_token.specs.Escaped.{is_plain_ascii}
use Rattle.lexical.proofs.LaneLemmas.{AreBytes, add_each, and_each, each_is, eights, first_stop, low, low_word}
use Rattle.lexical.proofs.LaneLemmas.{not_each, or_each, read, uniform_word, same_each, xor_each}

-- a byte whose highest bit is set unless its low bits are those of the other byte
abbrev apart : ℕ → ℕ → ℕ
apart other b = bit_xor (low b) other + 127

-- a byte whose highest bit is set unless its low bits are those of a control character
abbrev printable_mark : ℕ → ℕ
printable_mark b = low b + 96

abbrev on : ℕ → ℕ
on b = bit_and (bit_and (bit_and (printable_mark b) (apart 127 b)) (apart 92 b)) (apart 34 b)

abbrev stop : ℕ → ℕ
stop b = bit_and (bit_or (255 - on b) b) 128

-- a word of which each byte is tested as by `apart`
abbrev pub apart_word : ℕ → ℕ → ℕ
apart_word others word = bit_xor (low_word word) others + 0x7F7F_7F7F_7F7F_7F7F

abbrev pub printed_word : ℕ → ℕ
printed_word word = low_word word + 0x6060_6060_6060_6060

abbrev pub on_word : ℕ → ℕ
on_word word =
    bit_and
    (bit_and
    (bit_and (printed_word word) (apart_word 0x7F7F_7F7F_7F7F_7F7F word))
    (apart_word 0x5C5C_5C5C_5C5C_5C5C word))
    (apart_word 0x2222_2222_2222_2222 word)

abbrev pub stop_word : ℕ → ℕ
stop_word word = bit_and (bit_or (2 ^ 64 - 1 - on_word word) word) 0x8080_8080_8080_8080

abbrev plain_stop : ℕ → ℕ
plain_stop b = cond (is_plain_ascii 34 b) 0 128

-- how many of the first bytes need no escape
abbrev front_size : List ℕ → ℕ
front_size bytes = length (while_front (is_plain_ascii 34) bytes)

stops_are : agree_below (λ b. nat_eq (stop b) (plain_stop b)) (λ b. true) 256 ≡ true
stops_are = refl

-- lemmas on a word of 8 bytes
module _ (bytes : List ℕ) (l : length bytes ≡ 8) (are : AreBytes bytes) (word : ℕ)
    (is : word ≡ from_le_bytes w64 bytes) where
  constant : (k n : ℕ) → n ≡ uniform_word k 8 → n ≡ word_of (λ b. k) bytes
  constant k n e = e ∙ sym (each_is k bytes ∙ ap (uniform_word k) l)

  word_is : word ≡ word_of (λ b. b) bytes
  word_is = is ∙ read bytes l

  low_is : low_word word ≡ word_of low bytes
  low_is = ap₂ bit_and word_is (constant 127 _ refl) ∙ and_each (λ b. b) (λ b. 127) refl refl bytes are

  plus : (f : ℕ → ℕ) (k w n : ℕ) → w ≡ word_of f bytes → n ≡ uniform_word k 8 → w + n ≡ word_of (λ b. f b + k) bytes
  plus f k w n e c = ap₂ (λ x y. x + y) e (constant k n c) ∙ add_each f (λ b. k) bytes

  printed_is : printed_word word ≡ word_of printable_mark bytes
  printed_is = plus low 96 _ _ low_is refl

  delete_is : apart_word 0x7F7F_7F7F_7F7F_7F7F word ≡ word_of (apart 127) bytes
  delete_is = plus (λ b. bit_xor (low b) 127) 127 _ _
      (ap₂ bit_xor low_is (constant 127 _ refl) ∙ xor_each low (λ b. 127) refl refl bytes are) refl

  backslash_is : apart_word 0x5C5C_5C5C_5C5C_5C5C word ≡ word_of (apart 92) bytes
  backslash_is = plus (λ b. bit_xor (low b) 92) 127 _ _
      (ap₂ bit_xor low_is (constant 92 _ refl) ∙ xor_each low (λ b. 92) refl refl bytes are) refl

  quote_is : apart_word 0x2222_2222_2222_2222 word ≡ word_of (apart 34) bytes
  quote_is = plus (λ b. bit_xor (low b) 34) 127 _ _
      (ap₂ bit_xor low_is (constant 34 _ refl) ∙ xor_each low (λ b. 34) refl refl bytes are) refl

  on_is : on_word word ≡ word_of on bytes
  on_is =
      ap₂ bit_and
      (ap₂ bit_and
      (ap₂ bit_and printed_is delete_is ∙ and_each printable_mark (apart 127) refl refl bytes are)
      backslash_is
      ∙ and_each (λ b. bit_and (printable_mark b) (apart 127 b)) (apart 92) refl refl bytes are)
      quote_is
      ∙ and_each (λ b. bit_and (bit_and (printable_mark b) (apart 127 b)) (apart 92 b)) (apart 34) refl refl bytes are

  off_is : 2 ^ 64 - 1 - on_word word ≡ word_of (λ b. 255 - on b) bytes
  off_is =
      let full : 2 ^ 64 - 1 ≡ uniform_word 255 (length bytes) = sym (ap (uniform_word 255) l) in
      omega (arith, on_is, full, not_each on refl bytes are)

  stops_is : stop_word word ≡ word_of plain_stop bytes
  stops_is =
      ap₂ bit_and (ap₂ bit_or off_is word_is ∙ or_each (λ b. 255 - on b) (λ b. b) refl refl bytes are)
      (constant 128 _ refl)
      ∙ and_each (λ b. bit_or (255 - on b) b) (λ b. 128) refl refl bytes are
      ∙ same_each stop plain_stop stops_are bytes are

  -- the lowest set bit gives the number of bytes
  pub string_in_word : trailing_zeros w64 (stop_word word) / 8 ≡ length (while_front (is_plain_ascii 34) bytes)
  string_in_word =
      ap (λ w. count_trailing_zeros 64 w / 8) stops_is
      ∙ subst
      (λ n. count_trailing_zeros (eights n) (word_of plain_stop bytes) / 8 ≡ front_size bytes)
      l
      (first_stop (is_plain_ascii 34) bytes)

  -- if no bit is set, no byte needs an escape
  pub string_past_word : stop_word word ≡ 0 → 8 ≡ length (while_front (is_plain_ascii 34) bytes)
  string_past_word none =
      ap (λ n. n / 8) (sym (trailing_of_zero 64)) ∙ ap (λ w. count_trailing_zeros 64 w / 8) (sym none) ∙ string_in_word

pub string_in_word_ends : (word : ℕ) → (stop_word word ≡ 0 → ⊥) → trailing_zeros w64 (stop_word word) / 8 < 8
string_in_word_ends word some =
    let le = and_le_r (bit_or (2 ^ 64 - 1 - on_word word) word) 0x8080_8080_8080_8080 in
    let at = bit_at-trailing_zeros w64 (stop_word word) (omega (arith, some)) (omega (arith, le)) in
    omega (arith, at.0)

-- no addition overflows
pub xor_low : (word others : ℕ) → others < 2 ^ 63 → bit_xor (low_word word) others < 2 ^ 63
xor_low word others small =
    let le = and_le_r word 0x7F7F_7F7F_7F7F_7F7F in
    xor_lt 63 (low_word word) others (omega (arith, le)) small

pub low_small : (word : ℕ) → low_word word ≤ 0x7F7F_7F7F_7F7F_7F7F
low_small word = and_le_r word 0x7F7F_7F7F_7F7F_7F7F

-- ---- the first bytes that need no escape

short_or_not : (test : ℕ → Bool) (k b : ℕ) (bytes : List ℕ) (on : Bool)
    → (length (while_front test (take k bytes)) < k
    → length (while_front test (take k bytes)) ≡ length (while_front test bytes))
    → length (cond on (b ∷ while_front test (take k bytes)) []) < suc k
    → length (cond on (b ∷ while_front test (take k bytes)) []) ≡ length (cond on (b ∷ while_front test bytes) [])
short_or_not test k b bytes true rest few = ap suc (rest (omega (arith, few)))
short_or_not test k b bytes false rest few = refl

pub short_front : (test : ℕ → Bool) (k : ℕ) (bytes : List ℕ) → length (while_front test (take k bytes)) < k
    → length (while_front test (take k bytes)) ≡ length (while_front test bytes)
short_front test zero bytes few = absurd (omega (arith, few))
short_front test (suc k) [] few = refl
short_front test (suc k) (b ∷ bytes) few = short_or_not test k b bytes (test b) (short_front test k bytes) few
