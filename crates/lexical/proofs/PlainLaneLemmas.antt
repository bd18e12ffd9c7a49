-- Words of 8 bytes: which bytes need no escape in a string.
use Rattle.std.proofs.Common.{◌≡◌, ℕ, ◌+◌, ◌-◌, ◌/◌, ◌^◌, ◌<◌, ◌≤◌, zero, suc, Bool, true, false, ◌&&◌, cond}
use Rattle.std.proofs.Common.{List, [], ◌∷◌, length, nat_eq, take}
use Rattle.std.proofs.Common.{refl, sym, ap, ap₂, ◌∙◌, subst, arith, w64}
use Rattle.std.specs.List.{list_all}
use Rattle.std.specs.Int.{from_le_bytes, trailing_zeros}
use Rattle.std.specs.Int.Count.{count_trailing_zeros}
use Rattle.std.proofs.lemmas.Bool.{agree_below, and_from}
use Rattle.std.proofs.lemmas.Nat.{and_le_r, xor_lt}
use Rattle.std.proofs.lemmas.Nat.Bits.{bit_at-trailing_zeros}
use lib.Bits.{bit_and, bit_or, bit_xor}
use lib.Count.{trailing_of_zero}
use Rattle.lexical.specs.Finder.{while_front}
use Rattle.lexical.specs.MachineWord.{is_plain_ascii, word_of}
use Rattle.lexical.proofs.LaneLemmas.{AreBytes, add_each, and_each, each_is, eights, first_stop, low, low_word}
use Rattle.lexical.proofs.LaneLemmas.{not_each, or_each, read, uniform_word, same_each, xor_each}

-- the operations on a byte. The highest bit is set unless the byte equals the other one
abbrev apart : ℕ → ℕ → ℕ
apart other b = bit_xor (low b) other + 127

abbrev on : ℕ → ℕ
on b = bit_and (bit_and (apart 34 b) (apart 92 b)) (apart 13 b)

abbrev stop : ℕ → ℕ
stop b = bit_and (bit_or (255 - on b) b) 128

-- the operations on a word
abbrev pub apart_word : ℕ → ℕ → ℕ
apart_word others word = bit_xor (low_word word) others + 0x7F7F_7F7F_7F7F_7F7F

abbrev pub on_word : ℕ → ℕ
on_word word =
    bit_and
    (bit_and (apart_word 0x2222_2222_2222_2222 word) (apart_word 0x5C5C_5C5C_5C5C_5C5C word))
    (apart_word 0x0D0D_0D0D_0D0D_0D0D word)

abbrev pub stop_word : ℕ → ℕ
stop_word word = bit_and (bit_or (2 ^ 64 - 1 - on_word word) word) 0x8080_8080_8080_8080

abbrev plain_stop : ℕ → ℕ
plain_stop b = cond (is_plain_ascii b) 0 128

stops_are : agree_below (λ b. nat_eq (stop b) (plain_stop b)) (λ b. true) 256 ≡ true
stops_are = refl

-- the operations on a word of these 8 bytes
module _ (bytes : List ℕ) (l : length bytes ≡ 8) (are : AreBytes bytes) (word : ℕ)
    (is : word ≡ from_le_bytes w64 bytes) where
  constant : (k n : ℕ) → n ≡ uniform_word k 8 → n ≡ word_of (λ b. k) bytes
  constant k n e = e ∙ sym (each_is k bytes ∙ ap (uniform_word k) l)

  word_is : word ≡ word_of (λ b. b) bytes
  word_is = is ∙ read bytes l

  low_is : low_word word ≡ word_of low bytes
  low_is = ap₂ bit_and word_is (constant 127 _ refl) ∙ and_each (λ b. b) (λ b. 127) refl refl bytes are

  plus : (f : ℕ → ℕ) (w n : ℕ) → w ≡ word_of f bytes → n ≡ uniform_word 127 8 → w + n ≡ word_of (λ b. f b + 127) bytes
  plus f w n e c = ap₂ (λ x y. x + y) e (constant 127 n c) ∙ add_each f (λ b. 127) bytes

  quote_is : apart_word 0x2222_2222_2222_2222 word ≡ word_of (apart 34) bytes
  quote_is = plus (λ b. bit_xor (low b) 34) _ _
      (ap₂ bit_xor low_is (constant 34 _ refl) ∙ xor_each low (λ b. 34) refl refl bytes are) refl

  backslash_is : apart_word 0x5C5C_5C5C_5C5C_5C5C word ≡ word_of (apart 92) bytes
  backslash_is = plus (λ b. bit_xor (low b) 92) _ _
      (ap₂ bit_xor low_is (constant 92 _ refl) ∙ xor_each low (λ b. 92) refl refl bytes are) refl

  return_is : apart_word 0x0D0D_0D0D_0D0D_0D0D word ≡ word_of (apart 13) bytes
  return_is = plus (λ b. bit_xor (low b) 13) _ _
      (ap₂ bit_xor low_is (constant 13 _ refl) ∙ xor_each low (λ b. 13) refl refl bytes are) refl

  on_is : on_word word ≡ word_of on bytes
  on_is =
      ap₂ bit_and (ap₂ bit_and quote_is backslash_is ∙ and_each (apart 34) (apart 92) refl refl bytes are) return_is
      ∙ and_each (λ b. bit_and (apart 34 b) (apart 92 b)) (apart 13) refl refl bytes are

  off_is : 2 ^ 64 - 1 - on_word word ≡ word_of (λ b. 255 - on b) bytes
  off_is =
      let full : 2 ^ 64 - 1 ≡ uniform_word 255 (length bytes) = sym (ap (uniform_word 255) l) in
      omega (arith, on_is, full, not_each on refl bytes are)

  stops_is : stop_word word ≡ word_of plain_stop bytes
  stops_is =
      ap₂ bit_and (ap₂ bit_or off_is word_is ∙ or_each (λ b. 255 - on b) (λ b. b) refl refl bytes are)
      (constant 128 _ refl)
      ∙ and_each (λ b. bit_or (255 - on b) b) (λ b. 128) refl refl bytes are
      ∙ same_each stop plain_stop stops_are bytes are

  -- the word gives the number of bytes that need no escape
  pub plain_in_word : trailing_zeros w64 (stop_word word) / 8 ≡ length (while_front is_plain_ascii bytes)
  plain_in_word =
      ap (λ w. count_trailing_zeros 64 w / 8) stops_is
      ∙ subst
      (λ n. count_trailing_zeros (eights n) (word_of plain_stop bytes) / 8 ≡ length (while_front is_plain_ascii bytes))
      l
      (first_stop is_plain_ascii bytes)

  -- if no bit is set, none of the 8 bytes needs an escape
  pub plain_past_word : stop_word word ≡ 0 → 8 ≡ length (while_front is_plain_ascii bytes)
  plain_past_word none =
      ap (λ n. n / 8) (sym (trailing_of_zero 64)) ∙ ap (λ w. count_trailing_zeros 64 w / 8) (sym none) ∙ plain_in_word

pub plain_in_word_ends : (word : ℕ) → (stop_word word ≡ 0 → ⊥) → trailing_zeros w64 (stop_word word) / 8 < 8
plain_in_word_ends word some =
    let le = and_le_r (bit_or (2 ^ 64 - 1 - on_word word) word) 0x8080_8080_8080_8080 in
    let at = bit_at-trailing_zeros w64 (stop_word word) (omega (arith, some)) (omega (arith, le)) in
    omega (arith, at.0)

-- no sum overflows
pub xor_low : (word others : ℕ) → others < 2 ^ 63 → bit_xor (low_word word) others < 2 ^ 63
xor_low word others small =
    let le = and_le_r word 0x7F7F_7F7F_7F7F_7F7F in
    xor_lt 63 (low_word word) others (omega (arith, le)) small

-- ---- a prefix of a run

one_passes : (test : ℕ → Bool) (b k : ℕ) (bytes : List ℕ) (on : Bool) → test b ≡ on
    → suc k ≤ length (cond on (b ∷ while_front test bytes) [])
    → (k ≤ length (while_front test bytes) → list_all test (take k bytes) ≡ true)
    → (test b && list_all test (take k bytes)) ≡ true
one_passes test b k bytes true is few rest = and_from _ _ is (rest (omega (arith, few)))
one_passes test b k bytes false is few rest = absurd (omega (arith, few))

pub run_passes : (test : ℕ → Bool) (k : ℕ) (bytes : List ℕ) → k ≤ length (while_front test bytes)
    → list_all test (take k bytes) ≡ true
run_passes test zero bytes few = refl
run_passes test (suc k) [] few = refl
run_passes test (suc k) (b ∷ bytes) few = one_passes test b k bytes (test b) refl few (run_passes test k bytes)
