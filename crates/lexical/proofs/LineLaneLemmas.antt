-- Words of 8 bytes: which bytes continue a line.
use Rattle.std.proofs.Common.{◌≡◌, ℕ, ◌+◌, ◌-◌, ◌/◌, ◌^◌, ◌<◌, true, cond, List, length, nat_eq}
use Rattle.std.proofs.Common.{refl, sym, ap, ap₂, ◌∙◌, subst, arith, w64}
use Rattle.std.specs.Int.{from_le_bytes, trailing_zeros}
use Rattle.std.specs.Int.Count.{count_trailing_zeros}
use Rattle.std.proofs.lemmas.Bool.{agree_below}
use Rattle.std.proofs.lemmas.Nat.{and_le_r}
use Rattle.std.proofs.lemmas.Nat.Bits.{bit_at-trailing_zeros}
use lib.Bits.{bit_and, bit_or, bit_xor}
use lib.Count.{trailing_of_zero}
use Rattle.lexical.specs.Finder.{while_front}
use Rattle.lexical.specs.MachineWord.{is_line_ascii, word_of}
use Rattle.lexical.proofs.LaneLemmas.{AreBytes, add_each, and_each, each_is, eights, first_stop, low, low_word}
use Rattle.lexical.proofs.LaneLemmas.{not_each, or_each, read, uniform_word, same_each, xor_each}

-- the operations on a byte. The highest bit is set unless the byte equals the other one
abbrev apart : ℕ → ℕ → ℕ
apart other b = bit_xor (low b) other + 127

abbrev on : ℕ → ℕ
on b = bit_and (apart 10 b) (apart 13 b)

abbrev stop : ℕ → ℕ
stop b = bit_and (bit_or (255 - on b) b) 128

-- the operations on a word
abbrev pub apart_word : ℕ → ℕ → ℕ
apart_word others word = bit_xor (low_word word) others + 0x7F7F_7F7F_7F7F_7F7F

abbrev pub on_word : ℕ → ℕ
on_word word = bit_and (apart_word 0x0A0A_0A0A_0A0A_0A0A word) (apart_word 0x0D0D_0D0D_0D0D_0D0D word)

abbrev pub stop_word : ℕ → ℕ
stop_word word = bit_and (bit_or (2 ^ 64 - 1 - on_word word) word) 0x8080_8080_8080_8080

abbrev line_stop : ℕ → ℕ
line_stop b = cond (is_line_ascii b) 0 128

stops_are : agree_below (λ b. nat_eq (stop b) (line_stop b)) (λ b. true) 256 ≡ true
stops_are = refl

-- the operations on a word of these 8 bytes
module _ (bytes : List ℕ) (l : length bytes ≡ 8) (are : AreBytes bytes) (word : ℕ)
    (is : word ≡ from_le_bytes w64 bytes) where
  constant : (k n : ℕ) → n ≡ uniform_word k 8 → n ≡ word_of (λ b. k) bytes
  constant k n e = e ∙ sym (each_is k bytes ∙ ap (uniform_word k) l)

  word_is : word ≡ word_of (λ b. b) bytes
  word_is = is ∙ read bytes l

  low_is : low_word word ≡ word_of low bytes
  low_is = ap₂ bit_and word_is (constant 127 _ refl) ∙ and_each (λ b. b) (λ b. 127) refl refl bytes are

  plus : (f : ℕ → ℕ) (w n : ℕ) → w ≡ word_of f bytes → n ≡ uniform_word 127 8 → w + n ≡ word_of (λ b. f b + 127) bytes
  plus f w n e c = ap₂ (λ x y. x + y) e (constant 127 n c) ∙ add_each f (λ b. 127) bytes

  feed_is : apart_word 0x0A0A_0A0A_0A0A_0A0A word ≡ word_of (apart 10) bytes
  feed_is = plus (λ b. bit_xor (low b) 10) _ _
      (ap₂ bit_xor low_is (constant 10 _ refl) ∙ xor_each low (λ b. 10) refl refl bytes are) refl

  return_is : apart_word 0x0D0D_0D0D_0D0D_0D0D word ≡ word_of (apart 13) bytes
  return_is = plus (λ b. bit_xor (low b) 13) _ _
      (ap₂ bit_xor low_is (constant 13 _ refl) ∙ xor_each low (λ b. 13) refl refl bytes are) refl

  on_is : on_word word ≡ word_of on bytes
  on_is = ap₂ bit_and feed_is return_is ∙ and_each (apart 10) (apart 13) refl refl bytes are

  off_is : 2 ^ 64 - 1 - on_word word ≡ word_of (λ b. 255 - on b) bytes
  off_is =
      let full : 2 ^ 64 - 1 ≡ uniform_word 255 (length bytes) = sym (ap (uniform_word 255) l) in
      omega (arith, on_is, full, not_each on refl bytes are)

  stops_is : stop_word word ≡ word_of line_stop bytes
  stops_is =
      ap₂ bit_and (ap₂ bit_or off_is word_is ∙ or_each (λ b. 255 - on b) (λ b. b) refl refl bytes are)
      (constant 128 _ refl)
      ∙ and_each (λ b. bit_or (255 - on b) b) (λ b. 128) refl refl bytes are
      ∙ same_each stop line_stop stops_are bytes are

  -- the word gives the number of bytes that continue the line
  pub line_in_word : trailing_zeros w64 (stop_word word) / 8 ≡ length (while_front is_line_ascii bytes)
  line_in_word =
      ap (λ w. count_trailing_zeros 64 w / 8) stops_is
      ∙ subst
      (λ n. count_trailing_zeros (eights n) (word_of line_stop bytes) / 8 ≡ length (while_front is_line_ascii bytes))
      l
      (first_stop is_line_ascii bytes)

  -- if no bit is set, all 8 bytes continue the line
  pub line_past_word : stop_word word ≡ 0 → 8 ≡ length (while_front is_line_ascii bytes)
  line_past_word none =
      ap (λ n. n / 8) (sym (trailing_of_zero 64)) ∙ ap (λ w. count_trailing_zeros 64 w / 8) (sym none) ∙ line_in_word

pub line_in_word_ends : (word : ℕ) → (stop_word word ≡ 0 → ⊥) → trailing_zeros w64 (stop_word word) / 8 < 8
line_in_word_ends word some =
    let le = and_le_r (bit_or (2 ^ 64 - 1 - on_word word) word) 0x8080_8080_8080_8080 in
    let at = bit_at-trailing_zeros w64 (stop_word word) (omega (arith, some)) (omega (arith, le)) in
    omega (arith, at.0)
