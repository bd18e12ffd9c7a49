-- Words of 8 bytes, byte by byte: an operation on a word is an operation on each of its bytes.
use Rattle.std.proofs.Common.{◌≡◌, ℕ, zero, suc, ◌+◌, ◌-◌, ◌*◌, ◌/◌, ◌%◌, ◌^◌, ◌<◌, ◌≤◌, Bool, true, false, cond}
use Rattle.std.proofs.Common.{List, [], ◌∷◌, length, length-drop, drop-drop, take, drop, get_or, nat_lt, nat_eq}
use Rattle.std.proofs.Common.{refl, sym, ap, ap₂, ◌∙◌, subst, arith, w64}
use Rattle.std.specs.Int.{from_le_bytes, trailing_zeros}
use Rattle.std.specs.Int.Count.{count_trailing_zeros}
use Rattle.std.proofs.lemmas.Bool.{agree_below_at, agree_below, ltb-true, eqb-true}
use Rattle.std.proofs.lemmas.Nat.{and_block, or_block, xor_block, and_le_r, or_lt}
use Rattle.unicode_ident.proofs.Computing.{unicode_ident}
use Rattle.std.proofs.lemmas.Nat.Bits.{bit_at-trailing_zeros}
use lib.Bits.{bit_and, bit_or, bit_xor}
use lib.Count.{under, trailing_of_zero}
use Rattle.lexical.specs.Bytes.{ascii_in}
use Rattle.lexical.specs.Finder.{while_front}
use Rattle.lexical.specs.MachineWord.{name_stop, word_of}
use Rattle.lexical.specs.declared.bytes.Class.TheVariants.{IdentifierContinue}

-- whether each number of the list is a byte
abbrev pub AreBytes : List ℕ → Type 0
AreBytes bytes = (i : ℕ) → get_or bytes i 0 < 256

-- whether the function maps bytes to bytes
abbrev pub fits : (ℕ → ℕ) → Bool
fits f = agree_below (λ b. nat_lt (f b) 256) (λ b. true) 256

is_byte : (f : ℕ → ℕ) → fits f ≡ true → (b : ℕ) → b < 256 → f b < 256
is_byte f h b low = ltb-true (f b) 256 (agree_below_at (λ b. nat_lt (f b) 256) (λ b. true) 256 b h low)

module _ (f g : ℕ → ℕ) (f_fits : fits f ≡ true) (g_fits : fits g ≡ true) where
  pub and_each : (bytes : List ℕ) → AreBytes bytes
      → bit_and (word_of f bytes) (word_of g bytes) ≡ word_of (λ b. bit_and (f b) (g b)) bytes
  and_each [] small = refl
  and_each (b ∷ bytes) small =
      and_block 8 (word_of f bytes) (word_of g bytes) (f b) (g b) (is_byte f f_fits b (small 0))
      (is_byte g g_fits b (small 0))
      ∙ ap (λ x. x * 256 + bit_and (f b) (g b)) (and_each bytes (λ i. small (suc i)))

  pub or_each : (bytes : List ℕ) → AreBytes bytes
      → bit_or (word_of f bytes) (word_of g bytes) ≡ word_of (λ b. bit_or (f b) (g b)) bytes
  or_each [] small = refl
  or_each (b ∷ bytes) small =
      or_block 8 (word_of f bytes) (word_of g bytes) (f b) (g b) (is_byte f f_fits b (small 0))
      (is_byte g g_fits b (small 0))
      ∙ ap (λ x. x * 256 + bit_or (f b) (g b)) (or_each bytes (λ i. small (suc i)))

  pub xor_each : (bytes : List ℕ) → AreBytes bytes
      → bit_xor (word_of f bytes) (word_of g bytes) ≡ word_of (λ b. bit_xor (f b) (g b)) bytes
  xor_each [] small = refl
  xor_each (b ∷ bytes) small =
      xor_block 8 (word_of f bytes) (word_of g bytes) (f b) (g b) (is_byte f f_fits b (small 0))
      (is_byte g g_fits b (small 0))
      ∙ ap (λ x. x * 256 + bit_xor (f b) (g b)) (xor_each bytes (λ i. small (suc i)))

pub add_each : (f g : ℕ → ℕ) (bytes : List ℕ)
    → word_of f bytes + word_of g bytes ≡ word_of (λ b. f b + g b) bytes
add_each f g [] = refl
add_each f g (b ∷ bytes) = omega (arith, add_each f g bytes)

pub same_each : (f g : ℕ → ℕ) → agree_below (λ b. nat_eq (f b) (g b)) (λ b. true) 256 ≡ true → (bytes : List ℕ)
    → AreBytes bytes → word_of f bytes ≡ word_of g bytes
same_each f g same [] small = refl
same_each f g same (b ∷ bytes) small =
    ap₂ (λ x y. x * 256 + y) (same_each f g same bytes (λ i. small (suc i)))
    (eqb-true (f b) (g b) (agree_below_at (λ b. nat_eq (f b) (g b)) (λ b. true) 256 b same (small 0)))

-- the word of n bytes that all equal k
abbrev pub uniform_word : ℕ → ℕ → ℕ
uniform_word k zero = 0
uniform_word k (suc n) = uniform_word k n * 256 + k

pub each_is : (k : ℕ) (bytes : List ℕ) → word_of (λ b. k) bytes ≡ uniform_word k (length bytes)
each_is k [] = refl
each_is k (b ∷ bytes) = ap (λ x. x * 256 + k) (each_is k bytes)

-- the word with all bits inverted
pub not_each : (f : ℕ → ℕ) → fits f ≡ true → (bytes : List ℕ) → AreBytes bytes
    → word_of f bytes + word_of (λ b. 255 - f b) bytes ≡ uniform_word 255 (length bytes)
not_each f h [] small = refl
not_each f h (b ∷ bytes) small =
    let low = is_byte f h b (small 0) in
    omega (arith, low, not_each f h bytes (λ i. small (suc i)))

pub read : (bytes : List ℕ) → length bytes ≡ 8 → from_le_bytes w64 bytes ≡ word_of (λ b. b) bytes
read [] l = absurd (omega arith)
read (a ∷ []) l = absurd (omega arith)
read (a ∷ b ∷ []) l = absurd (omega arith)
read (a ∷ b ∷ c ∷ []) l = absurd (omega arith)
read (a ∷ b ∷ c ∷ d ∷ []) l = absurd (omega arith)
read (a ∷ b ∷ c ∷ d ∷ e ∷ []) l = absurd (omega arith)
read (a ∷ b ∷ c ∷ d ∷ e ∷ f ∷ []) l = absurd (omega arith)
read (a ∷ b ∷ c ∷ d ∷ e ∷ f ∷ g ∷ []) l = absurd (omega arith)
read (a ∷ b ∷ c ∷ d ∷ e ∷ f ∷ g ∷ h ∷ []) l = omega arith
read (a ∷ b ∷ c ∷ d ∷ e ∷ f ∷ g ∷ h ∷ x ∷ bytes) l = absurd (omega arith)

-- ---- names

-- the operations on a byte
abbrev pub low : ℕ → ℕ
low b = bit_and b 127

abbrev small : ℕ → ℕ
small b = bit_or (low b) 32

abbrev letter : ℕ → ℕ
letter b = bit_xor (small b + 31) (small b + 5)

abbrev digit : ℕ → ℕ
digit b = bit_xor (low b + 80) (low b + 70)

abbrev underscore : ℕ → ℕ
underscore b = bit_xor (low b + 33) (low b + 32)

abbrev on : ℕ → ℕ
on b = bit_xor (bit_xor (letter b) (digit b)) (underscore b)

abbrev stop : ℕ → ℕ
stop b = bit_and (bit_or (255 - on b) b) 128

-- the operations on a word
abbrev pub low_word : ℕ → ℕ
low_word word = bit_and word 0x7F7F_7F7F_7F7F_7F7F

abbrev pub small_word : ℕ → ℕ
small_word word = bit_or (low_word word) 0x2020_2020_2020_2020

abbrev pub on_word : ℕ → ℕ
on_word word =
    bit_xor
    (bit_xor (bit_xor (small_word word + 0x1F1F_1F1F_1F1F_1F1F) (small_word word + 0x0505_0505_0505_0505))
    (bit_xor (low_word word + 0x5050_5050_5050_5050) (low_word word + 0x4646_4646_4646_4646)))
    (bit_xor (low_word word + 0x2121_2121_2121_2121) (low_word word + 0x2020_2020_2020_2020))

abbrev pub stop_word : ℕ → ℕ
stop_word word = bit_and (bit_or (2 ^ 64 - 1 - on_word word) word) 0x8080_8080_8080_8080

stops_are : agree_below (λ b. nat_eq (stop b) (name_stop b)) (λ b. true) 256 ≡ true
unfolding unicode_ident
stops_are = refl

-- the operations on a word of these 8 bytes
module _ (bytes : List ℕ) (l : length bytes ≡ 8) (are : AreBytes bytes) (word : ℕ)
    (is : word ≡ from_le_bytes w64 bytes) where
  constant : (k n : ℕ) → n ≡ uniform_word k 8 → n ≡ word_of (λ b. k) bytes
  constant k n e = e ∙ sym (each_is k bytes ∙ ap (uniform_word k) l)

  word_is : word ≡ word_of (λ b. b) bytes
  word_is = is ∙ read bytes l

  plus : (f : ℕ → ℕ) (k w n : ℕ) → w ≡ word_of f bytes → n ≡ uniform_word k 8 → w + n ≡ word_of (λ b. f b + k) bytes
  plus f k w n e c = ap₂ (λ x y. x + y) e (constant k n c) ∙ add_each f (λ b. k) bytes

  low_is : low_word word ≡ word_of low bytes
  low_is = ap₂ bit_and word_is (constant 127 _ refl) ∙ and_each (λ b. b) (λ b. 127) refl refl bytes are

  small_is : small_word word ≡ word_of small bytes
  small_is = ap₂ bit_or low_is (constant 32 _ refl) ∙ or_each low (λ b. 32) refl refl bytes are

  letter_is : bit_xor (small_word word + 0x1F1F_1F1F_1F1F_1F1F) (small_word word + 0x0505_0505_0505_0505)
      ≡ word_of letter bytes
  letter_is =
      ap₂ bit_xor (plus small 31 _ _ small_is refl) (plus small 5 _ _ small_is refl)
      ∙ xor_each (λ b. small b + 31) (λ b. small b + 5) refl refl bytes are

  digit_is : bit_xor (low_word word + 0x5050_5050_5050_5050) (low_word word + 0x4646_4646_4646_4646)
      ≡ word_of digit bytes
  digit_is =
      ap₂ bit_xor (plus low 80 _ _ low_is refl) (plus low 70 _ _ low_is refl)
      ∙ xor_each (λ b. low b + 80) (λ b. low b + 70) refl refl bytes are

  underscore_is : bit_xor (low_word word + 0x2121_2121_2121_2121) (low_word word + 0x2020_2020_2020_2020)
      ≡ word_of underscore bytes
  underscore_is =
      ap₂ bit_xor (plus low 33 _ _ low_is refl) (plus low 32 _ _ low_is refl)
      ∙ xor_each (λ b. low b + 33) (λ b. low b + 32) refl refl bytes are

  on_is : on_word word ≡ word_of on bytes
  on_is =
      ap₂ bit_xor (ap₂ bit_xor letter_is digit_is ∙ xor_each letter digit refl refl bytes are) underscore_is
      ∙ xor_each (λ b. bit_xor (letter b) (digit b)) underscore refl refl bytes are

  off_is : 2 ^ 64 - 1 - on_word word ≡ word_of (λ b. 255 - on b) bytes
  off_is =
      let full : 2 ^ 64 - 1 ≡ uniform_word 255 (length bytes) = sym (ap (uniform_word 255) l) in
      omega (arith, on_is, full, not_each on refl bytes are)

  pub stops_is : stop_word word ≡ word_of name_stop bytes
  stops_is =
      ap₂ bit_and (ap₂ bit_or off_is word_is ∙ or_each (λ b. 255 - on b) (λ b. b) refl refl bytes are)
      (constant 128 _ refl)
      ∙ and_each (λ b. bit_or (255 - on b) b) (λ b. 128) refl refl bytes are
      ∙ same_each stop name_stop stops_are bytes are

-- ---- the lowest bit that is set

-- the number of bits of n bytes
abbrev pub eights : ℕ → ℕ
eights zero = zero
eights (suc n) = suc (suc (suc (suc (suc (suc (suc (suc (eights n))))))))

even : (k y n : ℕ) → n ≡ y * 2 → count_trailing_zeros (suc k) n ≡ suc (count_trailing_zeros k y)
unfolding count_trailing_zeros
even k y n e =
    let none : n % 2 ≡ 0 = omega arith in
    let half : n / 2 ≡ y = omega arith in
    ap₂ (λ r t. under r (count_trailing_zeros k t)) none half

odd : (k y n : ℕ) → n ≡ y * 2 + 1 → count_trailing_zeros (suc k) n ≡ 0
unfolding count_trailing_zeros
odd k y n e =
    let one : n % 2 ≡ 1 = omega arith in
    ap (λ r. under r (count_trailing_zeros k (n / 2))) one

past_byte : (k y : ℕ) → count_trailing_zeros (suc (suc (suc (suc (suc (suc (suc (suc k)))))))) (y * 256 + 0)
    ≡ suc (suc (suc (suc (suc (suc (suc (suc (count_trailing_zeros k y))))))))
past_byte k y =
    even _ (y * 128) _ (omega arith)
    ∙ ap suc (even _ (y * 64) _ (omega arith)
    ∙ ap suc (even _ (y * 32) _ (omega arith)
    ∙ ap suc (even _ (y * 16) _ (omega arith)
    ∙ ap suc (even _ (y * 8) _ (omega arith)
    ∙ ap suc (even _ (y * 4) _ (omega arith)
    ∙ ap suc (even _ (y * 2) _ (omega arith)
    ∙ ap suc (even _ y _ (omega arith))))))))

at_top : (k y : ℕ) → count_trailing_zeros (suc (suc (suc (suc (suc (suc (suc (suc k)))))))) (y * 256 + 128) ≡ 7
at_top k y =
    even _ (y * 128 + 64) _ (omega arith)
    ∙ ap suc (even _ (y * 64 + 32) _ (omega arith)
    ∙ ap suc (even _ (y * 32 + 16) _ (omega arith)
    ∙ ap suc (even _ (y * 16 + 8) _ (omega arith)
    ∙ ap suc (even _ (y * 8 + 4) _ (omega arith)
    ∙ ap suc (even _ (y * 4 + 2) _ (omega arith)
    ∙ ap suc (even _ (y * 2 + 1) _ (omega arith)
    ∙ ap suc (odd _ y _ (omega arith))))))))

-- whether an ASCII name continues with the byte
abbrev pub continues : ℕ → Bool
continues = ascii_in IdentifierContinue

eight_more : (n m : ℕ) → n / 8 ≡ m → suc (suc (suc (suc (suc (suc (suc (suc n))))))) / 8 ≡ suc m
eight_more n m e = omega (arith, e)

one_more : (on : Bool) (b word k : ℕ) (front : List ℕ) → count_trailing_zeros k word / 8 ≡ length front
    → count_trailing_zeros (suc (suc (suc (suc (suc (suc (suc (suc k)))))))) (word * 256 + cond on 0 128) / 8
    ≡ length (cond on (b ∷ front) [])
one_more true b word k front rest = ap (λ n. n / 8) (past_byte k word) ∙ eight_more (count_trailing_zeros k word) _ rest
one_more false b word k front rest = ap (λ n. n / 8) (at_top k word)

-- the lowest bit that is set gives the index of the first byte that does not pass
pub first_stop : (test : ℕ → Bool) (bytes : List ℕ)
    → count_trailing_zeros (eights (length bytes)) (word_of (λ b. cond (test b) 0 128) bytes) / 8
    ≡ length (while_front test bytes)
unfolding count_trailing_zeros
first_stop test [] = refl
first_stop test (b ∷ bytes) = one_more (test b) b _ _ _ (first_stop test bytes)

-- the word gives the number of bytes that continue a name
pub name_in_word : (bytes : List ℕ) → length bytes ≡ 8 → AreBytes bytes → (word : ℕ) → word ≡ from_le_bytes w64 bytes
    → trailing_zeros w64 (stop_word word) / 8 ≡ length (while_front continues bytes)
name_in_word bytes l are word is =
    ap (λ w. count_trailing_zeros 64 w / 8) (stops_is bytes l are word is)
    ∙ subst
    (λ n. count_trailing_zeros (eights n) (word_of name_stop bytes) / 8 ≡ length (while_front continues bytes)) l
    (first_stop continues bytes)

-- if no bit is set, all 8 bytes continue a name
pub name_past_word : (bytes : List ℕ) → length bytes ≡ 8 → AreBytes bytes → (word : ℕ) → word ≡ from_le_bytes w64 bytes
    → stop_word word ≡ 0 → 8 ≡ length (while_front continues bytes)
name_past_word bytes l are word is none =
    ap (λ n. n / 8) (sym (trailing_of_zero 64)) ∙ ap (λ w. count_trailing_zeros 64 w / 8) (sym none)
    ∙ name_in_word bytes l are word is

pub name_in_word_ends : (word : ℕ) → (stop_word word ≡ 0 → ⊥) → trailing_zeros w64 (stop_word word) / 8 < 8
name_in_word_ends word some =
    let le = and_le_r (bit_or (2 ^ 64 - 1 - on_word word) word) 0x8080_8080_8080_8080 in
    let at = bit_at-trailing_zeros w64 (stop_word word) (omega (arith, some)) (omega (arith, le)) in
    omega (arith, at.0)

-- no sum overflows
pub small_word_low : (word : ℕ) → small_word word < 2 ^ 63
small_word_low word =
    let le = and_le_r word 0x7F7F_7F7F_7F7F_7F7F in
    or_lt 63 (low_word word) 0x2020_2020_2020_2020 (omega (arith, le)) (omega arith)

-- ---- a run, counted in a prefix of the bytes

-- what is counted in the prefix, and whether the run continues after it
counted_or_not : (test : ℕ → Bool) (n b : ℕ) (bytes : List ℕ) (on : Bool) → test b ≡ on
    → (length (while_front test (take n bytes)) ≤ length bytes)
    × (length (while_front test (take n bytes))
    + length (while_front test (drop (length (while_front test (take n bytes))) bytes))
    ≡ length (while_front test bytes))
    → (length (cond on (b ∷ while_front test (take n bytes)) []) ≤ suc (length bytes))
    × (length (cond on (b ∷ while_front test (take n bytes)) [])
    + length (while_front test (drop (length (cond on (b ∷ while_front test (take n bytes)) [])) (b ∷ bytes)))
    ≡ length (cond (test b) (b ∷ while_front test bytes) []))
counted_or_not test n b bytes true is rest =
    let whole = ap (λ x. length (cond x (b ∷ while_front test bytes) [])) is in
    (omega (arith, rest.0), omega (arith, rest.1, whole))
counted_or_not test n b bytes false is rest = (omega arith, omega arith)

pub counted_front : (test : ℕ → Bool) (n : ℕ) (bytes : List ℕ)
    → (length (while_front test (take n bytes)) ≤ length bytes)
    × (length (while_front test (take n bytes))
    + length (while_front test (drop (length (while_front test (take n bytes))) bytes))
    ≡ length (while_front test bytes))
counted_front test zero bytes = (omega arith, omega arith)
counted_front test (suc n) [] = (omega arith, omega arith)
counted_front test (suc n) (b ∷ bytes) = counted_or_not test n b bytes (test b) refl (counted_front test n bytes)

-- fewer than n items are counted in the prefix, so the run ends there
ends_or_not : (test : ℕ → Bool) (n b : ℕ) (bytes : List ℕ) (on : Bool)
    → (length (while_front test (take n bytes)) < n
    → length (while_front test (take n bytes)) ≡ length (while_front test bytes))
    → length (cond on (b ∷ while_front test (take n bytes)) []) < suc n
    → length (cond on (b ∷ while_front test (take n bytes)) []) ≡ length (cond on (b ∷ while_front test bytes) [])
ends_or_not test n b bytes true rest few = omega (arith, rest (omega (arith, few)))
ends_or_not test n b bytes false rest few = refl

ends_within : (test : ℕ → Bool) (n : ℕ) (bytes : List ℕ) → length (while_front test (take n bytes)) < n
    → length (while_front test (take n bytes)) ≡ length (while_front test bytes)
ends_within test zero bytes few = absurd (omega (arith, few))
ends_within test (suc n) [] few = refl
ends_within test (suc n) (b ∷ bytes) few = ends_or_not test n b bytes (test b) (ends_within test n bytes) few

-- the run after n bytes that pass, with what was counted in the next word
module _ (test : ℕ → Bool) (bytes inside word : List ℕ) (n more : ℕ) (rest : inside ≡ drop n bytes)
    (front : word ≡ take 8 inside)
    (counted : more ≡ length (while_front test word)) (within : n ≤ length bytes)
    (before : n + length (while_front test (drop n bytes)) ≡ length (while_front test bytes)) where
  is_front : more ≡ length (while_front test (take 8 (drop n bytes)))
  is_front = counted ∙ ap (λ x. length (while_front test x)) (front ∙ ap (take 8) rest)

  pub goes_on : (n + more ≤ length bytes)
      × (n + more + length (while_front test (drop (n + more) bytes)) ≡ length (while_front test bytes))
  goes_on =
      let all = counted_front test 8 (drop n bytes) in
      let after : length (while_front test (drop (length (while_front test (take 8 (drop n bytes)))) (drop n bytes)))
      ≡ length (while_front test (drop (n + more) bytes)) =
      ap (λ x. length (while_front test x))
      (ap (λ m. drop m (drop n bytes)) (sym is_front) ∙ drop-drop more n bytes) in (
        omega (arith, all.0, is_front, length-drop n bytes, within),
        omega (arith, all.1, is_front, after, before),
      )

  -- the run ends in the word if fewer than 8 bytes pass there
  pub ends_here : more < 8 → n + more ≡ length (while_front test bytes)
  ends_here few = omega (arith, before, is_front, ends_within test 8 (drop n bytes) (omega (arith, is_front, few)))
