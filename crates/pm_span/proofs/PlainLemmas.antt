-- Operations on words of 8 bytes, as operations on each of the bytes.
use Rattle.std.proofs.Common.{◌≡◌, ℕ, zero, suc, ◌+◌, ◌-◌, ◌*◌, ◌/◌, ◌%◌, ◌^◌, ◌<◌, ◌≤◌, Bool, true, false, cond}
use Rattle.std.proofs.Common.{List, [], ◌∷◌, ◌++◌, length, take, drop, get_or, nat_lt, nat_eq, not}
use Rattle.std.proofs.Common.{refl, sym, ap, ap₂, ◌∙◌, subst, arith, w64}
use Rattle.std.specs.Int.{from_le_bytes, trailing_zeros}
use Rattle.std.specs.Int.Count.{count_trailing_zeros}
use Rattle.std.specs.List.{prefix_len, slice_range}
use Rattle.std.proofs.lemmas.Bool.{agree_below_at, agree_below, ltb-true, eqb-true, and_parts, and_from}
use Rattle.std.proofs.lemmas.List.{take-append-drop, take_all, drop_more}
use Rattle.std.proofs.lemmas.List.Folds.{length-prefix_len}
use Rattle.std.proofs.lemmas.List.Sums.{prefix_len-le-length}
use Rattle.std.proofs.lemmas.Nat.{and_block, or_block, xor_block, and_le_r}
use Rattle.std.proofs.lemmas.Nat.Bits.{bit_at-trailing_zeros}
use lib.Bits.{bit_and, bit_or, bit_xor}
use lib.Count.{under, trailing_of_zero}
use Rattle.std.proofs.lemmas.Str.{chars-IsAscii, chars-append, IsUtf8-from_ascii}
use Rattle.std.proofs.lemmas.Str.Ascii.{IsAscii-nil, IsAscii-cons}
use Rattle.std.specs.Str.{chars, IsAscii, IsUtf8}
use Rattle.pm_span.specs.CharOffset.{is_line_feed}
use Rattle.pm_span.specs.Line.{is_one_line}
use Rattle.pm_span.specs.Plain.{is_plain}
use Rattle.pm_span.proofs.SplitLemmas.{feed_first}

-- whether each number is a byte
abbrev pub AreBytes : List ℕ → Type 0
AreBytes bytes = (i : ℕ) → get_or bytes i 0 < 256

-- the number whose bytes are the function's values, with the lowest byte first
abbrev word_of : (ℕ → ℕ) → List ℕ → ℕ
word_of f [] = 0
word_of f (b ∷ bytes) = word_of f bytes * 256 + f b

-- whether the function takes bytes to bytes
abbrev fits : (ℕ → ℕ) → Bool
fits f = agree_below (λ b. nat_lt (f b) 256) (λ b. true) 256

is_byte : (f : ℕ → ℕ) → fits f ≡ true → (b : ℕ) → b < 256 → f b < 256
is_byte f h b low = ltb-true (f b) 256 (agree_below_at (λ b. nat_lt (f b) 256) (λ b. true) 256 b h low)

module _ (f g : ℕ → ℕ) (f_fits : fits f ≡ true) (g_fits : fits g ≡ true) where
  and_each : (bytes : List ℕ) → AreBytes bytes
      → bit_and (word_of f bytes) (word_of g bytes) ≡ word_of (λ b. bit_and (f b) (g b)) bytes
  and_each [] small = refl
  and_each (b ∷ bytes) small =
      and_block 8 (word_of f bytes) (word_of g bytes) (f b) (g b) (is_byte f f_fits b (small 0))
      (is_byte g g_fits b (small 0))
      ∙ ap (λ x. x * 256 + bit_and (f b) (g b)) (and_each bytes (λ i. small (suc i)))

  or_each : (bytes : List ℕ) → AreBytes bytes
      → bit_or (word_of f bytes) (word_of g bytes) ≡ word_of (λ b. bit_or (f b) (g b)) bytes
  or_each [] small = refl
  or_each (b ∷ bytes) small =
      or_block 8 (word_of f bytes) (word_of g bytes) (f b) (g b) (is_byte f f_fits b (small 0))
      (is_byte g g_fits b (small 0))
      ∙ ap (λ x. x * 256 + bit_or (f b) (g b)) (or_each bytes (λ i. small (suc i)))

  xor_each : (bytes : List ℕ) → AreBytes bytes
      → bit_xor (word_of f bytes) (word_of g bytes) ≡ word_of (λ b. bit_xor (f b) (g b)) bytes
  xor_each [] small = refl
  xor_each (b ∷ bytes) small =
      xor_block 8 (word_of f bytes) (word_of g bytes) (f b) (g b) (is_byte f f_fits b (small 0))
      (is_byte g g_fits b (small 0))
      ∙ ap (λ x. x * 256 + bit_xor (f b) (g b)) (xor_each bytes (λ i. small (suc i)))

add_each : (f g : ℕ → ℕ) (bytes : List ℕ)
    → word_of f bytes + word_of g bytes ≡ word_of (λ b. f b + g b) bytes
add_each f g [] = refl
add_each f g (b ∷ bytes) = omega (arith, add_each f g bytes)

same_each : (f g : ℕ → ℕ) → agree_below (λ b. nat_eq (f b) (g b)) (λ b. true) 256 ≡ true → (bytes : List ℕ)
    → AreBytes bytes → word_of f bytes ≡ word_of g bytes
same_each f g same [] small = refl
same_each f g same (b ∷ bytes) small =
    ap₂ (λ x y. x * 256 + y) (same_each f g same bytes (λ i. small (suc i)))
    (eqb-true (f b) (g b) (agree_below_at (λ b. nat_eq (f b) (g b)) (λ b. true) 256 b same (small 0)))

-- the word of n bytes that all have this value
abbrev uniform_word : ℕ → ℕ → ℕ
uniform_word k zero = 0
uniform_word k (suc n) = uniform_word k n * 256 + k

each_is : (k : ℕ) (bytes : List ℕ) → word_of (λ b. k) bytes ≡ uniform_word k (length bytes)
each_is k [] = refl
each_is k (b ∷ bytes) = ap (λ x. x * 256 + k) (each_is k bytes)

-- each bit of a word is inverted
not_each : (f : ℕ → ℕ) → fits f ≡ true → (bytes : List ℕ) → AreBytes bytes
    → word_of f bytes + word_of (λ b. 255 - f b) bytes ≡ uniform_word 255 (length bytes)
not_each f h [] small = refl
not_each f h (b ∷ bytes) small =
    let low = is_byte f h b (small 0) in
    omega (arith, low, not_each f h bytes (λ i. small (suc i)))

read : (bytes : List ℕ) → length bytes ≡ 8 → from_le_bytes w64 bytes ≡ word_of (λ b. b) bytes
read [] l = absurd (omega arith)
read (a ∷ []) l = absurd (omega arith)
read (a ∷ b ∷ []) l = absurd (omega arith)
read (a ∷ b ∷ c ∷ []) l = absurd (omega arith)
read (a ∷ b ∷ c ∷ d ∷ []) l = absurd (omega arith)
read (a ∷ b ∷ c ∷ d ∷ e ∷ []) l = absurd (omega arith)
read (a ∷ b ∷ c ∷ d ∷ e ∷ f ∷ []) l = absurd (omega arith)
read (a ∷ b ∷ c ∷ d ∷ e ∷ f ∷ g ∷ []) l = absurd (omega arith)
read (a ∷ b ∷ c ∷ d ∷ e ∷ f ∷ g ∷ h ∷ []) l = omega arith
read (a ∷ b ∷ c ∷ d ∷ e ∷ f ∷ g ∷ h ∷ x ∷ bytes) l = absurd (omega arith)

-- ---- plain bytes

-- the byte after `^` and `&`: 0 for a line feed, and for 128 + 10
abbrev line_feed_mask : ℕ → ℕ
line_feed_mask b = bit_and (bit_xor b 10) 127

abbrev stop : ℕ → ℕ
stop b = bit_and (bit_or (255 - (line_feed_mask b + 127)) b) 128

-- the highest bit, if the byte isn't plain
abbrev plain_stop : ℕ → ℕ
plain_stop b = cond (is_plain b) 0 128

-- a word after `^` and `&`
abbrev pub turned_word : ℕ → ℕ
turned_word word = bit_and (bit_xor word 0x0A0A_0A0A_0A0A_0A0A) 0x7F7F_7F7F_7F7F_7F7F

abbrev pub stop_word : ℕ → ℕ
stop_word word =
    bit_and (bit_or (2 ^ 64 - 1 - (turned_word word + 0x7F7F_7F7F_7F7F_7F7F)) word) 0x8080_8080_8080_8080

stops_are : agree_below (λ b. nat_eq (stop b) (plain_stop b)) (λ b. true) 256 ≡ true
stops_are = refl

-- lemmas on a word of 8 bytes
module _ (bytes : List ℕ) (l : length bytes ≡ 8) (are : AreBytes bytes) (word : ℕ)
    (is : word ≡ from_le_bytes w64 bytes) where
  constant : (k n : ℕ) → n ≡ uniform_word k 8 → n ≡ word_of (λ b. k) bytes
  constant k n e = e ∙ sym (each_is k bytes ∙ ap (uniform_word k) l)

  word_is : word ≡ word_of (λ b. b) bytes
  word_is = is ∙ read bytes l

  turned_is : turned_word word ≡ word_of line_feed_mask bytes
  turned_is =
      ap₂ bit_and
      (ap₂ bit_xor word_is (constant 10 _ refl) ∙ xor_each (λ b. b) (λ b. 10) refl refl bytes are)
      (constant 127 _ refl)
      ∙ and_each (λ b. bit_xor b 10) (λ b. 127) refl refl bytes are

  sum_is : turned_word word + 0x7F7F_7F7F_7F7F_7F7F ≡ word_of (λ b. line_feed_mask b + 127) bytes
  sum_is = ap₂ (λ x y. x + y) turned_is (constant 127 _ refl) ∙ add_each line_feed_mask (λ b. 127) bytes

  off_is : 2 ^ 64 - 1 - (turned_word word + 0x7F7F_7F7F_7F7F_7F7F) ≡ word_of (λ b. 255 - (line_feed_mask b + 127)) bytes
  off_is =
      let full : 2 ^ 64 - 1 ≡ uniform_word 255 (length bytes) = sym (ap (uniform_word 255) l) in
      omega (arith, sum_is, full, not_each (λ b. line_feed_mask b + 127) refl bytes are)

  stops_is : stop_word word ≡ word_of plain_stop bytes
  stops_is =
      ap₂ bit_and
      (ap₂ bit_or off_is word_is ∙ or_each (λ b. 255 - (line_feed_mask b + 127)) (λ b. b) refl refl bytes are)
      (constant 128 _ refl)
      ∙ and_each (λ b. bit_or (255 - (line_feed_mask b + 127)) b) (λ b. 128) refl refl bytes are
      ∙ same_each stop plain_stop stops_are bytes are

-- ---- the lowest bit of a word that is set

-- the number of bits in n bytes
abbrev eights : ℕ → ℕ
eights zero = zero
eights (suc n) = suc (suc (suc (suc (suc (suc (suc (suc (eights n))))))))

even : (k y n : ℕ) → n ≡ y * 2 → count_trailing_zeros (suc k) n ≡ suc (count_trailing_zeros k y)
unfolding count_trailing_zeros
even k y n e =
    let none : n % 2 ≡ 0 = omega arith in
    let half : n / 2 ≡ y = omega arith in
    ap₂ (λ r t. under r (count_trailing_zeros k t)) none half

odd : (k y n : ℕ) → n ≡ y * 2 + 1 → count_trailing_zeros (suc k) n ≡ 0
unfolding count_trailing_zeros
odd k y n e =
    let one : n % 2 ≡ 1 = omega arith in
    ap (λ r. under r (count_trailing_zeros k (n / 2))) one

past_byte : (k y : ℕ) → count_trailing_zeros (suc (suc (suc (suc (suc (suc (suc (suc k)))))))) (y * 256 + 0)
    ≡ suc (suc (suc (suc (suc (suc (suc (suc (count_trailing_zeros k y))))))))
past_byte k y =
    even _ (y * 128) _ (omega arith)
    ∙ ap suc (even _ (y * 64) _ (omega arith)
    ∙ ap suc (even _ (y * 32) _ (omega arith)
    ∙ ap suc (even _ (y * 16) _ (omega arith)
    ∙ ap suc (even _ (y * 8) _ (omega arith)
    ∙ ap suc (even _ (y * 4) _ (omega arith)
    ∙ ap suc (even _ (y * 2) _ (omega arith)
    ∙ ap suc (even _ y _ (omega arith))))))))

at_top : (k y : ℕ) → count_trailing_zeros (suc (suc (suc (suc (suc (suc (suc (suc k)))))))) (y * 256 + 128) ≡ 7
at_top k y =
    even _ (y * 128 + 64) _ (omega arith)
    ∙ ap suc (even _ (y * 64 + 32) _ (omega arith)
    ∙ ap suc (even _ (y * 32 + 16) _ (omega arith)
    ∙ ap suc (even _ (y * 16 + 8) _ (omega arith)
    ∙ ap suc (even _ (y * 8 + 4) _ (omega arith)
    ∙ ap suc (even _ (y * 4 + 2) _ (omega arith)
    ∙ ap suc (even _ (y * 2 + 1) _ (omega arith)
    ∙ ap suc (odd _ y _ (omega arith))))))))

eight_more : (n m : ℕ) → n / 8 ≡ m → suc (suc (suc (suc (suc (suc (suc (suc n))))))) / 8 ≡ suc m
eight_more n m e = omega (arith, e)

one_more : (on : Bool) (word k front : ℕ) → count_trailing_zeros k word / 8 ≡ front
    → count_trailing_zeros (suc (suc (suc (suc (suc (suc (suc (suc k)))))))) (word * 256 + cond on 0 128) / 8
    ≡ cond on (1 + front) 0
one_more true word k front rest =
    ap (λ n. n / 8) (past_byte k word) ∙ (eight_more (count_trailing_zeros k word) _ rest ∙ omega arith)
one_more false word k front rest = ap (λ n. n / 8) (at_top k word)

first_stop : (bytes : List ℕ)
    → count_trailing_zeros (eights (length bytes)) (word_of plain_stop bytes) / 8 ≡ prefix_len is_plain bytes
unfolding count_trailing_zeros
first_stop [] = refl
first_stop (b ∷ bytes) = one_more (is_plain b) _ _ _ (first_stop bytes)

-- a lowest set bit gives the number of plain bytes
pub plain_in_word : (bytes : List ℕ) → length bytes ≡ 8 → AreBytes bytes → (word : ℕ) → word ≡ from_le_bytes w64 bytes
    → trailing_zeros w64 (stop_word word) / 8 ≡ prefix_len is_plain bytes
plain_in_word bytes l are word is =
    ap (λ w. count_trailing_zeros 64 w / 8) (stops_is bytes l are word is)
    ∙ subst (λ n. count_trailing_zeros (eights n) (word_of plain_stop bytes) / 8 ≡ prefix_len is_plain bytes) l
    (first_stop bytes)

-- if no bit is set, all 8 bytes are plain
pub plain_past_word : (bytes : List ℕ) → length bytes ≡ 8 → AreBytes bytes → (word : ℕ) → word ≡ from_le_bytes w64 bytes
    → stop_word word ≡ 0 → 8 ≡ prefix_len is_plain bytes
plain_past_word bytes l are word is none =
    ap (λ n. n / 8) (sym (trailing_of_zero 64)) ∙ ap (λ w. count_trailing_zeros 64 w / 8) (sym none)
    ∙ plain_in_word bytes l are word is

pub plain_in_word_ends : (word : ℕ) → (stop_word word ≡ 0 → ⊥) → trailing_zeros w64 (stop_word word) / 8 < 8
plain_in_word_ends word some =
    let le = and_le_r (bit_or (2 ^ 64 - 1 - (turned_word word + 0x7F7F_7F7F_7F7F_7F7F)) word) 0x8080_8080_8080_8080 in
    let at = bit_at-trailing_zeros w64 (stop_word word) (omega (arith, some)) (omega (arith, le)) in
    omega (arith, at.0)

-- the addition does not overflow
pub turned_word_low : (word : ℕ) → turned_word word < 2 ^ 63
turned_word_low word =
    let le = and_le_r (bit_xor word 0x0A0A_0A0A_0A0A_0A0A) 0x7F7F_7F7F_7F7F_7F7F in
    omega (arith, le)

-- ---- a line of ASCII

-- plain bytes at the start of a text are ASCII, and none is a line feed
front_is_plain : (on : Bool) (b n : ℕ) (bytes : List ℕ) → is_plain b ≡ on
    → IsAscii (take n bytes) × (is_one_line (take n bytes) ≡ true)
    → IsAscii (take (cond on (1 + n) 0) (b ∷ bytes)) × (is_one_line (take (cond on (1 + n) 0) (b ∷ bytes)) ≡ true)
front_is_plain true b n bytes is rest =
    let more : 1 + n ≡ suc n = omega arith in
    let one : take (1 + n) (b ∷ bytes) ≡ b ∷ take n bytes = ap (λ m. take m (b ∷ bytes)) more in
    let parts = and_parts (nat_lt b 128) (not (is_line_feed b)) is in
    subst (λ front. IsAscii front × (is_one_line front ≡ true)) (sym one)
    (IsAscii-cons b (take n bytes) (ltb-true b 128 parts.0) rest.0, and_from _ _ parts.1 rest.1)
front_is_plain false b n bytes is rest = (IsAscii-nil, refl)

pub plain_front : (bytes : List ℕ) → IsAscii (take (prefix_len is_plain bytes) bytes)
    × (is_one_line (take (prefix_len is_plain bytes) bytes) ≡ true)
plain_front [] = (IsAscii-nil, refl)
plain_front (b ∷ bytes) = front_is_plain (is_plain b) b (prefix_len is_plain bytes) bytes refl (plain_front bytes)

-- if all bytes are plain, the text is one line of ASCII
pub all_plain : (text : List ℕ) (n : ℕ) → n ≡ prefix_len is_plain text → length text ≤ n
    → (is_one_line (chars text) ≡ true) × (n ≡ length (chars text))
all_plain text n is all =
    let whole : take (prefix_len is_plain text) text ≡ text = take_all _ text (omega (arith, is)) in
    let front = plain_front text in
    let ascii : IsAscii text = subst IsAscii whole front.0 in
    let same = chars-IsAscii text ascii in (
      subst (λ cs. is_one_line cs ≡ true) (sym same) (subst (λ cs. is_one_line cs ≡ true) whole front.1),
      omega (arith, is, all, ap length same, prefix_len-le-length is_plain text),
    )

-- lemmas on a text with only plain bytes before its first line feed
module _ (text line after : List ℕ) (n : ℕ) (utf8 : IsUtf8 text) (is : n ≡ prefix_len is_plain text)
    (inside : n < length text) (feed : get_or text n 0 ≡ 10) (front : line ≡ slice_range text 0 n)
    (back : after ≡ drop (n + 1) text) where
  line_is : line ≡ take (prefix_len is_plain text) text
  line_is = let same : n - 0 ≡ prefix_len is_plain text = omega (arith, is) in front ∙ ap (λ m. take m text) same

  line_is_plain : IsAscii line × (is_one_line line ≡ true)
  line_is_plain = subst (λ xs. IsAscii xs × (is_one_line xs ≡ true)) (sym line_is) (plain_front text)

  pub plain_line : (chars text ≡ chars line ++ (10 ∷ chars after)) × (is_one_line (chars line) ≡ true)
  plain_line =
      let taken : take n text ≡ line = ap (λ m. take m text) is ∙ sym line_is in
      let whole : text ≡ line ++ (10 ∷ after) =
      sym (take-append-drop n text)
      ∙ ap₂ (λ xs ys. xs ++ ys) taken
      (drop_more text n 0 inside ∙ ap₂ (λ b ys. b ∷ ys) feed (sym back)) in (
        ap chars whole
            ∙ (chars-append line (10 ∷ after) (IsUtf8-from_ascii line line_is_plain.0)
            ∙ ap (λ cs. chars line ++ cs) (feed_first after)),
        subst (λ cs. is_one_line cs ≡ true) (sym (chars-IsAscii line line_is_plain.0)) line_is_plain.1,
      )

  pub plain_count : n ≡ length (chars line)
  plain_count =
      omega (
        arith,
        is,
        ap length (chars-IsAscii line line_is_plain.0),
        ap length line_is,
        length-prefix_len is_plain text,
      )
