-- Short texts: their bytes, and zeros in the rest of the array.
use Rattle.std.proofs.Common.{◌≡◌, ◌+◌, ◌-◌, ◌≤◌, ◌++◌, ◌∷◌, ℕ, suc, zero, Bool, true, false, List, ap, ap₂}
use Rattle.std.proofs.Common.{sym, ◌∙◌, arith, codes, length, take, drop, replicate, refl, length-append}
use Rattle.std.proofs.Common.{append_assoc, IsUtf8}
use Rattle.std.proofs.Common.{if◌then◌else◌, ◌<◌, ◌^◌, drop-drop, rules}
use borrow.Rule.Slice.PartMut.{put_mid}
use Rattle.std.specs.Int.{from_bool}
use Rattle.std.specs.Str.{chars, encode_utf8_all}
use Rattle.std.specs.Fmt.{decimal}
use Rattle.std.proofs.lemmas.Fmt.{IsAscii-decimal, decimal_nonempty, length-decimal-le}
use Rattle.std.proofs.lemmas.List.{take_at, drop_at, take-append-drop, length-take-le}
use Rattle.std.proofs.lemmas.Slice.{take-put_mid, drop-put_mid, drop-append-drop}
use Rattle.std.proofs.lemmas.Str.{IsUtf8-append, IsUtf8-from_ascii, encodes-chars}

-- lists are equal if their first n elements and the others are
pub halves : (n : ℕ) (xs ys : List ℕ) → take n xs ≡ take n ys → drop n xs ≡ drop n ys → xs ≡ ys
halves n xs ys front back =
    sym (take-append-drop n xs) ∙ (ap₂ (λ f b. f ++ b) front back ∙ take-append-drop n ys)

-- equal prefixes have the same length
pub same_length : (m n : ℕ) (xs ys : List ℕ) → m ≤ length xs → n ≤ length ys → take m xs ≡ take n ys → m ≡ n
same_length m n xs ys fits goes same =
    sym (length-take-le m xs fits) ∙ (ap length same ∙ length-take-le n ys goes)

-- texts of the same characters have the same bytes
pub same_bytes : (xs ys : List ℕ) → IsUtf8 xs → IsUtf8 ys → chars xs ≡ chars ys → xs ≡ ys
same_bytes xs ys own other same = sym (encodes-chars xs own) ∙ (ap encode_utf8_all same ∙ encodes-chars ys other)

-- whether `bytes` is the array `room` with the text copied to its start
pub record Holds (room bytes : List ℕ) (text : List ℕ) (end : ℕ) : Type 0 where
  pub front : take end bytes ≡ text
  pub rest : drop end bytes ≡ drop end room

pub copy_holds : (room text x : List ℕ) → x ≡ text
    → Holds room (x ++ drop (length text) room) text (length text)
copy_holds room text x is = rw is (record {
  front = take_at text (drop (length text) room) (length text) refl;
  rest = drop-append-drop (length text) room text (length text) (omega arith) refl;
})

-- another text is copied after the first one
pub second_copy : (room bytes front back y : List ℕ) (start : ℕ) → start ≤ length bytes → y ≡ back
    → Holds room bytes front start
    → Holds room (put_mid start (start + length back - start) bytes y) (front ++ back) (start + length back)
second_copy room bytes front back y start within is here = rw is (record {
  front = take-put_mid start (start + length back - start) bytes back (start + length back) refl within
      ∙ ap (λ p. p ++ back) here.front;
  rest = drop-put_mid start (start + length back - start) bytes back (start + length back) (omega arith) within
      (omega arith)
      ∙ (sym (drop-drop (length back) start bytes) ∙ (ap (drop (length back)) here.rest
      ∙ drop-drop (length back) start room));
})

pub copied_both : (room front back x y : List ℕ) → x ≡ front → y ≡ back
    → Holds room (put_mid (length front) (length front + length back - length front) (x ++ drop (length front) room) y)
    (front ++ back) (length front + length back)
copied_both room front back x y is_front is_back = rw is_front
    (second_copy room (front ++ drop (length front) room) front back y (length front)
    (omega (arith, length-append front (drop (length front) room))) is_back (copy_holds room front front refl))

-- the sign of a number
abbrev pub sign : Bool → List ℕ
sign negative = if negative then codes "-" else codes ""

pub sign_length : (negative : Bool) → from_bool negative ≡ length (sign negative)
sign_length true = refl
sign_length false = refl

-- a sign and the digits after it are short
pub number_short : (negative : Bool) (n start count : ℕ) → n < 2 ^ 64 → start ≡ from_bool negative
    → count ≡ length (decimal n) → start + count ≤ 21
number_short true n start count small at is =
    omega (arith, at, is, length-decimal-le 20 n (omega arith) (omega arith) small)
number_short false n start count small at is =
    omega (arith, at, is, length-decimal-le 20 n (omega arith) (omega arith) small)

-- digits are written after the sign; the first byte of the array is `-`
pub digits_after_sign : (negative : Bool) (room bytes digits : List ℕ) (start end : ℕ) → start ≡ length (sign negative)
    → start + length digits ≡ end → 0 < length digits
    → take start bytes ≡ take start (45 ∷ room) → drop start bytes ≡ digits ++ drop end (45 ∷ room)
    → Holds (0 ∷ room) bytes (sign negative ++ digits) end
digits_after_sign negative room bytes digits start end at long some before written = record {
  front = ap (take end) whole ∙ (take_at (sign negative ++ digits) _ end size);
  rest = ap (drop end) whole ∙ (drop_at (sign negative ++ digits) _ end size ∙ past end (omega arith));
}
  where
    size : length (sign negative ++ digits) ≡ end
    size = omega (arith, length-append (sign negative) digits)

    in_front : (negative : Bool) → take (length (sign negative)) (45 ∷ room) ≡ sign negative
    in_front true = refl
    in_front false = refl

    whole : bytes ≡ (sign negative ++ digits) ++ drop end (45 ∷ room)
    whole = sym (take-append-drop start bytes)
        ∙ (ap₂ (λ f b. f ++ b) (before ∙ (ap (λ n. take n (45 ∷ room)) at ∙ in_front negative)) written
        ∙ sym (append_assoc (sign negative) digits _))

    past : (n : ℕ) → 0 < n → drop n (45 ∷ room) ≡ drop n (0 ∷ room)
    past zero h = absurd (omega arith)
    past (suc n) h = refl

-- a sign, digits and a suffix
pub number_holds : (negative : Bool) (n : ℕ) (suffix bytes y : List ℕ) (start count first : ℕ) → n < 2 ^ 64
    → start ≡ from_bool negative → count ≡ length (decimal n) → first + length (decimal n) ≡ start + count
    → take first bytes ≡ take first (45 ∷ replicate 21 0)
    → drop first bytes ≡ decimal n ++ drop (start + count) (45 ∷ replicate 21 0)
    → length bytes ≡ 22 → y ≡ suffix
    → Holds (replicate 22 0) (put_mid (start + count) (start + count + length suffix - (start + count)) bytes y)
    ((sign negative ++ decimal n) ++ suffix) (start + count + length suffix)
number_holds negative n suffix bytes y start count first small at is begins before written size rest_after =
    let fits = number_short negative n start count small at is in
    let place : first ≡ length (sign negative) = omega (arith, begins, is, at, sign_length negative) in
    second_copy (replicate 22 0) bytes (sign negative ++ decimal n) suffix y (start + count)
    (omega (arith, size, fits)) rest_after
    (digits_after_sign negative (replicate 21 0) bytes (decimal n) first (start + count) place begins
    (decimal_nonempty n small) before written)

pub number_utf8 : (negative : Bool) (n : ℕ) (suffix : List ℕ) → n < 2 ^ 64 → IsUtf8 suffix
    → IsUtf8 ((sign negative ++ decimal n) ++ suffix)
number_utf8 negative n suffix small utf8 =
    IsUtf8-append _ suffix
    (IsUtf8-append (sign negative) (decimal n) (of_sign negative) (IsUtf8-from_ascii _ (IsAscii-decimal n small))) utf8
  where
    of_sign : (negative : Bool) → IsUtf8 (sign negative)
    of_sign true = IsUtf8-from_ascii (codes "-") (search rules)
    of_sign false = IsUtf8-from_ascii (codes "") (search rules)
