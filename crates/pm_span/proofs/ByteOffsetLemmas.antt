-- Lemmas on known offsets of a text, and on the text before and after them.
use Rattle.std.proofs.Common.{◌≡◌, ℕ, ◌+◌, ◌*◌, ◌-◌, ◌<◌, ◌≤◌, List, [], ◌∷◌, ◌++◌, length, take, drop, get_or}
use Rattle.std.proofs.Common.{refl, sym, ap, subst, ◌∙◌, arith, length-append, length-drop, inl, inr}
use Rattle.std.specs.Str.{chars, IsUtf8, IsCharBoundary, encode_utf8_all}
use Rattle.std.proofs.lemmas.Bool.{cases_lt}
use Rattle.std.proofs.lemmas.List.{nil_from_length, length-take-le, take-append-drop, take-take, drop-drop, drop_at}
use Rattle.std.proofs.lemmas.List.{get_or_append_left, get_or_push, length_push}
use Rattle.std.proofs.lemmas.Str.{chars-append, chars-nil, encodes-chars}
use Rattle.std.proofs.lemmas.Str.{IsUtf8-take, IsUtf8-nil, length-le-encodes}
use Rattle.pm_span.proofs.AsciiLemmas.{length_chars_le}
use Rattle.pm_span.specs.ByteIndex.{IsByteOffset}
use Rattle.pm_span.specs.CharOffset.{byte_offset}
use Rattle.pm_span.proofs.SeamLemmas.{boundary_at, byte_offset-add, byte_offset-rising, front_at, rest_at, rest_bytes}

-- n bytes have at most n characters, and the remaining characters follow them
pub record IsPassed (bytes : List ℕ) (n : ℕ) : Type 0 where
  pub few : length (chars (take n bytes)) ≤ n
  pub size : length (chars (take n bytes)) + length (chars (drop n bytes)) ≡ length (chars bytes)
  pub rest : drop (n - length (chars (take n bytes))) (chars (drop n bytes)) ≡ drop n (chars bytes)

pub passes_bytes : (bytes : List ℕ) (n : ℕ) → IsUtf8 bytes → IsCharBoundary bytes n → IsPassed bytes n
passes_bytes bytes n utf8 at =
    let front = chars (take n bytes) in
    let back = chars (drop n bytes) in
    let cut : IsUtf8 (take n bytes) = IsUtf8-take bytes n utf8 at in
    let few : length front ≤ n =
    omega (arith, length_chars_le (take n bytes) cut, length-take-le n bytes at.0) in
    let whole : chars bytes ≡ front ++ back =
    ap chars (sym (take-append-drop n bytes)) ∙ chars-append (take n bytes) (drop n bytes) cut in
    let past : drop (length front) (chars bytes) ≡ back =
    ap (drop (length front)) whole ∙ drop_at front back (length front) refl in
    let sum : length front + (n - length front) ≡ n = omega arith in
    record {
      few = few;
      size = omega (arith, ap length whole, length-append front back);
      rest = ap (drop (n - length front)) (sym past)
          ∙ (drop-drop (n - length front) (length front) (chars bytes) ∙ ap (λ m. drop m (chars bytes)) sum);
    }

-- one more block ends
pub block_more :
    {text : List ℕ} (ends : List ℕ) (bytes : ℕ) → ((block : ℕ) → block < length ends
    → IsByteOffset text (64 * (block + 1)) (get_or ends block 0)) → IsByteOffset text (64 * (length ends + 1)) bytes
    → (block : ℕ) → block < length (ends ++ bytes ∷ [])
    → IsByteOffset text (64 * (block + 1)) (get_or (ends ++ bytes ∷ []) block 0)
block_more {text} ends bytes each last block less = elim (cases_lt block (length ends)) [
  | inl before ↦
      subst (IsByteOffset text (64 * (block + 1))) (sym (get_or_append_left ends (bytes ∷ []) 0 block before))
      (each block before)
  | inr after ↦
      let here : length ends ≡ block = omega (arith, length_push ends bytes) in
      subst (IsByteOffset text (64 * (block + 1))) (sym (get_or_push ends bytes 0 block here))
      (subst (λ n. IsByteOffset text (64 * (n + 1)) bytes) here last)
]

-- the end of a text
pub text_end : {bytes text : List ℕ} (k : ℕ) → IsUtf8 bytes → chars bytes ≡ text → k ≡ length text
    → IsByteOffset text k (length bytes)
text_end {bytes} k utf8 same is =
    let none : drop k (chars bytes) ≡ [] =
    nil_from_length _ (omega (arith, length-drop k (chars bytes), ap length same)) in
    let size = rest_bytes bytes [] k utf8 IsUtf8-nil (chars-nil ∙ sym none) in
    subst (λ t. IsByteOffset t k (length bytes)) same
    (record { within = omega (arith, ap length same); value = omega (arith, size) })

-- a text can be cut at a known offset
pub known_boundary : {bytes text : List ℕ} {k n : ℕ} → IsUtf8 bytes → chars bytes ≡ text → IsByteOffset text k n
    → IsCharBoundary bytes n
known_boundary {bytes} {k = k} utf8 same known =
    subst (IsCharBoundary bytes) (ap (λ t. byte_offset t k) same ∙ sym known.value) (boundary_at bytes k utf8)

-- the text before a known offset
pub known_front :
    {bytes text front : List ℕ} {k n : ℕ} → IsUtf8 bytes → chars bytes ≡ text → IsByteOffset text k n
    → front ≡ take n bytes
    → chars front ≡ take k text
known_front {bytes} {k = k} utf8 same known cut =
    ap chars (cut ∙ ap (λ m. take m bytes) (known.value ∙ ap (λ t. byte_offset t k) (sym same)))
    ∙ (front_at bytes k utf8 ∙ ap (take k) same)

-- the text after a known offset
pub known_rest :
    {bytes text rest : List ℕ} {k n : ℕ} → IsUtf8 bytes → chars bytes ≡ text → IsByteOffset text k n
    → rest ≡ drop n bytes
    → chars rest ≡ drop k text
known_rest {bytes} {k = k} utf8 same known cut =
    ap chars (cut ∙ ap (λ m. drop m bytes) (known.value ∙ ap (λ t. byte_offset t k) (sym same)))
    ∙ (rest_at bytes k utf8 ∙ ap (drop k) same)

-- the bytes before an offset, counted back from a known one
pub back_from :
    (text front back : List ℕ) (k char_offset n : ℕ) → IsUtf8 back → chars front ≡ take k text → k ≤ length text
    → char_offset + n ≡ k
    → chars back ≡ take (length (chars front) - n) (chars front) → length back ≡ byte_offset text char_offset
back_from text front back k char_offset n utf8 is within sum cut =
    let size : length (chars front) - n ≡ char_offset = omega (arith, ap length is, length-take-le k text within) in
    let same : chars back ≡ take char_offset text =
    cut ∙ (ap (λ m. take m (chars front)) size ∙
    (ap (take char_offset) is ∙ take-take char_offset k text (omega arith))) in
    ap length (sym (encodes-chars back utf8) ∙ ap encode_utf8_all same)

-- the bytes before an offset, counted on from a known one
pub on_from :
    (bytes text rest left : List ℕ) (k char_offset n : ℕ) → IsUtf8 bytes → IsUtf8 left → chars bytes ≡ text
    → chars rest ≡ drop k text
    → k + n ≡ char_offset → chars left ≡ drop n (chars rest) → byte_offset text char_offset + length left ≡ length bytes
on_from bytes text rest left k char_offset n utf8 more same is sum cut =
    let here : chars left ≡ drop char_offset (chars bytes) =
    cut ∙ (ap (drop n) is ∙ (drop-drop n k text ∙ (ap (λ m. drop m text) sum ∙ ap (drop char_offset) (sym same)))) in
    ap (λ t. byte_offset t char_offset + length left) (sym same) ∙ rest_bytes bytes left char_offset utf8 more here

-- each character takes at least one byte
pub byte_offset-gap : (text : List ℕ) (j k : ℕ) → j ≤ k → k ≤ length text
    → byte_offset text j + (k - j) ≤ byte_offset text k
byte_offset-gap text j k le within =
    let e : byte_offset text k ≡ byte_offset text (j + (k - j)) = ap (byte_offset text) (omega arith) in
    let rest = length-drop j text in
    omega (
      arith,
      e,
      byte_offset-add text j (k - j),
      length-le-encodes (take (k - j) (drop j text)),
      length-take-le (k - j) (drop j text) (omega arith),
    )

-- if two known offsets have as many bytes as characters between them, so has each offset between them
pub narrow_between :
    {text : List ℕ} {j k m a b : ℕ} → IsByteOffset text j a → IsByteOffset text m b → j ≤ k → k ≤ m → b - a ≡ m - j
    → a + (k - j) ≡ byte_offset text k
narrow_between {text} {j} {k} {m} before after le below same =
    omega (
      arith,
      before.value,
      after.value,
      after.within,
      byte_offset-gap text j k le (omega (arith, after.within)),
      byte_offset-gap text k m below after.within,
    )

-- of two known offsets, the one with more characters has more bytes
pub known_order : {text : List ℕ} {j m a b : ℕ} → IsByteOffset text j a → IsByteOffset text m b → j ≤ m → a ≤ b
known_order {text} {j} {m} before after le = omega (arith, before.value, after.value, byte_offset-rising text j m le)
