-- A text can be cut at each of its offsets. A number of characters gives the number of bytes there.
use Rattle.std.proofs.Common.{◌≡◌, ℕ, ◌+◌, ◌-◌, ◌<◌, ◌≤◌, true, List, [], ◌∷◌, ◌++◌, length, take, drop, Option, Some}
use Rattle.std.proofs.Common.{None, refl, sym, ap, subst, ◌∙◌, arith, append_assoc, length-append}
use Rattle.std.specs.Str.{chars, IsUtf8, IsCharBoundary, encode_utf8_all, all_scalars}
use Rattle.std.specs.Prelude.{encode_utf8}
use Rattle.std.specs.Str.Iter.{chars_steps, chars_steps_back}
use Rattle.std.specs.declared.str.Chars.{Chars}
use Rattle.std.proofs.Math.Seq.{take-add}
use Rattle.std.proofs.lemmas.Bool.{and_parts, and_from}
use Rattle.std.proofs.lemmas.List.{take-append-drop, take_at, drop_at, nil_from_length}
use Rattle.std.proofs.lemmas.Str.{chars-nil, chars-encodes, chars_past_char, encodes-append, encodes-chars}
use Rattle.std.proofs.lemmas.Str.{encodes_same, scalars-chars, chars-append, IsCharBoundary-at_seam}
use Rattle.std.proofs.lemmas.Str.{IsCharBoundary-from_take, IsUtf8-drop, IsUtf8-past_char}
use Rattle.pm_span.specs.CharOffset.{byte_offset, between}

split_scalars : (p r : List ℕ) → all_scalars (p ++ r) ≡ true → (all_scalars p ≡ true) × (all_scalars r ≡ true)
split_scalars [] r h = (refl, h)
split_scalars (c ∷ p) r h =
    let parts = and_parts _ _ h in
    let more = split_scalars p r parts.1 in
    (and_from _ _ parts.0 more.0, more.1)

-- the characters on both sides of an offset
scalars_at :
    (bytes : List ℕ) (k : ℕ) → IsUtf8 bytes
    → (all_scalars (take k (chars bytes)) ≡ true) × (all_scalars (drop k (chars bytes)) ≡ true)
scalars_at bytes k utf8 =
    split_scalars (take k (chars bytes)) (drop k (chars bytes))
    (ap all_scalars (take-append-drop k (chars bytes)) ∙ scalars-chars bytes utf8)

-- the bytes on both sides of an offset
pub bytes_at :
    (bytes : List ℕ) (k : ℕ) → IsUtf8 bytes
    → bytes ≡ encode_utf8_all (take k (chars bytes)) ++ encode_utf8_all (drop k (chars bytes))
bytes_at bytes k utf8 =
    sym (encodes-chars bytes utf8) ∙ (ap encode_utf8_all (sym (take-append-drop k (chars bytes)))
    ∙ encodes-append (take k (chars bytes)) (drop k (chars bytes)))

pub boundary_at : (bytes : List ℕ) (k : ℕ) → IsUtf8 bytes → IsCharBoundary bytes (byte_offset (chars bytes) k)
boundary_at bytes k utf8 =
    IsCharBoundary-at_seam bytes (encode_utf8_all (take k (chars bytes))) (encode_utf8_all (drop k (chars bytes)))
    (bytes_at bytes k utf8) (drop k (chars bytes), ((scalars_at bytes k utf8).1, refl))

pub front_at :
    (bytes : List ℕ) (k : ℕ) → IsUtf8 bytes
    → chars (take (byte_offset (chars bytes) k) bytes) ≡ take k (chars bytes)
front_at bytes k utf8 =
    ap chars (ap (take (byte_offset (chars bytes) k)) (bytes_at bytes k utf8)
    ∙ take_at (encode_utf8_all (take k (chars bytes))) (encode_utf8_all (drop k (chars bytes))) _ refl)
    ∙ chars-encodes (take k (chars bytes)) (scalars_at bytes k utf8).0

pub rest_at :
    (bytes : List ℕ) (k : ℕ) → IsUtf8 bytes
    → chars (drop (byte_offset (chars bytes) k) bytes) ≡ drop k (chars bytes)
rest_at bytes k utf8 =
    ap chars (ap (drop (byte_offset (chars bytes) k)) (bytes_at bytes k utf8)
    ∙ drop_at (encode_utf8_all (take k (chars bytes))) (encode_utf8_all (drop k (chars bytes))) _ refl)
    ∙ chars-encodes (drop k (chars bytes)) (scalars_at bytes k utf8).1

-- the bytes before an offset are those before an earlier offset, and those between the two
pub byte_offset-add :
    (text : List ℕ) (j m : ℕ) → byte_offset text (j + m) ≡ byte_offset text j + byte_offset (drop j text) m
byte_offset-add text j m =
    ap (λ xs. length (encode_utf8_all xs)) (take-add j m text)
    ∙ (ap length (encodes-append (take j text) (take m (drop j text)))
    ∙ length-append (encode_utf8_all (take j text)) (encode_utf8_all (take m (drop j text))))

pub byte_offset-rising : (text : List ℕ) (j k : ℕ) → j ≤ k → byte_offset text j ≤ byte_offset text k
byte_offset-rising text j k le =
    let e : byte_offset text k ≡ byte_offset text (j + (k - j)) = ap (byte_offset text) (omega arith) in
    omega (arith, byte_offset-add text j (k - j))

-- the text between two offsets, as a part of the bytes
pub between_at :
    (bytes : List ℕ) (j k : ℕ) → IsUtf8 bytes → j ≤ k
    → chars (take (byte_offset (chars bytes) k - byte_offset (chars bytes) j)
    (drop (byte_offset (chars bytes) j) bytes)) ≡ between (chars bytes) j k
between_at bytes j k utf8 le =
    let from = byte_offset (chars bytes) j in
    let rest : chars (drop from bytes) ≡ drop j (chars bytes) = rest_at bytes j utf8 in
    let e : byte_offset (chars bytes) k ≡ byte_offset (chars bytes) (j + (k - j)) =
    ap (byte_offset (chars bytes)) (omega arith) in
    let size : byte_offset (chars bytes) k - from ≡ byte_offset (chars (drop from bytes)) (k - j) =
    omega (arith, byte_offset-add (chars bytes) j (k - j), ap (λ t. byte_offset t (k - j)) rest) in
    ap (λ n. chars (take n (drop from bytes))) size
    ∙ (front_at (drop from bytes) (k - j) (IsUtf8-drop bytes from utf8 (boundary_at bytes j utf8))
    ∙ ap (take (k - j)) rest)

-- the text from an offset on, as bytes
pub rest_bytes :
    (bytes rest : List ℕ) (k : ℕ) → IsUtf8 bytes → IsUtf8 rest → chars rest ≡ drop k (chars bytes)
    → byte_offset (chars bytes) k + length rest ≡ length bytes
rest_bytes bytes rest k utf8 left is =
    let cut = ap length (bytes_at bytes k utf8)
    ∙ length-append (encode_utf8_all (take k (chars bytes))) (encode_utf8_all (drop k (chars bytes))) in
    let same = ap length (sym (encodes-chars rest left) ∙ ap encode_utf8_all is) in
    omega arith

-- the offset is one character further
pub past_one :
    (s t : Chars) (r : Option ℕ) → IsUtf8 s.rest.now → chars_steps s r t
    → IsUtf8 t.rest.now × (chars t.rest.now ≡ drop 1 (chars s.rest.now))
past_one s t None utf8 steps =
    let none : s.rest.now ≡ [] = empty s.rest.now steps.0.0 in
    let same : t.rest.now ≡ s.rest.now = ap (λ it. it.rest.now) steps.0.1 in
    let chars_s : chars s.rest.now ≡ [] = ap chars none ∙ chars-nil in
    (subst IsUtf8 (sym same) utf8, ap chars same ∙ (chars_s ∙ ap (drop 1) (sym chars_s)))
  where
    empty : (xs : List ℕ) → length xs ≡ 0 → xs ≡ []
    empty [] h = refl
    empty (x ∷ xs) h = absurd (omega arith)
past_one s t (Some c) utf8 steps = (
  IsUtf8-past_char s.rest.now t.rest.now c utf8 steps.0,
  ap (drop 1) (sym (chars_past_char s.rest.now t.rest.now c utf8 steps.0)),
)

-- a text without its last `count` characters
pub record IsCutBack (text front : List ℕ) (count : ℕ) : Type 0 where
  pub cut : List ℕ
  pub whole : text ≡ front ++ encode_utf8_all cut
  pub size : length cut ≡ count

chars_encodes_all : (cs : List ℕ) → IsUtf8 (encode_utf8_all cs) → chars (encode_utf8_all cs) ≡ cs
chars_encodes_all cs utf8 = encodes_same _ _ (encodes-chars (encode_utf8_all cs) utf8)

-- one more character is cut off at the end
pub back_one :
    {text : List ℕ} {n : ℕ} (s t : Chars) (r : Option ℕ) → IsUtf8 text → IsCutBack text s.rest.now n
    → n < length (chars text)
    → chars_steps_back s r t → IsCutBack text t.rest.now (n + 1)
back_one {text} {n} s t None utf8 cut less steps =
    let all : text ≡ encode_utf8_all cut.cut = cut.whole
    ∙ ap (λ xs. xs ++ encode_utf8_all cut.cut) (nil_from_length s.rest.now steps.0) in
    absurd (omega (arith, cut.size, ap length (ap chars all ∙ chars_encodes_all cut.cut (subst IsUtf8 all utf8))))
back_one {text} {n} s t (Some c) utf8 cut less steps = record {
  cut = c ∷ cut.cut;
  whole = cut.whole ∙ (ap (λ xs. xs ++ encode_utf8_all cut.cut) steps
      ∙ append_assoc t.rest.now (encode_utf8 c) (encode_utf8_all cut.cut));
  size = omega (arith, cut.size);
}

-- the part that is left is a prefix of the text
pub front_of :
    {text front : List ℕ} {n : ℕ} → IsUtf8 text → IsUtf8 front → IsCutBack text front n
    → chars front ≡ take (length (chars text) - n) (chars text)
front_of {text} {front} {n} utf8 left cut =
    let back = encode_utf8_all cut.cut in
    let whole : text ≡ front ++ back = cut.whole in
    let at : IsCharBoundary text (length front) =
    IsCharBoundary-from_take text (length front) utf8 (omega (arith, ap length whole, length-append front back))
    (subst IsUtf8 (sym (ap (take (length front)) whole ∙ take_at front back _ refl)) left) in
    let rest : IsUtf8 back = subst IsUtf8 (ap (drop (length front)) whole ∙ drop_at front back _ refl)
    (IsUtf8-drop text (length front) utf8 at) in
    let cs : chars text ≡ chars front ++ cut.cut =
    ap chars whole ∙ (chars-append front back left ∙ ap (λ xs. chars front ++ xs) (chars_encodes_all cut.cut rest)) in
    let size : length (chars front) ≡ length (chars text) - n =
    omega (arith, ap length cs, length-append (chars front) cut.cut, cut.size) in
    sym (ap (λ m. take m (chars text)) (sym size)
    ∙ (ap (take (length (chars front))) cs ∙ take_at (chars front) cut.cut _ refl))
