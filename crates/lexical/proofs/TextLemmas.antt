-- Lemmas on the characters of a text.
use Rattle.std.proofs.Common.{◌≡◌, ℕ, ◌+◌, ◌<◌, ◌≤◌, ◌-◌, inl, inr, Bool, true, false, ◌&&◌, eqb, List, [], ◌∷◌, ◌++◌}
use Rattle.std.proofs.Common.{length, take, length-append, drop, refl, sym, ap, ap₂, ◌∙◌, subst, arith, ltb-true}
use Rattle.std.proofs.Common.{ne_eqb, eqb-true, eq-eqb, append_assoc, append-nil, ◌==◌, zero, suc}
use Rattle.std.specs.List.{starts_with, list_all, AllByRecursion}
use Rattle.std.specs.Str.{chars, IsUtf8, IsAscii, encode_utf8_all, IsCharBoundary}
use Rattle.std.specs.Bool.{one_answer}
use Rattle.std.specs.Cmp.Lexicographic.{pointwise}
use Rattle.std.specs.Prelude.{nat_eq, nat_lt, encode_utf8}
use Rattle.std.specs.Str.{all_scalars as scalars}
use Rattle.std.proofs.lemmas.Bool.{both_ways, cases_lt, and_parts, and_from, and_cases, and_left, and_right, or_cases}
use Rattle.std.proofs.lemmas.Bool.{or_parts, or_from, or_left, or_right, false_from_ne_true}
use Rattle.std.proofs.lemmas.List.{take_at, drop_at}
use Rattle.std.proofs.lemmas.Str.{chars-encodes, encodes-append, encodes_same, encodes-IsAscii, IsCharBoundary-at_seam}
use Rattle.std.proofs.lemmas.Str.{scalars-chars, encode_ascii, encodes-chars, char_from_byte, length-encode}
use Rattle.std.proofs.lemmas.Str.{len_utf8_bounds, length-le-encodes}
use Rattle.std.proofs.lemmas.Str.Ascii.{IsAscii-nil, IsAscii-cons}
use Rattle.std.proofs.lemmas.Slice.Eq.{bytes_eq-Decides}
use Rattle.lexical.specs.Text.{begins_with, begins_any, first_passes, ends_with}
use Rattle.lexical.specs.Ascii.{all_ascii}

-- std's `starts_with` on numbers is `begins_with`
pub starts_with_is : (bytes front : List ℕ) → starts_with eqb bytes front ≡ begins_with front bytes
starts_with_is bytes [] = refl
starts_with_is [] (c ∷ front) = refl
starts_with_is (d ∷ bytes) (c ∷ front) = ap (λ b. (c == d) && b) (starts_with_is bytes front)

-- a text whose characters pass one test passes each weaker test
pub all_pass : (test other : ℕ → Bool) → ((c : ℕ) → test c ≡ true → other c ≡ true) → (text : List ℕ)
    → list_all test text ≡ true → list_all other text ≡ true
all_pass test other part [] h = refl
all_pass test other part (c ∷ text) h = let parts = and_parts _ _ h in
    and_from _ _ (part c parts.0) (all_pass test other part text parts.1)

-- a character past ASCII begins with a byte past ASCII
pub first_byte : (d : ℕ) → 128 ≤ d → (b : ℕ) × (more : List ℕ) × (encode_utf8 d ≡ b ∷ more) × (128 ≤ b)
first_byte d h = by_bytes (encode_utf8 d) refl
  where
    by_bytes : (bs : List ℕ) → encode_utf8 d ≡ bs → (b : ℕ) × (more : List ℕ) × (encode_utf8 d ≡ b ∷ more) × (128 ≤ b)
    by_bytes [] e = absurd (omega (arith, ap length e, length-encode d, len_utf8_bounds d))
    by_bytes (b ∷ more) e = (
      b,
      more,
      e,
      elim (cases_lt b 128) [
        | inl low ↦
            let whole = sym (append-nil (encode_utf8 d) ∙ e) in
            let same : d ≡ b = char_from_byte (b ∷ more) [] d whole low (omega arith) in
            absurd (omega arith)
        | inr high ↦ high
      ],
    )

apart : (c d : ℕ) (x y : Bool) → c < 128 → 128 ≤ d → ((c == d) && x) ≡ false
apart c d x y h k = ap (λ b. b && x) (ne_eqb c d (λ e. omega arith))

-- an ASCII text is a prefix of the bytes exactly if it is a prefix of the characters
begins_encodes : (front cs : List ℕ) → all_ascii front ≡ true
    → begins_with front (encode_utf8_all cs) ≡ begins_with front cs
begins_encodes [] cs h = refl
begins_encodes (c ∷ front) [] h = refl
begins_encodes (c ∷ front) (d ∷ cs) h =
    let parts = and_parts (nat_lt c 128) (all_ascii front) h in
    let low : c < 128 = ltb-true c 128 parts.0 in
    elim (cases_lt d 128) [
      | inl ascii ↦ rw (encode_ascii d ascii) (ap (λ b. (c == d) && b) (begins_encodes front cs parts.1))
      | inr past ↦
          let cell = first_byte d past in
          rw cell.2 (apart c cell.0 (begins_with front (cell.1 ++ encode_utf8_all cs)) false low cell.3
          ∙ sym (apart c d (begins_with front cs) false low past))
    ]

pub begins_chars : (front bytes : List ℕ) → IsUtf8 bytes → all_ascii front ≡ true
    → begins_with front bytes ≡ begins_with front (chars bytes)
begins_chars front bytes utf8 h = ap (begins_with front) (sym (encodes-chars bytes utf8))
    ∙ begins_encodes front (chars bytes) h

pub is_ascii : (front : List ℕ) → all_ascii front ≡ true → IsAscii front
is_ascii [] h = IsAscii-nil
is_ascii (c ∷ front) h = let parts = and_parts _ _ h in
    IsAscii-cons c front (ltb-true c 128 parts.0) (is_ascii front parts.1)

-- an ASCII text is its own encoding
pub encode_all_ascii : (text : List ℕ) → all_ascii text ≡ true → encode_utf8_all text ≡ text
encode_all_ascii text h = encodes-IsAscii text (is_ascii text h)

pub ascii_bytes : (front : List ℕ) → all_ascii front ≡ true → length (encode_utf8_all front) ≡ length front
ascii_bytes front h = ap length (encode_all_ascii front h)

-- the bytes of a text equal an ASCII text exactly if its characters do
pub ascii_same : (text ascii : List ℕ) → IsUtf8 text → all_ascii ascii ≡ true
    → pointwise nat_eq text ascii ≡ pointwise nat_eq (chars text) ascii
ascii_same text ascii utf8 h =
    let bytes = bytes_eq-Decides text ascii in
    let points = bytes_eq-Decides (chars text) ascii in
    let own = encode_all_ascii ascii h in
    one_answer (pointwise nat_eq text ascii) (pointwise nat_eq (chars text) ascii) bytes (
      λ e. sym (encodes-chars text utf8) ∙ (ap encode_utf8_all (points.0 e) ∙ own),
      λ e. points.1 (encodes_same (chars text) ascii (encodes-chars text utf8 ∙ (e ∙ sym own))),
    )

split_scalars : (p r : List ℕ) → scalars (p ++ r) ≡ true → (scalars p ≡ true) × (scalars r ≡ true)
split_scalars [] r h = (refl, h)
split_scalars (c ∷ p) r h =
    let parts = and_parts _ _ h in
    let more = split_scalars p r parts.1 in
    (and_from _ _ parts.0 more.0, more.1)

-- a text may be cut between two characters
pub seam_utf8 : (text p r : List ℕ) → IsUtf8 text → chars text ≡ p ++ r → IsUtf8 (encode_utf8_all r)
seam_utf8 text p r t e = (r, ((split_scalars p r (ap scalars (sym e) ∙ scalars-chars text t)).1, refl))

pub seam_rest : (text p r : List ℕ) → IsUtf8 text → chars text ≡ p ++ r → chars (encode_utf8_all r) ≡ r
seam_rest text p r t e = chars-encodes r (split_scalars p r (ap scalars (sym e) ∙ scalars-chars text t)).1

pub seam_front : (text p r : List ℕ) → IsUtf8 text → chars text ≡ p ++ r → chars (encode_utf8_all p) ≡ p
seam_front text p r t e = chars-encodes p (split_scalars p r (ap scalars (sym e) ∙ scalars-chars text t)).0

pub seam_bytes : (text p r : List ℕ) → IsUtf8 text → chars text ≡ p ++ r → text ≡ encode_utf8_all p ++ encode_utf8_all r
seam_bytes text p r t e = sym (encodes-chars text t) ∙ (ap encode_utf8_all e ∙ encodes-append p r)

pub seam_boundary : (text p r : List ℕ) (n : ℕ) → IsUtf8 text → chars text ≡ p ++ r → n ≡ length (encode_utf8_all p)
    → IsCharBoundary text n
seam_boundary text p r n t e is =
    subst (IsCharBoundary text) (sym is) (IsCharBoundary-at_seam text (encode_utf8_all p) (encode_utf8_all r)
    (seam_bytes text p r t e) (seam_utf8 text p r t e))

pub seam_take : (text p r : List ℕ) (n : ℕ) → IsUtf8 text → chars text ≡ p ++ r → n ≡ length (encode_utf8_all p)
    → chars (take n text) ≡ p
seam_take text p r n t e is =
    ap chars (ap (take n) (seam_bytes text p r t e) ∙ take_at (encode_utf8_all p) (encode_utf8_all r) n (sym is))
    ∙ seam_front text p r t e

pub seam_drop : (text p r : List ℕ) (n : ℕ) → IsUtf8 text → chars text ≡ p ++ r → n ≡ length (encode_utf8_all p)
    → chars (drop n text) ≡ r
seam_drop text p r n t e is =
    ap chars (ap (drop n) (seam_bytes text p r t e) ∙ drop_at (encode_utf8_all p) (encode_utf8_all r) n (sym is))
    ∙ seam_rest text p r t e

-- the bytes of a prefix and of the rest are together the bytes of the text
pub front_len : (text rest front : List ℕ) → IsUtf8 text → IsUtf8 rest → chars text ≡ front ++ chars rest
    → length (encode_utf8_all front) + length rest ≡ length text
front_len text rest front t r e =
    let bytes = encode_utf8_all front in
    let whole = seam_bytes text front (chars rest) t e ∙ ap (λ ys. bytes ++ ys) (encodes-chars rest r) in
    sym (ap length whole ∙ length-append bytes rest)

pub front_boundary : (text rest front : List ℕ) → IsUtf8 text → IsUtf8 rest → chars text ≡ front ++ chars rest
    → IsCharBoundary text (length text - length rest)
front_boundary text rest front t r e =
    seam_boundary text front (chars rest) (length text - length rest) t e
    (omega (arith, front_len text rest front t r e))

pub front_chars : (text rest front : List ℕ) → IsUtf8 text → IsUtf8 rest → chars text ≡ front ++ chars rest
    → chars (take (length text - length rest) text) ≡ front
front_chars text rest front t r e =
    seam_take text front (chars rest) (length text - length rest) t e (omega (arith, front_len text rest front t r e))

-- a text with no characters has no bytes
pub bytes_from_no_chars : (text : List ℕ) → IsUtf8 text → chars text ≡ [] → length text ≡ 0
bytes_from_no_chars text t e = ap length (sym (encodes-chars text t) ∙ ap encode_utf8_all e)

-- a text has no more characters than bytes
pub chars_within : (text : List ℕ) → IsUtf8 text → length (chars text) ≤ length text
chars_within text t = subst (λ n. length (chars text) ≤ n) (ap length (encodes-chars text t))
    (length-le-encodes (chars text))

-- ---- how a text begins and ends

-- a text with this prefix is the prefix and a rest
pub begins_splits : (front text : List ℕ) → begins_with front text ≡ true → (rest : List ℕ) × (text ≡ front ++ rest)
begins_splits [] text h = (text, refl)
begins_splits (c ∷ front) [] h = absurd (both_ways _ refl h)
begins_splits (c ∷ front) (d ∷ text) h =
    let parts = and_parts (c == d) (begins_with front text) h in
    let more = begins_splits front text parts.1 in
    (more.0, ap₂ (λ x xs. x ∷ xs) (sym (eqb-true c d parts.0)) more.1)

-- a text that is a prefix and a rest begins with the prefix
pub begins_front : (front rest : List ℕ) → begins_with front (front ++ rest) ≡ true
begins_front [] rest = refl
begins_front (c ∷ front) rest = and_from _ _ (eq-eqb c c refl) (begins_front front rest)

pub begins_self : (text : List ℕ) → begins_with text text ≡ true
begins_self text = ap (begins_with text) (sym (append-nil text)) ∙ begins_front text []

-- a text keeps its first character when more text follows
pub first_more : (passes : ℕ → Bool) (text rest : List ℕ) → first_passes passes text ≡ true
    → first_passes passes (text ++ rest) ≡ true
first_more passes [] rest h = absurd (both_ways _ refl h)
first_more passes (c ∷ text) rest h = h

pub first_cons : (passes : ℕ → Bool) (text : List ℕ) → first_passes passes text ≡ true
    → (c : ℕ) × (rest : List ℕ) × (text ≡ c ∷ rest) × (passes c ≡ true)
first_cons passes [] h = absurd (both_ways _ refl h)
first_cons passes (c ∷ text) h = (c, text, refl, h)

-- if a text begins with one of some prefixes, a statement about each of them with any rest holds for the text
pub begins_each : (P : List ℕ → Type 0) (fronts : List (List ℕ)) (text : List ℕ) → begins_any fronts text ≡ true
    → AllByRecursion (λ front. (rest : List ℕ) → P (front ++ rest)) fronts → P text
begins_each P [] text h each = absurd (both_ways _ refl h)
begins_each P (front ∷ fronts) text h each = elim (or_cases _ _ h) [
  | inl here ↦ let split = begins_splits front text here in subst P (sym split.1) (each.0 split.0)
  | inr there ↦ begins_each P fronts text there each.1
]

-- a text keeps its prefix when more text follows
pub begins_more : (front text rest : List ℕ) → begins_with front text ≡ true → begins_with front (text ++ rest) ≡ true
begins_more front text rest h =
    let split = begins_splits front text h in
    ap (begins_with front) (ap (λ x. x ++ rest) split.1 ∙ append_assoc front split.0 rest)
    ∙ begins_front front (split.0 ++ rest)

pub any_begins_more : (fronts : List (List ℕ)) (text rest : List ℕ) → begins_any fronts text ≡ true
    → begins_any fronts (text ++ rest) ≡ true
any_begins_more [] text rest h = h
any_begins_more (front ∷ fronts) text rest h = elim (or_cases _ _ h) [
  | inl here ↦ or_left _ _ (begins_more front text rest here)
  | inr there ↦ or_right (begins_with front (text ++ rest)) _ (any_begins_more fronts text rest there)
]

-- if each of the prefixes begins with a character that passes, so does a text that begins with one
pub any_first : (passes : ℕ → Bool) (fronts : List (List ℕ)) (text : List ℕ)
    → list_all (first_passes passes) fronts ≡ true
    → begins_any fronts text ≡ true → first_passes passes text ≡ true
any_first passes [] text all h = absurd (both_ways _ refl h)
any_first passes (front ∷ fronts) text all h =
    let parts = and_parts _ _ all in
    elim (or_cases _ _ h) [
      | inl here ↦ let split = begins_splits front text here in ap (first_passes passes) split.1
          ∙ first_more passes front split.0 parts.0
      | inr there ↦ any_first passes fronts text parts.1 there
    ]

-- a text that ends with a character is a prefix and the character
pub ends_splits : (c : ℕ) (text : List ℕ) → ends_with c text ≡ true → (front : List ℕ) × (text ≡ front ++ (c ∷ []))
ends_splits c [] h = absurd (both_ways _ refl h)
ends_splits c (d ∷ []) h = ([], ap (λ x. x ∷ []) (eqb-true d c h))
ends_splits c (d ∷ (e ∷ text)) h =
    let more = ends_splits c (e ∷ text) h in
    (d ∷ more.0, ap (λ xs. d ∷ xs) more.1)

-- a text that is a prefix and a character ends with the character
pub ends_back : (c : ℕ) (front : List ℕ) → ends_with c (front ++ (c ∷ [])) ≡ true
ends_back c [] = eq-eqb c c refl
ends_back c (d ∷ []) = eq-eqb c c refl
ends_back c (d ∷ (e ∷ front)) = ends_back c (e ∷ front)

-- a prefix that ends otherwise does not change how a text ends
pub ends_over : (c : ℕ) (front text : List ℕ) → ends_with c front ≡ false
    → ends_with c (front ++ text) ≡ ends_with c text
ends_over c [] text h = refl
ends_over c (d ∷ []) [] h = h
ends_over c (d ∷ []) (e ∷ text) h = refl
ends_over c (d ∷ (e ∷ front)) text h = ends_over c (e ∷ front) text h

-- ---- a text whose rest changes

begins_cut : (passes : ℕ → Bool) (front w v s : List ℕ) → list_all passes (drop (length w) front) ≡ true
    → first_passes passes s ≡ false
    → begins_with front (w ++ v) ≡ false → begins_with front (w ++ s) ≡ false
begins_cut passes [] w v s all ends h = h
begins_cut passes (c ∷ front) [] v [] all ends h = refl
begins_cut passes (c ∷ front) [] v (d ∷ s) all ends h =
    and_left (c == d) (begins_with front s)
    (false_from_ne_true (c == d) (λ e. both_ways (passes d) ends
    (subst (λ x. passes x ≡ true) (eqb-true c d e) (and_parts _ _ all).0)))
begins_cut passes (c ∷ front) (d ∷ w) v s all ends h = elim (and_cases (c == d) (begins_with front (w ++ v)) h) [
  | inl here ↦ and_left (c == d) (begins_with front (w ++ s)) here
  | inr there ↦ and_right (c == d) (begins_with front (w ++ s)) (begins_cut passes front w v s all ends there)
]

all_drop : (passes : ℕ → Bool) (n m : ℕ) (xs : List ℕ) → n ≤ m → list_all passes (drop n xs) ≡ true
    → list_all passes (drop m xs) ≡ true
all_drop passes zero zero xs few all = all
all_drop passes (suc n) zero xs few all = absurd (omega (arith, few))
all_drop passes n (suc m) [] few all = refl
all_drop passes zero (suc m) (c ∷ xs) few all = all_drop passes zero m xs (omega arith) (and_parts _ _ all).1
all_drop passes (suc n) (suc m) (c ∷ xs) few all = all_drop passes n m xs (omega (arith, few)) all

-- if w before v begins with none of some prefixes, neither does w before s. It is assumed that w has n characters, and
-- that no prefix has the first character of s after its own first n characters
pub any_after : (passes : ℕ → Bool) (n : ℕ) (fronts : List (List ℕ)) (w v s : List ℕ)
    → list_all (λ front. list_all passes (drop n front)) fronts ≡ true → n ≤ length w
    → first_passes passes s ≡ false → begins_any fronts (w ++ v) ≡ false → begins_any fronts (w ++ s) ≡ false
any_after passes n [] w v s all long ends h = refl
any_after passes n (front ∷ fronts) w v s all long ends h =
    let both = and_parts _ _ all in
    let parts = or_parts (begins_with front (w ++ v)) (begins_any fronts (w ++ v)) h in
    or_from (begins_with front (w ++ s)) (begins_any fronts (w ++ s))
    (begins_cut passes front w v s (all_drop passes n (length w) front long both.0) ends parts.0)
    (any_after passes n fronts w v s both.1 long ends parts.1)

-- if w before v begins with none of some prefixes, neither does w before s, if the first character of s is in none of
-- them
pub any_cut : (passes : ℕ → Bool) (fronts : List (List ℕ)) (w v s : List ℕ) → list_all (list_all passes) fronts ≡ true
    → first_passes passes s ≡ false → begins_any fronts (w ++ v) ≡ false → begins_any fronts (w ++ s) ≡ false
any_cut passes fronts w v s all = any_after passes 0 fronts w v s all (omega arith)
