-- A text without its prefix or its last character.
use Rattle.std.proofs.Common.{◌≡◌, ◌≢◌, ℕ, true, false, List, [], ◌∷◌, ◌++◌, length, take, Option, Some, None}
use Rattle.std.proofs.Common.{MatchOption, Bor, refl, sym, ap, ◌∙◌, subst, arith, append-nil}
use Rattle.std.specs.Str.{chars, IsUtf8, encode_utf8_all}
use Rattle.std.specs.Str.Pattern.{FindsTextPrefix, StripsPrefix}
use Rattle.std.specs.Prelude.{if◌then◌else◌}
use Rattle.std.proofs.lemmas.Bool.{false_from_ne_true, cond-true, cond-false}
use Rattle.std.proofs.lemmas.List.{take_at}
use Rattle.std.proofs.lemmas.Str.{IsUtf8-from_ascii, IsUtf8-take, IsCharBoundary-at_seam, chars-append, chars-IsAscii}
use Rattle.std.proofs.lemmas.Str.{encode_ascii}
use Rattle.lexical.specs.Ascii.{all_ascii}
use Rattle.lexical.specs.Text.{begins_with, ends_with}
pub use Rattle.lexical.proofs.TextLemmas.{is_ascii}
use Rattle.lexical.proofs.TextLemmas.{begins_chars, begins_splits, ends_splits, ends_back, seam_bytes}

-- ---- the prefix

-- the contract of `strip_prefix` for an ASCII text, in terms of characters
pub strips_chars : (front text : List ℕ) (r : Option (Bor (List ℕ))) → IsUtf8 text → all_ascii front ≡ true
    → MatchOption r (FindsTextPrefix front text None) (λ x. StripsPrefix (FindsTextPrefix front) text x.now)
    → MatchOption r (begins_with front (chars text) ≡ false) (λ x. chars text ≡ front ++ chars x.now)
strips_chars front text None utf8 ascii h =
    sym (begins_chars front text utf8 ascii)
    ∙ false_from_ne_true _ (λ begins. let split = begins_splits front text begins in h split.0 split.1)
strips_chars front text (Some x) utf8 ascii h =
    let bytes = is_ascii front ascii in
    ap chars (h.1.1 ∙ ap (λ ys. front ++ ys) (sym h.2))
    ∙ (chars-append front x.now (IsUtf8-from_ascii front bytes)
    ∙ ap (λ xs. xs ++ chars x.now) (chars-IsAscii front bytes))

-- ---- the CR at the end

-- the CR at the end of a text, or nothing
abbrev pub last_return : List ℕ → List ℕ
last_return text = if ends_with 13 text then 13 ∷ [] else []

pub return_stripped : (text front : List ℕ) → IsUtf8 text → text ≡ front ++ (13 ∷ [])
    → chars text ≡ chars front ++ last_return (chars text)
return_stripped text front utf8 whole =
    let return = is_ascii (13 ∷ []) refl in
    let boundary = IsCharBoundary-at_seam text front (13 ∷ []) whole (IsUtf8-from_ascii (13 ∷ []) return) in
    let cut : take (length front) text ≡ front = ap (take (length front)) whole
    ∙ take_at front (13 ∷ []) (length front) refl in
    let split : chars text ≡ chars front ++ (13 ∷ []) =
    ap chars whole ∙ (chars-append front (13 ∷ []) (subst IsUtf8 cut (IsUtf8-take text (length front) utf8 boundary))
    ∙ ap (λ xs. chars front ++ xs) (chars-IsAscii (13 ∷ []) return)) in
    split ∙ ap (λ xs. chars front ++ xs) (sym (cond-true _ _ _ (ap (ends_with 13) split ∙ ends_back 13 (chars front))))

pub no_return : (text : List ℕ) → IsUtf8 text → ((front : List ℕ) → text ≢ front ++ (13 ∷ []))
    → chars text ≡ chars text ++ last_return (chars text)
no_return text utf8 none =
    let plain : ends_with 13 (chars text) ≡ false =
    false_from_ne_true _ (λ ends.
    let split = ends_splits 13 (chars text) ends in
    none (encode_utf8_all split.0) (seam_bytes text split.0 (13 ∷ []) utf8 split.1
    ∙ ap (λ b. encode_utf8_all split.0 ++ (b ++ [])) (encode_ascii 13 (omega arith)))) in
    sym (append-nil (chars text)) ∙ ap (λ xs. chars text ++ xs) (sym (cond-false _ _ _ plain))
