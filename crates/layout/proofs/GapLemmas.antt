-- Chosen gaps, and their spaces.
use Rattle.std.specs.Prelude.{◌-◌}
use Rattle.std.proofs.Common.{◌≡◌, ◌<◌, ◌≤◌, ℕ, zero, suc, Bool, true, false, List, [], ◌∷◌, ◌++◌, Some, None, codes}
use Rattle.std.proofs.Common.{refl, sym, ap, ◌∙◌, subst, arith, get_or, length, take}
use Rattle.std.specs.Str.{chars, IsUtf8, encode_utf8_all}
use Rattle.std.proofs.lemmas.Bool.{both_ways, false_from_ne_true}
use Rattle.std.proofs.lemmas.List.{take_at}
use Rattle.std.proofs.lemmas.Str.{IsUtf8-from_ascii, IsUtf8-take, IsCharBoundary-at_seam, chars-append, chars-IsAscii}
use Rattle.std.proofs.lemmas.Str.{encode_ascii}
use Rattle.unicode_ident.proofs.Computing.{unicode_ident}
use Rattle.lexical.specs.Number.{bars_dot}
use Rattle.lexical.specs.Text.{ends_with, first_passes}
use Rattle.lexical.proofs.TextLemmas.{ends_back, ends_splits, is_ascii, seam_bytes}
use Rattle.pm_stream.specs.Events.{Event}
use Rattle.layout.specs.Layout.{is_joint}
use Rattle.layout.specs.Writing.{front_char, gap_text, known_gap, spaces}
use Rattle.layout.specs.declared.gaps.Gap.{Gap}
use Rattle.layout.specs.declared.gaps.Gap.TheVariants.{Nothing, Space, Line, Blank}

-- a gap that is not empty is written as it is chosen
pub given_stays : (before : Event) (chosen : Gap) (next : Event) → is_joint before ≡ false → (chosen ≡ Nothing → ⊥)
    → Some chosen ≡ known_gap (Some before) chosen next
given_stays before Nothing next apart some_gap = absurd (some_gap refl)
given_stays before Space next apart some_gap = rw apart refl
given_stays before (Line n) next apart some_gap = rw apart refl
given_stays before (Blank n) next apart some_gap = rw apart refl

pub eight_chars : chars (codes "        ") ≡ codes "        "
unfolding chars
eight_chars = refl

-- eight spaces or more begin with eight spaces
pub eight_first : (n : ℕ) → 8 ≤ n → spaces n ≡ codes "        " ++ spaces (n - 8)
eight_first n many =
    let e : n ≡ suc (suc (suc (suc (suc (suc (suc (suc (n - 8)))))))) = omega (arith, many) in
    ap spaces e

-- testing the first character is testing how the text begins
pub front_passes : (passes : ℕ → Bool) (c : ℕ) (text : List ℕ) → Some c ≡ front_char text
    → passes c ≡ first_passes passes text
front_passes passes c [] e = cc
front_passes passes c (d ∷ text) e = cc

-- a text without a first character does not begin with one that passes
pub front_none : (passes : ℕ → Bool) (text : List ℕ) → None ≡ front_char text → false ≡ first_passes passes text
front_none passes [] e = refl
front_none passes (c ∷ text) e = absurd (cc)

spaces_ascii : (n i : ℕ) → get_or (spaces n) i 0 < 128
spaces_ascii zero i = omega arith
spaces_ascii (suc n) zero = omega arith
spaces_ascii (suc n) (suc i) = spaces_ascii n i

-- the characters of ASCII spaces are their bytes
pub spaces_chars : (n : ℕ) → chars (spaces n) ≡ spaces n
spaces_chars n = chars-IsAscii (spaces n) (spaces_ascii n)

-- ---- gaps before and after a dot

space_bars : bars_dot 32 ≡ false
unfolding unicode_ident
space_bars = refl

line_bars : bars_dot 10 ≡ false
unfolding unicode_ident
line_bars = refl

-- a gap that is not empty frees no dot before it
pub gap_bars : (gap : Gap) (text : List ℕ) → (gap ≡ Nothing → ⊥)
    → first_passes bars_dot (gap_text gap ++ text) ≡ false
gap_bars Nothing text some_gap = absurd (some_gap refl)
gap_bars Space text some_gap = space_bars
gap_bars (Line n) text some_gap = line_bars
gap_bars (Blank n) text some_gap = line_bars

-- the gap at the end frees no dot before it
pub end_bars : (gap : Gap) → first_passes bars_dot (gap_text gap ++ []) ≡ false
end_bars Nothing = refl
end_bars Space = space_bars
end_bars (Line n) = line_bars
end_bars (Blank n) = line_bars

-- ---- the end of a text

-- a text whose last byte is a dot ends with the character
dot_ends : (text front : List ℕ) → IsUtf8 text → text ≡ front ++ (46 ∷ []) → ends_with 46 (chars text) ≡ true
dot_ends text front utf8 whole =
    let dot = is_ascii (46 ∷ []) refl in
    let boundary = IsCharBoundary-at_seam text front (46 ∷ []) whole (IsUtf8-from_ascii (46 ∷ []) dot) in
    let cut : take (length front) text ≡ front = ap (take (length front)) whole
    ∙ take_at front (46 ∷ []) (length front) refl in
    let split : chars text ≡ chars front ++ (46 ∷ []) =
    ap chars whole ∙ (chars-append front (46 ∷ []) (subst IsUtf8 cut (IsUtf8-take text (length front) utf8 boundary))
    ∙ ap (λ xs. chars front ++ xs) (chars-IsAscii (46 ∷ []) dot)) in
    ap (ends_with 46) split ∙ ends_back 46 (chars front)

-- the characters of a text end with a dot exactly if its bytes do
pub ends_chars : (ends : Bool) (text front : List ℕ) → IsUtf8 text
    → (ends ≡ true → text ≡ front ++ (46 ∷ [])) × ((xs : List ℕ) → text ≡ xs ++ (46 ∷ []) → ends ≡ true)
    → ends ≡ ends_with 46 (chars text)
ends_chars true text front utf8 h = sym (dot_ends text front utf8 (h.0 refl))
ends_chars false text front utf8 h =
    sym (false_from_ne_true _ (λ ends.
    let split = ends_splits 46 (chars text) ends in
    both_ways false refl
    (h.1 (encode_utf8_all split.0) (seam_bytes text split.0 (46 ∷ []) utf8 split.1
    ∙ ap (λ b. encode_utf8_all split.0 ++ (b ++ [])) (encode_ascii 46 (omega arith))))))
