-- Lines, one after the other.
use Rattle.std.proofs.Common.{◌≡◌, ◌∙◌, ◌++◌, ◌+◌, ◌<◌, ◌≤◌, ℕ, List, [], ◌∷◌, Option, sym, ap, subst, arith}
use Rattle.std.proofs.Common.{ap₂, append_assoc, drop, get_or, length, map, codes, string_bytes, String}
use Rattle.std.proofs.KnownBytes.{Appends-nil, Appends-trans}
use Rattle.std.proofs.Math.ListN.{drop_of_length-le}
use Rattle.std.specs.Io.KnownBytes.{Appends}
use Rattle.std.specs.declared.alloc.Global.{Global}
use Rattle.std.proofs.lemmas.List.{drop_more, get_or-map, length-map}
use Rattle.std.specs.Cmp.Lexicographic.{slice_cmp}
use Rattle.std.specs.List.Sorted.{IsSorted}
use Rattle.std.specs.Ordering.{is_lt, nat_cmp}
use Rattle.std.specs.String.{string_cmp}
use Rattle.outline.specs.Tags.{lines_text}

-- the lines from one on are written as this line and then the next lines
pub ended_one : (lines : List (String Global)) (k : ℕ) (line : String Global) (old between new : Option (List ℕ))
    → k < length lines → line ≡ get_or lines k line
    → Appends old between (string_bytes line ++ codes "\n")
    → Appends between new (lines_text (map string_bytes (drop (k + 1) lines)))
    → Appends old new (lines_text (map string_bytes (drop k lines)))
ended_one lines k line old between new within is first rest =
    let split : drop k lines ≡ line ∷ drop (k + 1) lines =
    drop_more lines k line within ∙ ap (λ x. x ∷ drop (k + 1) lines) (sym is) in
    subst (λ l. Appends old new (lines_text (map string_bytes l))) (sym split)
    (subst (Appends old new) (append_assoc (string_bytes line) (codes "\n")
    (lines_text (map string_bytes (drop (k + 1) lines)))) (Appends-trans _ _ _ _ _ first rest))

-- no line is left
pub ended_none : (lines : List (String Global)) (k : ℕ) (known : Option (List ℕ)) → length lines ≤ k
    → Appends known known (lines_text (map string_bytes (drop k lines)))
ended_none lines k known past =
    subst (λ l. Appends known known (lines_text (map string_bytes l))) (sym (drop_of_length-le lines past))
    (Appends-nil known)

-- lines in the order of strings are in the order of their bytes
pub sorted_bytes : (lines : List (String Global)) → IsSorted string_cmp lines
    → IsSorted (slice_cmp nat_cmp) (map string_bytes lines)
sorted_bytes [] h = λ k d low high. absurd (omega arith)
sorted_bytes (line ∷ lines) h = λ k d low high.
    let all = line ∷ lines in
    let size : length (map string_bytes all) ≡ length all = length-map all string_bytes in
    let within : k + 1 < length all = omega arith in
    let here = get_or-map string_bytes all k line d (omega arith) in
    let there = get_or-map string_bytes all (k + 1) line d within in
    ap₂ (λ (x y : List ℕ). is_lt (slice_cmp nat_cmp x y)) there here ∙ h k line low within
