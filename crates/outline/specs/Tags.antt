-- How lines are written.
use Rattle.std.specs.Prelude.{ℕ, List, [], ◌∷◌, ◌++◌, Option, codes}
use Rattle.std.specs.Cmp.Lexicographic.{slice_cmp}
use Rattle.std.specs.Io.KnownBytes.{Appends}
use Rattle.std.specs.List.Sorted.{IsPermutation, IsSorted}
use Rattle.std.specs.Ordering.{nat_cmp}

-- the lines, each with its end
abbrev pub lines_text : List (List ℕ) → List ℕ
lines_text [] = []
lines_text (line ∷ lines) = line ++ (codes "\n" ++ lines_text lines)

-- the text of a `tags` file with these lines
abbrev pub tags : List (List ℕ) → List ℕ
tags lines = codes "!_TAG_FILE_SORTED\t1\t//\n" ++ lines_text lines

-- a `tags` file with these lines, in the order of their bytes, is written between `old` and `new`
pub record WritesTags (lines : List (List ℕ)) (old new : Option (List ℕ)) : Type 0 where
  pub sorted : List (List ℕ)
  pub same : IsPermutation lines sorted
  pub in_order : IsSorted (slice_cmp nat_cmp) sorted
  pub written : Appends old new (tags sorted)
