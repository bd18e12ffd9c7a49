-- The words after a program's name.
use Rattle.std.specs.Prelude.{ℕ, Bool, true, false, not, ◌&&◌, ◌==◌, List, [], ◌∷◌, drop, map, Option, Some, None}
use Rattle.std.specs.Prelude.{String, codes, length, nat_eq, slice_index, string_bytes}
use lib.Pointwise.{pointwise}
use Rattle.std.specs.Vec.Iter.{into_iter_items}
use Rattle.std.specs.declared.alloc.Global.{Global}
use Rattle.std.specs.declared.io.ErrorKind.{ErrorKind}
use Rattle.std.specs.declared.io.ErrorKind.TheVariants.{InvalidData}
use Rattle.std.specs.declared.vec.IntoIter.{IntoIter}

-- whether the error is that the arguments are not UTF-8
abbrev pub is_no_text : ErrorKind → Bool
is_no_text InvalidData = true
is_no_text _ = false

-- the words after the program's name
abbrev pub words_of : IntoIter (String Global) Global → List (List ℕ)
words_of arguments = map string_bytes (drop 1 (into_iter_items arguments))

-- the path that the words name: the only one, or `-`, which is standard input
abbrev pub path_of : List (List ℕ) → Option (List ℕ)
path_of [] = Some (codes "-")
path_of (path ∷ []) = Some path
path_of (path ∷ next ∷ words) = None

-- whether two words are the same
abbrev pub is_same : List ℕ → List ℕ → Bool
is_same a b = pointwise nat_eq a b

-- whether the word is an option, known or not: whether it begins with `-` (45) and is not `-` alone
abbrev pub is_option : List ℕ → Bool
is_option word = (slice_index word 0 == 45) && not (length word == 1)

-- the paths, or standard input if there are none
abbrev pub or_dash : List (List ℕ) → List (List ℕ)
or_dash [] = codes "-" ∷ []
or_dash (path ∷ paths) = path ∷ paths
