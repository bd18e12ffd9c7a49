-- The result of comparing two texts, and the line that is written for it.
use Rattle.std.specs.Prelude.{ℕ, ◌≡◌, ◌↔◌, ◌+◌, Bool, true, false, List, ◌++◌, IsTrue, codes, decimal}
use Rattle.lexical.specs.Cover.{IsCover}
use Rattle.lexical.specs.Piece.{Piece}
use Rattle.pm_stream.specs.Forest.{Forest}
use Rattle.pm_stream.specs.Parsing.{ParsesTo}
use Rattle.pm_stream.specs.Same.{Same}
use Rattle.proc_macro2.specs.declared.LineColumn.{LineColumn}
use Rattle.same.specs.Difference.{bare}
use Rattle.same.specs.Words.{words}

-- `same` says of two texts that parse whether they parse to the same trees up to spans or, if comments are compared
-- too, whether they have the same tokens and comments in the same order
abbrev pub AreSame : Bool → List ℕ → List ℕ → Bool → Type 0
AreSame false source other same = (first second : ℕ) (s t : Forest) → ParsesTo first source s → ParsesTo second other t
    → IsTrue same ↔ Same s t
AreSame true source other same = (us vs : List Piece) → IsCover us source → IsCover vs other
    → IsTrue same ↔ (bare (words true us) ≡ bare (words true vs))

-- `FILE:L:C`, with line and column from 1, and then `more`
abbrev pub place_onto : List ℕ → LineColumn → List ℕ → List ℕ
place_onto path at more =
    path ++ (codes ":" ++ (decimal at.line ++ (codes ":" ++ (decimal (at.column + 1) ++ more))))

-- the line that says where the first difference is in both texts
abbrev pub places : List ℕ → LineColumn → List ℕ → LineColumn → List ℕ
places path at other other_at =
    place_onto path at (codes ": differs from " ++ place_onto other other_at (codes "\n"))
