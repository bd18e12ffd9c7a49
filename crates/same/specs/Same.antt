-- When two texts are the same, and where they first differ.
use Rattle.std.specs.Prelude.{ℕ, ◌≡◌, Bool, List, Option, MatchOption}
use Rattle.std.specs.Borrow.{Bor}
use Rattle.std.specs.Str.{chars}
use Rattle.lexical.specs.Cover.{IsCover}
use Rattle.lexical.specs.Piece.{Piece}
use Rattle.same.specs.Difference.{DifferAt, bare}
use Rattle.same.specs.Words.{words}

-- the words of two covers are the same, or first differ where the found texts begin
abbrev pub Compares : Bool → List Piece → List Piece → Option (Bor (List ℕ) × Bor (List ℕ)) → Type 0
Compares comments us vs found =
    MatchOption found (bare (words comments us) ≡ bare (words comments vs))
    (λ places. DifferAt (words comments us) (words comments vs) (chars places.0.now) (chars places.1.now))

-- the words of any covers of the two sources are the same, or first differ where the found texts begin
abbrev pub ComparesTexts : Bool → List ℕ → List ℕ → Option (Bor (List ℕ) × Bor (List ℕ)) → Type 0
ComparesTexts comments source other found =
    (us vs : List Piece) → IsCover us source → IsCover vs other → Compares comments us vs found
