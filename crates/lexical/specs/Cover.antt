-- Covers of a source by pieces.
use Rattle.std.specs.Prelude.{ℕ, Bool, true, false, ◌+◌, ◌≡◌, List, [], ◌∷◌, ◌++◌, length}
use Rattle.lexical.specs.Piece.{Piece, IsPiece}

-- the texts of the pieces, joined, and then r
abbrev pub onto : List Piece → List ℕ → List ℕ
onto [] r = r
onto (piece ∷ pieces) r = piece.1 ++ onto pieces r

-- how many characters the pieces have together
abbrev pub width : List Piece → ℕ
width [] = 0
width (piece ∷ pieces) = length piece.1 + width pieces

-- whether each of the pieces is one in a source where the other pieces and then r follow it. `first` says whether they
-- begin at byte offset 0
abbrev pub StandBefore : Bool → List Piece → List ℕ → Type 0
StandBefore first [] r = Unit {0}
StandBefore first (piece ∷ pieces) r = IsPiece first piece.0 piece.1 (onto pieces r) × StandBefore false pieces r

-- `cover`: the pieces cover the source up to `rest`
pub record CoversUpTo (pieces : List Piece) (source rest : List ℕ) : Type 0 where
  pub whole : source ≡ onto pieces rest
  pub stand : StandBefore true pieces rest

-- `cover`: the pieces cover the whole source
abbrev pub IsCover : List Piece → List ℕ → Type 0
IsCover pieces source = CoversUpTo pieces source []
