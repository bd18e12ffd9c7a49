-- Texts with more tokens than a buffer holds.
use Rattle.std.specs.Prelude.{ℕ, ◌≤◌, ◌^◌, List, length}
use Rattle.lexical.specs.Cover.{CoversUpTo}
use Rattle.lexical.specs.Piece.{Piece}
use Rattle.pm_stream.specs.Events.{expansion}

-- whether some first pieces of the source already give more events than a buffer can hold
pub record HasManyTokens (base : ℕ) (source : List ℕ) : Type 0 where
  pub pieces : List Piece
  pub rest : List ℕ
  pub covers : CoversUpTo pieces source rest
  pub many : 2 ^ 32 ≤ length (expansion base pieces)
