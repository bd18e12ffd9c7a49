-- Pieces after which a line may be broken.
use Rattle.std.specs.Prelude.{Bool, true, false, not, List, [], ◌∷◌}
use Rattle.std.specs.Char.{is_ascii_digit}
use Rattle.lexical.specs.Text.{first_passes}
use Rattle.lexical.specs.Token.{Name, Mark, Literal}
use Rattle.lexical.specs.Piece.{Kind, Piece, FrontMark, Gap, Doc, Open, Close, Leaf}

-- whether the piece is neither a mark nor a number. Numbers are the literals that begin with a digit
abbrev pub is_quiet : Kind → Bool
is_quiet FrontMark = true
is_quiet Gap = true
is_quiet (Doc inner text) = true
is_quiet (Open c) = true
is_quiet (Close c) = true
is_quiet (Leaf (Name raw name)) = true
is_quiet (Leaf (Mark c joint)) = false
is_quiet (Leaf (Literal text)) = not (first_passes is_ascii_digit text)

-- whether the last piece is neither a mark nor a number. It is false if there is no piece
abbrev pub ends_quiet : List Piece → Bool
ends_quiet [] = false
ends_quiet (piece ∷ []) = is_quiet piece.0
ends_quiet (piece ∷ (next ∷ pieces)) = ends_quiet (next ∷ pieces)
