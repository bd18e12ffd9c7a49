use Rattle.std.proofs.Common.{◌≡◌, ℕ, true, List, [], length}
use Rattle.std.specs.Str.{chars}
use Rattle.lexical.specs.Piece.{Piece}
use Rattle.highlight.specs.Delimiters.{delimiter_styles}
use Rattle.highlight.specs.Nesting.{IsAwaited, waiting_of}
use Rattle.highlight.specs.Pieces.{AreAllPieces, is_nil}
use Rattle.highlight.proofs.marking.styles_of_delimiters.Given as goal

-- the styles so far and the pieces that are left give the styles of all delimiters
abbrev pub invariant-loop-next : goal.invariant-loop-next
invariant-loop-next l = record {
  awaited : IsAwaited l.nesting.awaited l.nesting.openers.items;
  styles : (more : List Piece) (rest : List ℕ) → AreAllPieces l.walk.at_front (chars l.walk.rest.now) more rest
      → (all : List Piece) × AreAllPieces true (chars l.text) all rest
      × (delimiter_styles (is_nil rest) l.nesting.styles.items (waiting_of l.nesting.openers.items) more
      ≡ delimiter_styles (is_nil rest) [] [] all);
}

abbrev pub decreases-loop-next : goal.decreases-loop-next
decreases-loop-next l = length l.walk.rest.now
