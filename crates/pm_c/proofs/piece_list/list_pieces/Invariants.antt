use Rattle.std.proofs.Common.{◌≡◌, ◌≤◌, ◌+◌, ◌++◌, ℕ, true, List, length}
use Rattle.std.specs.Str.{chars}
use Rattle.lexical.specs.Piece.{Piece}
use Rattle.pm_c.specs.Pieces.{AreAllPieces, piece_records}
use Rattle.pm_c.proofs.piece_list.list_pieces.Given as goal

-- the records so far and those of the pieces that are left are the records of all pieces
abbrev pub invariant-loop-next : goal.invariant-loop-next
invariant-loop-next l = record {
  offset : l.walk.byte_offset + length l.walk.rest.now ≡ length l.text;
  few : length l.records.items ≤ l.walk.byte_offset;
  listed : (more : List Piece) (rest : List ℕ) → AreAllPieces l.walk.at_front (chars l.walk.rest.now) more rest
      → (all : List Piece) × AreAllPieces true (chars l.text) all rest
      × (l.records.items ++ piece_records l.walk.byte_offset more ≡ piece_records 0 all);
}

abbrev pub decreases-loop-next : goal.decreases-loop-next
decreases-loop-next l = length l.walk.rest.now
