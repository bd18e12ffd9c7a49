use Rattle.std.proofs.Common.{◌≡◌, ◌++◌, ℕ, true, false, List, Option, length, reverse, string_bytes}
use Rattle.std.specs.Str.{chars}
use Rattle.explain.specs.declared.explained.Explained.{Explained}
use Rattle.lexical.specs.Piece.{Piece}
use Rattle.highlight.specs.Page.{marked_pieces}
use Rattle.highlight.specs.Pieces.{AreAllPieces, shown_from}
use Rattle.highlight.proofs.marking.mark_pieces.Given as goal

-- what is written so far, and what will be written for the pieces that are left, make the whole marked text
abbrev pub invariant-loop-piece : goal.invariant-loop-piece
invariant-loop-piece l = record {
  format : l.sheet.format ≡ l.fn.format;
  shown : (answer : Option Explained) (more : List Piece) (rest : List ℕ)
      → AreAllPieces l.walk.at_front (chars l.walk.rest.now) more rest
      → (all : List Piece) × AreAllPieces true (chars l.text) all rest
      × (string_bytes l.sheet.out ++ marked_pieces l.fn.format l.sheet.line
      (shown_from answer (reverse l.styling.delimiters.items) l.styling.is_after_quote more rest)
      ≡ marked_pieces l.fn.format 1 (shown_from answer (reverse l.initial.styling.delimiters.items) false all rest));
}

abbrev pub decreases-loop-piece : goal.decreases-loop-piece
decreases-loop-piece l = length l.walk.rest.now
