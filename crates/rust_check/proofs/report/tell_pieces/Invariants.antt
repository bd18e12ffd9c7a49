use Rattle.std.proofs.Common.{◌≡◌, ◌+◌, ℕ, List, length}
use Rattle.std.specs.Str.{chars}
use Rattle.lexical.specs.Piece.{Piece}
use Rattle.rust_check.specs.Message.{Found}
use Rattle.rust_check.specs.NameForms.{AreFirst}
use Rattle.rust_check.specs.Telling.{IsWithin, Tells}
use Rattle.rust_check.proofs.PieceLemmas.{AreLeft, GoesOn}
use Rattle.rust_check.proofs.report.tell_pieces.Given as goal

-- what was found so far is written; with what is found in the pieces that are left, it is all that is found in the text
abbrev pub invariant-loop-next : goal.invariant-loop-next
invariant-loop-next g l =
    let bytes = g.W.Write.contents in
    record {
      within : IsWithin l.place;
      begin : l.place.begin + length l.walk.rest.now ≡ length l.text;
      done : List Found;
      before : List (List ℕ);
      names : AreFirst l.forms.first before;
      report : Tells l.fn.form l.fn.path done (bytes l.initial.writer) (bytes l.writer) l.initial.found l.found;
      goes : (more : List Piece) (rest : List ℕ) → AreLeft l.walk.at_front (chars l.walk.rest.now) more rest
          → GoesOn done l.place before (chars l.text) more rest;
    }

abbrev pub decreases-loop-next : goal.decreases-loop-next
decreases-loop-next g l = length l.walk.rest.now
