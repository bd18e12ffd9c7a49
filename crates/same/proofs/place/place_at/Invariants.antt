use Rattle.same.proofs.PlaceLemmas.{IsAt}
use Rattle.same.proofs.place.place_at.Given as goal

abbrev pub invariant-loop-left : goal.invariant-loop-left
invariant-loop-left l = IsAt l.text l.rest.rest.now l.bytes l.left l.line l.column
