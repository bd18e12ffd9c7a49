use Rattle.std.proofs.Common.{length}
use Rattle.item_headers.proofs.ListLemmas.{PutBounds}
use Rattle.item_headers.proofs.clauses.push_bounds.Given as goal

abbrev pub invariant-loop-left : goal.invariant-loop-left
invariant-loop-left l = PutBounds l.bound l.fn.any l.initial.left l.left l.fn.quote l.quote l.any_now

abbrev pub decreases-loop-left : goal.decreases-loop-left
decreases-loop-left l = length l.left
