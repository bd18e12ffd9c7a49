use Rattle.std.proofs.Common.{length}
use Rattle.declarations.proofs.RangeStepLemmas.{InRange}
use Rattle.declarations.proofs.range.past_range.Given as goal

abbrev pub invariant-loop-next : goal.invariant-loop-next
invariant-loop-next l = InRange l.fn.start l.trees l.left l.state l.depth

abbrev pub decreases-loop-next : goal.decreases-loop-next
decreases-loop-next l = length l.left
