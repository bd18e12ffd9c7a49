use Rattle.std.proofs.Common.{length}
use Rattle.declarations.proofs.WalkedLemmas.{Walking}
use Rattle.declarations.proofs.walk.walk_from.Given as goal

abbrev pub invariant-loop-next : goal.invariant-loop-next
invariant-loop-next l = Walking l.fn.start l.trees l.left l.place

abbrev pub decreases-loop-next : goal.decreases-loop-next
decreases-loop-next l = length l.left
