use Rattle.std.proofs.Common.{length}
use Rattle.quoting.proofs.JoinLemmas.{IsClosing}
use Rattle.quoting.proofs.join.closed_to.Given as goal

abbrev pub invariant-loop-around : goal.invariant-loop-around
invariant-loop-around l = IsClosing l.fn.outer.items l.fn.innermost l.fn.depth l.here l.outer.items

abbrev pub decreases-loop-around : goal.decreases-loop-around
decreases-loop-around l = length l.outer.items
