use Rattle.std.proofs.Common.{◌≡◌, ◌++◌}
use Rattle.relayout.specs.Written.{times}
use Rattle.relayout.proofs.white.push_times.Given as goal

abbrev pub invariant-loop-left : goal.invariant-loop-left
invariant-loop-left l = l.out ++ times l.c l.left ≡ l.fn.out ++ times l.c l.fn.count

abbrev pub decreases-loop-left : goal.decreases-loop-left
decreases-loop-left l = l.left
