use Rattle.quoting.specs.Respaced.{respace_marks}
use Rattle.quoting.proofs.PartLemmas.{IsOnTheWay, left_count}
use Rattle.quoting.proofs.respace.respace_marks.Given as goal

abbrev pub invariant-loop-tree : goal.invariant-loop-tree
invariant-loop-tree l = IsOnTheWay respace_marks l.here l.outer.items (respace_marks l.fn.stream)

abbrev pub decreases-loop-tree : goal.decreases-loop-tree
decreases-loop-tree l = left_count l.here l.outer.items
