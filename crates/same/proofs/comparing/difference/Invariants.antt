use Rattle.std.specs.Str.{chars}
use Rattle.same.specs.Words.{size}
use Rattle.same.proofs.ComparingLemmas.{Goes}
use Rattle.same.proofs.comparing.difference.Given as goal

abbrev pub invariant-loop-one : goal.invariant-loop-one
invariant-loop-one l = Goes l.comments (chars l.first) (chars l.second) l.ones l.others

abbrev pub decreases-loop-one : goal.decreases-loop-one
decreases-loop-one l = size l.ones
