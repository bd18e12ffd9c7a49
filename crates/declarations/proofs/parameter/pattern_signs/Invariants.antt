use Rattle.std.proofs.Common.{length}
use Rattle.declarations.specs.Reader.{classes_in}
use Rattle.declarations.specs.rules.Parameters as rule
use Rattle.declarations.proofs.LoopLemmas.{Leads}
use Rattle.declarations.proofs.parameter.pattern_signs.Given as goal

abbrev pub invariant-loop-next : goal.invariant-loop-next
invariant-loop-next l = Leads rule.pattern_signs l.trees l.left

abbrev pub decreases-loop-next : goal.decreases-loop-next
decreases-loop-next l = length (classes_in l.left)
