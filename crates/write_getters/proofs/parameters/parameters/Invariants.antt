use Rattle.std.proofs.Common.{length}
use Rattle.write_getters.proofs.ParametersLemmas.{Collected}
use Rattle.write_getters.proofs.parameters.parameters.Given as goal

abbrev pub invariant-loop-left : goal.invariant-loop-left
invariant-loop-left l = Collected l.initial.left l.left l.declared.items l.arguments.items

abbrev pub decreases-loop-left : goal.decreases-loop-left
decreases-loop-left l = length l.left
