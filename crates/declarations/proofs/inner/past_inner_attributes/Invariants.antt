use Rattle.std.proofs.Common.{length}
use Rattle.declarations.specs.Reader.{classes_in}
use Rattle.declarations.specs.rules.Parts.{inner_attributes}
use Rattle.declarations.proofs.LoopLemmas.{Leads}
use Rattle.declarations.proofs.inner.past_inner_attributes.Given as goal

abbrev pub invariant-loop-left : goal.invariant-loop-left
invariant-loop-left l = Leads inner_attributes l.trees l.left

abbrev pub decreases-loop-left : goal.decreases-loop-left
decreases-loop-left l = length (classes_in l.left)
