use Rattle.std.proofs.Common.{length}
use Rattle.grammars.specs.Grammar.{Many}
use Rattle.declarations.specs.ItemRest.{further_segment}
use Rattle.declarations.specs.Reader.{classes_in}
use Rattle.declarations.proofs.LoopLemmas.{Leads}
use Rattle.declarations.proofs.item_paths.past_segments.Given as goal

abbrev pub invariant-loop-left : goal.invariant-loop-left
invariant-loop-left l = Leads (Many further_segment) l.trees l.left

abbrev pub decreases-loop-left : goal.decreases-loop-left
decreases-loop-left l = length (classes_in l.left)
