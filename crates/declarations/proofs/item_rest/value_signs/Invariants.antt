use Rattle.std.proofs.Common.{length}
use Rattle.grammars.specs.Grammar.{Many}
use Rattle.declarations.specs.Reader.{classes_in}
use Rattle.declarations.specs.rules.Bodies.{not_semicolon}
use Rattle.declarations.proofs.LoopLemmas.{Leads}
use Rattle.declarations.proofs.item_rest.value_signs.Given as goal

abbrev pub invariant-loop-next : goal.invariant-loop-next
invariant-loop-next l = Leads (Many not_semicolon) l.trees l.left

abbrev pub decreases-loop-next : goal.decreases-loop-next
decreases-loop-next l = length (classes_in l.left)
