use Rattle.std.proofs.Common.{length}
use Rattle.declarations.specs.Parameter.{LeadsTo}
use Rattle.declarations.specs.PartList.{list_rule}
use Rattle.declarations.proofs.part_list.past_list.Given as goal

abbrev pub invariant-loop-more : goal.invariant-loop-more
invariant-loop-more l = LeadsTo (list_rule l.fn.element) l.fn.trees (list_rule l.fn.element) l.left

abbrev pub decreases-loop-more : goal.decreases-loop-more
decreases-loop-more l = length l.left
