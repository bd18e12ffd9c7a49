use Rattle.std.proofs.Common.{length}
use Rattle.declarations.specs.Parameter.{LeadsTo}
use Rattle.declarations.specs.rules.Items.{use_path}
use Rattle.declarations.proofs.item_paths.past_use_path.Given as goal

abbrev pub invariant-loop-next : goal.invariant-loop-next
invariant-loop-next l = LeadsTo use_path l.trees use_path l.left

abbrev pub decreases-loop-next : goal.decreases-loop-next
decreases-loop-next l = length l.left
