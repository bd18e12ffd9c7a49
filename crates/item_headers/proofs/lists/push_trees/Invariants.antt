use Rattle.std.proofs.Common.{◌≡◌, length}
use Rattle.item_headers.specs.Lists.{pushed_trees}
use Rattle.proc_macro2.specs.Forest.{chain}
use Rattle.item_headers.proofs.lists.push_trees.Given as goal

abbrev pub invariant-loop-tree : goal.invariant-loop-tree
invariant-loop-tree l = chain l.quote (pushed_trees l.left) ≡ chain l.fn.quote (pushed_trees l.trees)

abbrev pub decreases-loop-tree : goal.decreases-loop-tree
decreases-loop-tree l = length l.left
