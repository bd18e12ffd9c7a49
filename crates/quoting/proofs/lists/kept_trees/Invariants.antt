use Rattle.std.proofs.Common.{◌≡◌, take}
use Rattle.proc_macro2.specs.Building.{split}
use Rattle.quoting.specs.Items.{One, each_of}
use Rattle.quoting.proofs.lists.kept_trees.Given as goal

abbrev pub invariant-loop-tree : goal.invariant-loop-tree
invariant-loop-tree l = l.values ≡ each_of (λ tree. One (split tree)) (take l.tree-index l.trees)
