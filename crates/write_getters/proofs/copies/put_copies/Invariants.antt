use Rattle.std.proofs.Common.{◌≡◌, take}
use Rattle.proc_macro2.specs.Forest.{chain}
use Rattle.write_getters.specs.Copies.{copy_trees}
use Rattle.write_getters.proofs.copies.put_copies.Given as goal

abbrev pub invariant-loop-tree : goal.invariant-loop-tree
invariant-loop-tree l = l.stream ≡ chain l.fn.stream (copy_trees (take l.tree-index l.trees))
