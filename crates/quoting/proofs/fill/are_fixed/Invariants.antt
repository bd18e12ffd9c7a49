use Rattle.std.proofs.Common.{◌≡◌, drop}
use Rattle.std.specs.List.{list_all}
use Rattle.quoting.specs.Given.{is_fixed}
use Rattle.quoting.proofs.fill.are_fixed.Given as goal

abbrev pub invariant-loop-tree : goal.invariant-loop-tree
invariant-loop-tree l = list_all is_fixed (drop l.tree-index l.trees) ≡ list_all is_fixed l.trees
