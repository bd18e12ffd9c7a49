use Rattle.std.proofs.Common.{◌≡◌, ◌+◌, length}
use Rattle.std.specs.List.{prefix_len}
use Rattle.declarations.specs.Attribute.{goes_on}
use Rattle.declarations.proofs.attribute.path_len.Given as goal

-- the trees so far are part of the path
abbrev pub invariant-loop-tree : goal.invariant-loop-tree
invariant-loop-tree l = prefix_len goes_on l.trees + length l.left ≡ length l.trees + prefix_len goes_on l.left

abbrev pub decreases-loop-tree : goal.decreases-loop-tree
decreases-loop-tree l = length l.left
