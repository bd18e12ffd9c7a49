use Rattle.std.proofs.Common.{◌↔◌, ◌≤◌, ◌*◌}
use Rattle.pm_stream.specs.Trees.{forest}
use Rattle.pm_stream.specs.Same.{Same}
use Rattle.pm_stream.specs.Size.{count}
use Rattle.pm_stream.proofs.SameLemmas.{LeftSame, left_count}
use Rattle.pm_stream.proofs.same.+are_same.Given as goal

abbrev pub decreases-are_same : goal.decreases-are_same
decreases-are_same l = count (forest l.trees.now)

abbrev pub invariant-loop-tree : goal.invariant-loop-tree
invariant-loop-tree l = record {
  same : LeftSame l.left.trees.now l.left.others.now l.outer.items ↔ Same (forest l.fn.trees) (forest l.fn.others);
  within : left_count l.left.trees.now l.outer.items ≤ 2 * count (forest l.fn.trees);
}

abbrev pub decreases-loop-tree : goal.decreases-loop-tree
decreases-loop-tree l = left_count l.left.trees.now l.outer.items
