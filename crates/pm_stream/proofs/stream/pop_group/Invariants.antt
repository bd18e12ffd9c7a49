use Rattle.std.proofs.Common.{None, vec_len}
use Rattle.pm_stream.specs.Trees.{forest, TakesGroup}
use Rattle.pm_stream.proofs.stream.pop_group.Given as goal

abbrev pub invariant-loop-last : goal.invariant-loop-last
invariant-loop-last l = TakesGroup (forest l.initial.trees.items) None (forest l.trees.items)

abbrev pub decreases-loop-last : goal.decreases-loop-last
decreases-loop-last l = vec_len l.trees
