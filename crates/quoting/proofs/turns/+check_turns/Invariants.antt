use Rattle.std.proofs.Common.{◌≡◌, length}
use Rattle.proc_macro2.specs.Trees.{forest}
use Rattle.quoting.specs.Given.{in_turns}
use Rattle.quoting.specs.Turns.{check_turns}
use Rattle.quoting.proofs.turns.+check_turns.Given as goal

abbrev pub decreases-check_turns : goal.decreases-check_turns
decreases-check_turns l = l.depth

-- the first error of all trees is that of the trees that are left
abbrev pub invariant-loop-tree : goal.invariant-loop-tree
invariant-loop-tree l =
    check_turns (in_turns l.fn.holes l.fn.turns) l.fn.depth l.fn.count (forest l.fn.trees)
    ≡ check_turns (in_turns l.holes l.turns) l.depth l.count (forest l.left)

abbrev pub decreases-loop-tree : goal.decreases-loop-tree
decreases-loop-tree l = length l.left
