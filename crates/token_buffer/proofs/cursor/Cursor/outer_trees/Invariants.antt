use Rattle.std.proofs.Common.{◌≡◌}
use Rattle.pm_stream.specs.Forest.{chain}
use Rattle.pm_stream.specs.Size.{count}
use Rattle.pm_stream.specs.Trees.{forest}
use Rattle.token_buffer.specs.Outer.{outer}
use Rattle.token_buffer.specs.Reads.{left}
use Rattle.token_buffer.proofs.cursor.Cursor.outer_trees.Given as goal

-- the trees so far and those of the remaining ones make up the result
abbrev pub invariant-loop-first : goal.invariant-loop-first
invariant-loop-first l = chain (forest l.trees.items) (outer (left l.here)) ≡ outer (left l.fn.self)

abbrev pub decreases-loop-first : goal.decreases-loop-first
decreases-loop-first l = count (left l.here)
