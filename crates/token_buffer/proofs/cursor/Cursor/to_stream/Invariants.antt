use Rattle.std.proofs.Common.{◌≡◌, reverse}
use Rattle.pm_stream.specs.Forest.{chain}
use Rattle.pm_stream.specs.Trees.{forest}
use Rattle.token_buffer.specs.Made.{steps_left, whole_of}
use Rattle.token_buffer.specs.Reads.{left}
use Rattle.token_buffer.proofs.cursor.Cursor.to_stream.Given as goal

-- the trees so far and the remaining ones are all trees
abbrev pub invariant-loop-first : goal.invariant-loop-first
invariant-loop-first l =
    whole_of (reverse l.groups.items) (chain (forest l.trees.items) (left l.here)) ≡ left l.fn.self

abbrev pub decreases-loop-first : goal.decreases-loop-first
decreases-loop-first l = steps_left (reverse l.groups.items) (left l.here)
