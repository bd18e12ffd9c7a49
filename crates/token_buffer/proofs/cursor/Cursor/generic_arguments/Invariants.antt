use Rattle.std.proofs.Common.{◌≡◌}
use Rattle.pm_stream.specs.Size.{count}
use Rattle.token_buffer.specs.Arguments.{after_arguments, past_arguments}
use Rattle.token_buffer.specs.Reads.{left}
use Rattle.token_buffer.proofs.cursor.Cursor.generic_arguments.Given as goal

-- the end of the arguments is that in the remaining trees
abbrev pub invariant-loop-first : goal.invariant-loop-first
invariant-loop-first l = past_arguments l.depth l.arrow (left l.here) ≡ after_arguments (left l.fn.self)

abbrev pub decreases-loop-first : goal.decreases-loop-first
decreases-loop-first l = count (left l.here)
