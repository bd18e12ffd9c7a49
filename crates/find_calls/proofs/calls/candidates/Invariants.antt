use Rattle.std.proofs.Common.{◌≡◌, ◌+◌, ◌*◌, reverse}
use Rattle.pm_stream.specs.Size.{count}
use Rattle.token_buffer.specs.Reads.{left}
use Rattle.find_calls.specs.Calls.{calls}
use Rattle.find_calls.specs.Opened.{is_in_angle, rests_steps}
use Rattle.find_calls.proofs.SearchLemmas.{AreAll, at}
use Rattle.find_calls.proofs.calls.candidates.Given as goal

abbrev pub invariant-loop-first : goal.invariant-loop-first
invariant-loop-first l =
    AreAll l.name (at l.found.items l.defined (left l.cursor) (reverse l.opened.items))
    (calls l.fn.name (left l.fn.cursor))
    × (l.in_arguments ≡ is_in_angle (reverse l.opened.items))

abbrev pub decreases-loop-first : goal.decreases-loop-first
decreases-loop-first l = 2 * count (left l.cursor) + rests_steps (reverse l.opened.items)
