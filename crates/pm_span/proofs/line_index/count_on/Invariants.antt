use Rattle.std.proofs.Common.{◌-◌, length}
use Rattle.pm_span.specs.LineIndex.{AreUpTo}
use Rattle.pm_span.proofs.line_index.count_on.Given as goal

-- all offsets so far are at most `char_offset`
abbrev pub invariant-loop-count : goal.invariant-loop-count
invariant-loop-count l = AreUpTo l.offsets l.count l.char_offset

abbrev pub decreases-loop-count : goal.decreases-loop-count
decreases-loop-count l = length l.offsets - l.count
