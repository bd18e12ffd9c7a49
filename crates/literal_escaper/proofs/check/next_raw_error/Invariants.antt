use Rattle.std.proofs.Common.{◌≡◌, length}
use Rattle.literal_escaper.specs.Errors.{errors_among}
use Rattle.literal_escaper.specs.Unescaping.{raw_left}
use Rattle.literal_escaper.proofs.check.next_raw_error.Given as goal

abbrev pub invariant-loop-range : goal.invariant-loop-range
invariant-loop-range g l =
    errors_among (raw_left g.K.CheckRaw.unit_of l.cursor)
    ≡ errors_among (raw_left g.K.CheckRaw.unit_of l.initial.cursor)

abbrev pub decreases-loop-range : goal.decreases-loop-range
decreases-loop-range g l = length (raw_left g.K.CheckRaw.unit_of l.cursor)
