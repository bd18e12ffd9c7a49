use Rattle.std.proofs.Common.{◌≡◌, length}
use Rattle.literal_escaper.specs.Errors.{errors_among}
use Rattle.literal_escaper.specs.Unescaping.{cooked_left}
use Rattle.literal_escaper.proofs.check.next_error.Given as goal

abbrev pub invariant-loop-range : goal.invariant-loop-range
invariant-loop-range g l =
    errors_among (cooked_left g.K.Unescape.kind l.content)
    ≡ errors_among (cooked_left g.K.Unescape.kind l.initial.content)

abbrev pub decreases-loop-range : goal.decreases-loop-range
decreases-loop-range g l = length (cooked_left g.K.Unescape.kind l.content)
