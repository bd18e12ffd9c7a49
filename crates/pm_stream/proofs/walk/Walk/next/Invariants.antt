use Rattle.std.proofs.Common.{◌≡◌, length}
use Rattle.pm_stream.specs.Steps.{trees_given}
use Rattle.pm_stream.proofs.walk.Walk.next.Given as goal

abbrev pub invariant-loop-step : goal.invariant-loop-step
invariant-loop-step l = trees_given l.self-inside.steps ≡ l.fn.self

abbrev pub decreases-loop-step : goal.decreases-loop-step
decreases-loop-step l = length l.self-inside.steps
