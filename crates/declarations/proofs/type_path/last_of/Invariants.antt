use Rattle.std.proofs.Common.{length}
use Rattle.declarations.proofs.TypePathLemmas.{IsAt}
use Rattle.declarations.proofs.type_path.last_of.Given as goal

abbrev pub invariant-loop-step : goal.invariant-loop-step
invariant-loop-step l = IsAt l.fn.first l.segment

abbrev pub decreases-loop-step : goal.decreases-loop-step
decreases-loop-step l = length l.segment.from_arguments.now
