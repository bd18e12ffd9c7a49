use Rattle.std.proofs.Common.{vec_len}
use Rattle.pm_stream.specs.Steps.{trees_given}
use Rattle.pm_stream.specs.StepsLeft.{steps_left}
use Rattle.pm_stream.proofs.StepLemmas.{StillPasses}
use Rattle.pm_stream.proofs.steps.Steps.pass_trees.Given as goal

abbrev pub invariant-loop-self : goal.invariant-loop-self
invariant-loop-self l =
    StillPasses l.fn.count (trees_given l.fn.self) l.count (steps_left l.self-inside.outer.items l.self-inside.left.now)

abbrev pub decreases-loop-self : goal.decreases-loop-self
decreases-loop-self l = vec_len l.self-inside.outer
