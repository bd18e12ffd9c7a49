use Rattle.std.proofs.Common.{◌≡◌, ◌≤◌, length}
use Rattle.pm_stream.specs.Steps.{steps}
use Rattle.pm_stream.specs.Trees.{forest}
use Rattle.pm_stream.specs.WellSpaced.{well_spaced}
use Rattle.pm_stream.proofs.SpacedLemmas.{left_spaced}
use Rattle.pm_stream.proofs.well_spaced.+are_well_spaced.Given as goal

abbrev pub decreases-are_well_spaced : goal.decreases-are_well_spaced
decreases-are_well_spaced l = length (steps (forest l.trees.now))

abbrev pub invariant-loop-steps : goal.invariant-loop-steps
invariant-loop-steps l = record {
  spaced : left_spaced l.steps ≡ well_spaced (forest l.fn.trees);
  within : length l.steps ≤ length (steps (forest l.fn.trees));
}

abbrev pub decreases-loop-steps : goal.decreases-loop-steps
decreases-loop-steps l = length l.steps
