use Rattle.std.proofs.Common.{◌≡◌, ◌&&◌, length}
use Rattle.proc_macro2.specs.Trees.{forest}
use Rattle.proc_macro2.specs.WellSpaced.{well_spaced}
use Rattle.pm_stream.proofs.SpacedLemmas.{left_spaced}
use Rattle.quoting.specs.Fault.{first_fault}
use Rattle.quoting.proofs.FaultLemmas.{left_fault}
use Rattle.quoting.proofs.faults.are_well_spaced.Given as goal

abbrev pub invariant-loop-steps : goal.invariant-loop-steps
invariant-loop-steps l = record {
  fault : left_fault l.steps ≡ first_fault (forest l.fn.trees);
  fits : (l.spaced && left_spaced l.steps) ≡ well_spaced (forest l.fn.trees);
}

abbrev pub decreases-loop-steps : goal.decreases-loop-steps
decreases-loop-steps l = length l.steps
