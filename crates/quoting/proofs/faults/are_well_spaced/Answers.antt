use Rattle.std.proofs.Common.{sym, ap, ◌∙◌}
use Rattle.std.proofs.lemmas.Option.{MatchOption-at_some}
use Rattle.proc_macro2.specs.Steps.{step_of}
use Rattle.proc_macro2.specs.Trees.{forest}
use Rattle.pm_stream.proofs.SpacedLemmas.{left_spaced, left_spaced-steps}
use Rattle.quoting.specs.Searched.{step_fault}
use Rattle.quoting.proofs.FaultLemmas.{left_fault, left_fault-steps, spaced_on, step_clean}
use Rattle.quoting.proofs.SearchLemmas.{found_later}
use Rattle.quoting.proofs.faults.are_well_spaced.Goals as goal

pub loop-steps-init : goal.loop-steps-init
loop-steps-init c = record {
  fault = ap left_fault c.new-steps.ensures ∙ left_fault-steps (forest c.args.trees.now);
  fits = ap left_spaced c.new-steps.ensures ∙ left_spaced-steps (forest c.args.trees.now);
}

pub loop-steps-preserved : goal.loop-steps-preserved
loop-steps-preserved c =
    let first = MatchOption-at_some _ _ _ c.in-Some.is c.in_ok-step.ensures.ok in
    let fits = sym c.step_fits.ensures ∙ c.if-not-step_fits.false in
    record {
      fault = found_later step_fault _ _ _ first (step_clean (step_of c.in-Some.step) fits)
          ∙ c.loop-steps.invariant.fault;
      fits = spaced_on c.loop-steps.spaced _ _ _ first fits ∙ c.loop-steps.invariant.fits;
    }
