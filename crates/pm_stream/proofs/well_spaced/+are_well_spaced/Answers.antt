use Rattle.std.proofs.Common.{rules, ◌<◌, ◌&&◌, length, sym, ap, ◌∙◌, arith}
use Rattle.pm_stream.specs.Shown.{is_shown}
use Rattle.pm_stream.specs.Steps.{steps}
use Rattle.pm_stream.specs.Trees.{forest}
use Rattle.pm_stream.proofs.SpacedLemmas.{left_spaced, left_spaced-steps, spaced_over}
use Rattle.pm_stream.proofs.StepLemmas.{inside_less, over_less}
use Rattle.pm_stream.proofs.well_spaced.+are_well_spaced.Goals as goal

pub loop-steps-init : goal.loop-steps-init
loop-steps-init t c =
    record {
      spaced = ap left_spaced c.new-steps.ensures ∙ left_spaced-steps (forest c.args.trees.now);
      within = omega (arith, ap length c.new-steps.ensures);
    }

pub are_well_spaced-requires : goal.are_well_spaced-requires
are_well_spaced-requires t c =
    let below : length (steps (forest c.trees.result.now)) < t =
    inside_less _ _ _ _ _ _ _ c.in-Err.ensures.err c.in-Some.ensures
    (c.trees.ensures.value ∙ c.stream_ref.ensures.value)
    (omega (arith, c.loop-steps.invariant.within, c.decreases)) in
    search (rules, below)

pub loop-steps-smaller : goal.loop-steps-smaller
loop-steps-smaller t c = over_less _ _ _ _ _ c.in-Err.ensures.err c.in-Some.ensures

pub returns-then-not-are_well_spaced : goal.returns-then-not-are_well_spaced
returns-then-not-are_well_spaced t c =
    let looked =
    spaced_over _ _ _ _ _ _ _ _ c.in-Err.ensures.err c.in-Some.ensures
    (c.is_shown.ensures ∙ ap is_shown c.delimiter.ensures) c.if-not-is_shown.false
    (c.trees.ensures.value ∙ c.stream_ref.ensures.value) c.are_well_spaced.ensures in
    sym (sym c.loop-steps.invariant.spaced
    ∙ (looked ∙ ap (λ b. b && left_spaced c.pass_over.new.self) c.if-not-are_well_spaced.true))

pub loop-steps-preserved : goal.loop-steps-preserved
loop-steps-preserved t c =
    let looked =
    spaced_over _ _ _ _ _ _ _ _ c.in-Err.ensures.err c.in-Some.ensures
    (c.is_shown.ensures ∙ ap is_shown c.delimiter.ensures) c.if-not-is_shown.false
    (c.trees.ensures.value ∙ c.stream_ref.ensures.value) c.are_well_spaced.ensures in
    record {
      spaced =
          sym (looked ∙ ap (λ b. b && left_spaced c.pass_over.new.self) c.if-not-are_well_spaced.false)
          ∙ c.loop-steps.invariant.spaced;
      within = omega (
        arith,
        c.loop-steps.invariant.within,
        over_less _ _ _ _ _ c.in-Err.ensures.err c.in-Some.ensures,
      );
    }
