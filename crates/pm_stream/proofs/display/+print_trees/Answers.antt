use Rattle.std.proofs.Common.{rules, ◌<◌, [], ◌++◌, length, refl, ap, true, ◌∙◌, arith}
use Rattle.pm_stream.specs.Steps.{steps}
use Rattle.pm_stream.specs.Trees.{forest}
use Rattle.pm_stream.proofs.PrintLemmas.{steps_text-steps, text_over, text_step, written_more, written_two}
use Rattle.pm_stream.proofs.StepLemmas.{inside_less, over_less, takes_first}
use Rattle.pm_stream.proofs.display.+print_trees.Goals as goal

pub loop-steps-init : goal.loop-steps-init
loop-steps-init g t c =
    record {
      within = omega (arith, ap length c.new-steps.ensures);
      written = λ plain. ([], search rules, rw c.new-steps.ensures (steps_text-steps c.args.within _));
    }

pub loop-steps-preserved-in-Continue-1 : goal.loop-steps-preserved-in-Continue-1
loop-steps-preserved-in-Continue-1 g t c =
    let first = takes_first _ _ _ _ c.in-Ok-Some.field-0-is c.in-Ok-Some.ensures.ok in
    record {
      within = omega (arith, c.loop-steps.invariant.within, ap length first);
      written = λ plain.
          let now = c.loop-steps.invariant.written plain in
          let more = c.in_ok-print_step-in-Ok-Some.ensures.writes now.1.plain (refl {a = true}) in
          written_more _ _ _ _ _ _ _ _ now.1 more
          (ap (λ l. now.0 ++ l) (text_step c.loop-steps.gap _ _ _ _ _ first
          (search (rules, c.in-Ok-Some.step-is)) c.in_ok-print_step-in-Ok-Some.ensures.gap) ∙ now.2);
    }

pub print_trees-requires : goal.print_trees-requires
print_trees-requires g t c κs within =
    let below : length (steps (forest c.trees-inside.result.now)) < t =
    inside_less _ _ _ _ _ _ _ c.in-Err.ensures.err c.in-Some.ensures
    (c.trees-inside.ensures.value ∙ c.stream_ref.ensures.value)
    (omega (arith, c.loop-steps.invariant.within, c.decreases)) in
    search (rules, below, within)

pub loop-steps-smaller : goal.loop-steps-smaller
loop-steps-smaller g t c = over_less _ _ _ _ _ c.in-Err.ensures.err c.in-Some.ensures

pub loop-steps-preserved : goal.loop-steps-preserved
loop-steps-preserved g t c =
    record {
      within = omega (
        arith,
        c.loop-steps.invariant.within,
        over_less _ _ _ _ _ c.in-Err.ensures.err c.in-Some.ensures,
      );
      written = λ plain.
          let now = c.loop-steps.invariant.written plain in
          let spaced = c.in_ok-print_space-in-Err.ensures now.1.plain (refl {a = true}) in
          let opened = c.in_ok-print_opening-in-Err.ensures spaced.plain (refl {a = true}) in
          let inside = c.in_ok-print_trees-in-Err.ensures opened.plain (refl {a = true}) in
          let ended = c.in_ok-print_ending-in-Err.ensures inside.plain (refl {a = true}) in
          written_more _ _ _ _ _ _ _ _ now.1
          (written_two _ _ _ _ _ _ spaced (written_two _ _ _ _ _ _ opened (written_two _ _ _ _ _ _ inside ended)))
          (ap (λ l. now.0 ++ l)
          (text_over _ _ _ _ _ _ _ _ _ c.in-Err.ensures.err c.in-Some.ensures c.delimiter-around.ensures
          c.is_brace.ensures (c.trees-inside.ensures.value ∙ c.stream_ref.ensures.value))
          ∙ now.2);
    }
