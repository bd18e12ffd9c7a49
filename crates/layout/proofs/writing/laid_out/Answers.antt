use Rattle.std.proofs.Common.{length, ap, arith}
use Rattle.pm_stream.specs.Steps.{step_of}
use Rattle.pm_stream.proofs.StepLemmas.{takes_first}
use Rattle.layout.specs.Writing.{before_of, event_of, step_before}
use Rattle.layout.proofs.HeldLemmas.{held_next}
use Rattle.layout.proofs.WritingLemmas.{none_taken, string_chars}
use Rattle.layout.proofs.WrittenLemmas.{writes_first, writes_next, writes_last}
use Rattle.layout.proofs.writing.laid_out.Goals as goal

pub loop-steps-init : goal.loop-steps-init
loop-steps-init g c = (
  tt,
  writes_first g.C.Chooser.gap_gives _ _ _ _ c.in_ok-text.ensures c.steps-steps.ensures,
)

pub loop-steps-smaller : goal.loop-steps-smaller
loop-steps-smaller g c = omega (arith, ap length (takes_first _ _ _ _ c.in-Some.is c.in_ok-step.ensures.ok))

pub loop-steps-preserved : goal.loop-steps-preserved
loop-steps-preserved g c =
    let step = step_of c.in-Some.step in
    let left = takes_first _ _ _ _ c.in-Some.is c.in_ok-step.ensures.ok in (
      held_next (before_of c.loop-steps.before) c.gap-chosen.result (event_of step) _
          c.in_ok-push_fitting.ensures.held_back,
      rw c.depth_past-depth.ensures (writes_next g.C.Chooser.gap_gives _ c.loop-steps.chooser c.gap-chosen.new.self
          c.args.stream.now c.loop-steps.text c.push_fitting.new.text c.loop-steps.held _
          (step_before c.loop-steps.before) c.loop-steps.depth step c.loop-steps.steps c.next.new.self
          c.gap-chosen.result c.loop-steps.invariant.1 c.loop-steps.invariant.0 left
          (rw c.depth_at.ensures at c.gap-chosen.ensures) c.in_ok-push_fitting.ensures.appended
          c.in_ok-push_fitting.ensures.held_back),
    )

pub returns : goal.returns
returns g c =
    rw (string_chars c.into_string.result _ c.into_string.ensures)
    (writes_last g.C.Chooser.gap_gives _ c.loop-steps.chooser c.gap-last.new.self c.args.stream.now c.loop-steps.text _
    c.loop-steps.held (step_before c.loop-steps.before) c.loop-steps.depth c.loop-steps.steps c.gap-last.result
    c.loop-steps.invariant.1 (none_taken _ _ _ c.in_default.is c.in_ok-step.ensures.ok) c.gap-last.ensures
    c.in_ok-push_end.ensures)
