use Rattle.std.proofs.Common.{◌∙◌, ap, is_some, sym}
use Rattle.item_tables.specs.Walk.{step}
use Rattle.declarations.proofs.ExpectedLemmas.{so_far_all, so_far_with, so_far_without}
use Rattle.declarations.proofs.walk.steps_among.Goals as goal
use Rattle.declarations.proofs.walk.steps_among.Goals.{else-is_some, then-is_some}

pub loop-class-preserved : goal.loop-class-preserved
loop-class-preserved c =
    let found = c.loop-class.found in
    let n = c.loop-class.class-index in
    let tested = c.is_some.ensures ∙ ap is_some c.step.ensures.value in
    elim c.if-is_some.branch [
      | then-is_some w ↦
          so_far_with (λ x. is_some (step c.args.place x)) c.args.classes.now n _ found w.with-found.result
          c.if-is_some.found c.loop-class-test.true (sym tested ∙ w.if-is_some.true) c.loop-class.invariant
          w.with-found.ensures w.found-is
      | else-is_some w ↦
          so_far_without (λ x. is_some (step c.args.place x)) c.args.classes.now n _ found c.if-is_some.found
          c.loop-class-test.true (sym tested ∙ w.if-is_some.false) c.loop-class.invariant w.found-is
    ]

pub returns : goal.returns
returns c =
    so_far_all (λ x. is_some (step c.args.place x)) c.args.classes.now c.loop-class.class-index c.loop-class.found
    c.loop-class-test.false c.loop-class.invariant
