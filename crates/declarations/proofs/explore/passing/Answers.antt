use Rattle.std.proofs.Common.{◌∙◌, sym}
use Rattle.declarations.specs.Syntax.{test_of}
use Rattle.declarations.proofs.ExpectedLemmas.{so_far_all, so_far_with, so_far_without}
use Rattle.declarations.proofs.explore.passing.Goals as goal
use Rattle.declarations.proofs.explore.passing.Goals.{else-passes, then-passes}

pub loop-class-preserved : goal.loop-class-preserved
loop-class-preserved c =
    let found = c.loop-class.found in
    let n = c.loop-class.class-index in
    elim c.if-passes.branch [
      | then-passes w ↦
          so_far_with (test_of c.args.test) c.args.classes.now n _ found w.with-found.result c.if-passes.found
          c.loop-class-test.true (sym c.passes.ensures ∙ w.if-passes.true) c.loop-class.invariant
          w.with-found.ensures w.found-is
      | else-passes w ↦
          so_far_without (test_of c.args.test) c.args.classes.now n _ found c.if-passes.found c.loop-class-test.true
          (sym c.passes.ensures ∙ w.if-passes.false) c.loop-class.invariant w.found-is
    ]

pub returns : goal.returns
returns c =
    so_far_all (test_of c.args.test) c.args.classes.now c.loop-class.class-index c.loop-class.found
    c.loop-class-test.false c.loop-class.invariant
