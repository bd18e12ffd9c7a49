use Rattle.std.proofs.Common.{◌∙◌, sym}
use Rattle.declarations.specs.Syntax.{test_of}
use Rattle.declarations.proofs.GoalLemmas.{needs_sign, needs_some}
use Rattle.declarations.proofs.explore.first_that_passes.Goals as goal

pub returns-then-passes : goal.returns-then-passes
returns-then-passes c = (c.in-Some.class, c.in-Some.ensures, sym c.passes.ensures ∙ c.if-passes.true)

pub returns-else-passes : goal.returns-else-passes
returns-else-passes c = (
  c.no_sign.ensures.left,
  needs_sign (test_of c.args.test) c.args.trees.now c.in-Some.rest.now c.in-Some.class c.no_sign.result
      c.in-Some.ensures (sym c.passes.ensures ∙ c.if-passes.false) c.no_sign.ensures.left c.no_sign.ensures.next,
)

pub returns-in-None : goal.returns-in-None
returns-in-None c = (
  c.no_sign-in-None.ensures.left,
  needs_some (test_of c.args.test) c.args.trees.now c.no_sign-in-None.result c.in-None.ensures
      c.no_sign-in-None.ensures.left c.no_sign-in-None.ensures.next,
)
