use Rattle.std.proofs.Common.{rules, ap, arith, ◌∙◌}
use Rattle.std.proofs.lemmas.List.{length-drop, take_all}
use Rattle.pm_stream.specs.Steps.{trees_given}
use Rattle.pm_stream.proofs.StepLemmas.{passed_group, passed_last, passed_none}
use Rattle.pm_stream.proofs.steps.Steps.pass_trees.Goals as goal

pub loop-self-init : goal.loop-self-init
loop-self-init c = λ passed rest size is. (passed, size, ap trees_given c.self.view_is ∙ is)

pub returns-in_default : goal.returns-in_default
returns-in_default c = λ passed rest size is.
    absurd (passed_none _ _ _ c.loop-self.self-inside.outer.items _ c.loop-self-test.true
    (search (rules, c.in_default.ensures.cases)) c.loop-self.invariant passed rest size is)

pub loop-self-preserved : goal.loop-self-preserved
loop-self-preserved c =
    passed_group _ _ _ _ _ _ _ c.loop-self-test.true c.in-Some.ensures.items c.loop-self.invariant

pub returns : goal.returns
returns c = λ passed rest size is.
    passed_last _ _ _ c.loop-self.self-inside.outer.items _ _ c.loop-self-test.false
    (take_all _ _ (omega (arith, length-drop c.loop-self.count c.loop-self.self-inside.left.now)))
    c.loop-self.invariant passed rest size is
