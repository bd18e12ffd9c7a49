use Rattle.pm_stream.proofs.StepLemmas.{inside_next}
use Rattle.pm_stream.proofs.walk.Walk.next.Goals as goal

pub returns-then-is_some-clause-inside : goal.returns-then-is_some-clause-inside
returns-then-is_some-clause-inside c =
    inside_next _ c.in_ok-step.step _ _ c.front-tree.ensures c.in_ok-step.ensures.ok c.in_ok-step.ensures.siblings
