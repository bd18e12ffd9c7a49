use Rattle.std.proofs.Common.{sym, [], ◌∙◌}
use Rattle.pm_stream.specs.StepsLeft.{ends_onto}
use Rattle.pm_stream.proofs.StepLemmas.{inside_group, into_group, out_of_group}
use Rattle.pm_stream.proofs.steps.Steps.next.Goals as goal

pub returns-in_default-clause-ok : goal.returns-in_default-clause-ok
returns-in_default-clause-ok c =
    sym c.self.view_is ∙ out_of_group _ _ _ _ c.in_default.ensures.cases c.in-Some-pop.ensures.items

pub returns-in-Group-clause-ok : goal.returns-in-Group-clause-ok
returns-in-Group-clause-ok c =
    sym c.self.view_is ∙ into_group c.self.inside.outer.items _ _ _ _ _ c.in-Some.ensures.cases.0 c.in-Group.is
    (c.trees-self-inside.ensures.value ∙ c.stream_ref.ensures.value) c.in_ok-push.ensures.items

pub returns-in-Group-clause-siblings : goal.returns-in-Group-clause-siblings
returns-in-Group-clause-siblings c = (
  ends_onto c.self.inside.outer.items [],
  inside_group _ _ _ _ (c.trees-self-inside.ensures.value ∙ c.stream_ref.ensures.value) c.in_ok-push.ensures.items,
)
