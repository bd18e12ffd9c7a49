use Rattle.std.proofs.Common.{sym, ap, ◌∙◌}
use Rattle.pm_stream.specs.Steps.{front_tree}
use Rattle.pm_stream.proofs.StepLemmas.{front-none, front-some}
use Rattle.pm_stream.proofs.steps.Steps.front.Goals as goal

pub returns-in_default : goal.returns-in_default
returns-in_default c =
    sym (ap front_tree (sym c.self.view_is) ∙ front-none c.self.inside.outer.items _ c.in_default.ensures.cases)

pub returns : goal.returns
returns c =
    sym (ap front_tree (sym c.self.view_is) ∙ front-some c.self.inside.outer.items _ _ _ c.in-Some.ensures.cases.0)
