use Rattle.std.proofs.Common.{sym, ap, refl, ◌∙◌}
use Rattle.pm_stream.specs.Steps.{front_tree}
use Rattle.pm_stream.proofs.StepLemmas.{enters_none, front-none}
use Rattle.pm_stream.proofs.steps.Steps.pass_over.Goals as goal

pub returns-in_default : goal.returns-in_default
returns-in_default c = (
  enters_none _ _
      (ap front_tree (sym c.self.view_is) ∙ front-none c.self.inside.outer.items _ c.in_default.ensures.cases)
      (λ g e. absurd cc),
  refl,
)
