use Rattle.std.proofs.Common.{codes, refl}
use Rattle.std.proofs.lemmas.Bool.{or_from}
use Rattle.lexical.proofs.RuleSteps.{lacks_text}
use Rattle.explain.proofs.comment_hints.sign_at.Goals as goal

pub returns : goal.returns
returns c = (
  c.in_ok-after.field-0-0,
  c.in_ok-after.ensures.0,
  c.in_ok-after.ensures.1,
  or_from _ _ (lacks_text (codes "/*") _ c.in_default.ensures)
      (or_from _ _ (lacks_text (codes "*/") _ c.in_default-past.ensures) refl),
)
