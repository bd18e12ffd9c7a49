use Rattle.std.proofs.Common.{◌∷◌, ap, sym, ◌∙◌}
use Rattle.std.specs.Str.{chars}
use Rattle.pm_token.proofs.TextBuilderLemmas.{plain_between}
use Rattle.pm_token.proofs.literals.quoted.plain_character.Goals as goal

pub returns-clause-value : goal.returns-clause-value
returns-clause-value c =
    c.in_ok-text.ensures.value
    ∙ (ap (λ bytes. chars (39 ∷ bytes)) c.in-Ok.ensures.cases.0
    ∙ plain_between c.args.c (sym c.stands_for_itself.ensures ∙ c.if-not-stands_for_itself.false))
