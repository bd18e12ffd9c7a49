use Rattle.std.proofs.Common.{◌∙◌}
use Rattle.declarations.proofs.SignLemmas.{restriction_first}
use Rattle.declarations.proofs.signs.is_restriction.Goals as goal

pub returns-in-Ident : goal.returns-in-Ident
returns-in-Ident c =
    c.restricts.ensures
    ∙ restriction_first c.args.inside.now c.trees.result.now c.in-Some.first.now c.in-Some.rest.now c.in-Ident.ident
    c.is_empty.result c.trees.ensures.value c.in-Some.ensures.cases.0 c.in-Ident.is c.is_empty.ensures
