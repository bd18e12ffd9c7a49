use Rattle.std.proofs.Common.{◌∙◌, ap}
use Rattle.declarations.specs.Signs.{is_pub}
use Rattle.declarations.proofs.SignLemmas.{visibility_first}
use Rattle.declarations.proofs.signs.is_visibility.Goals as goal

pub returns-in-Ident : goal.returns-in-Ident
returns-in-Ident c =
    c.is_pub.ensures ∙ ap (is_pub c.in-Ident.ident) c.may_restrict.ensures
    ∙ visibility_first c.args.inside.now c.trees.result.now c.in-Some.first.now c.in-Some.rest.now c.in-Ident.ident
    c.trees.ensures.value c.in-Some.ensures.cases.0 c.in-Ident.is
