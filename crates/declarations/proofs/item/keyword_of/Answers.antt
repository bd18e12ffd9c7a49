use Rattle.std.proofs.Common.{◌∙◌, sym}
use Rattle.declarations.proofs.ItemLemmas.{keyword_at, other_keyword}
use Rattle.declarations.proofs.item.keyword_of.Goals as goal

pub returns-in-Some : goal.returns-in-Some
returns-in-Some c =
    keyword_at c.args.trees.now c.in-Ok.rest.now c.in-Ok.keyword.now c.name_class.result c.in-Some.declared
    c.in-Ok.ensures.found c.name_class.ensures (sym c.declared_by.ensures ∙ c.in-Some.is)

pub returns-in-None : goal.returns-in-None
returns-in-None c =
    other_keyword c.args.trees.now c.in-Ok.rest.now c.in-Ok.keyword.now c.name_class.result c.in-Ok.ensures.found
    c.name_class.ensures (sym c.declared_by.ensures ∙ c.in-None.is)
