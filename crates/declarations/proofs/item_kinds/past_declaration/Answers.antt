use Rattle.declarations.proofs.DeclarationLemmas.{declaration_not}
use Rattle.declarations.proofs.item_kinds.past_declaration.Goals as goal

pub returns-in_default : goal.returns-in_default
returns-in_default c =
    declaration_not c.args.trees.now c.in-Some.rest.now c.in-Some.class c.in-Some.ensures c.in_default.not-Keyword
    c.in_default.not-Word
