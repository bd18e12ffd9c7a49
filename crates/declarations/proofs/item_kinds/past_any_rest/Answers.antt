use Rattle.declarations.proofs.AnyItemLemmas.{private_shown, shown_item}
use Rattle.declarations.proofs.item_kinds.past_any_rest.Goals as goal

pub returns-in-Some : goal.returns-in-Some
returns-in-Some c =
    shown_item c.args.trees.now c.in-Some.rest.now c.past_declaration.result c.in-Some.ensures
    c.past_declaration.ensures

pub returns-in-None : goal.returns-in-None
returns-in-None c = private_shown c.args.trees.now c.past_private.result c.in-None.ensures c.past_private.ensures
