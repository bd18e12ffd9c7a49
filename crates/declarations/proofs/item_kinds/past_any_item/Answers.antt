use Rattle.declarations.proofs.AnyItemLemmas.{any_attributes, any_reads}
use Rattle.declarations.proofs.item_kinds.past_any_item.Goals as goal

pub returns-in-Ok : goal.returns-in-Ok
returns-in-Ok c =
    any_reads c.args.trees.now c.in-Ok.rest.now c.past_any_rest.result c.in-Ok.ensures c.past_any_rest.ensures

pub returns-in-Err : goal.returns-in-Err
returns-in-Err c = any_attributes c.args.trees.now c.in-Err.left.now c.in-Err.ensures
