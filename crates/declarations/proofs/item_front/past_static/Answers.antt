use Rattle.declarations.proofs.ConstantLemmas.{static_item, static_sticks}
use Rattle.declarations.proofs.item_front.past_static.Goals as goal

pub returns-in-Ok : goal.returns-in-Ok
returns-in-Ok c =
    static_item c.args.trees.now c.may-from_name.result.now c.in-Ok.rest.now c.may-from_name.ensures c.in-Ok.ensures

pub returns-in-Err : goal.returns-in-Err
returns-in-Err c =
    static_sticks c.args.trees.now c.may-from_name.result.now c.in-Err.left.now c.may-from_name.ensures
    c.in-Err.ensures
