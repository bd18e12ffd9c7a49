use Rattle.declarations.proofs.ItemFrontLemmas.{front_extern, front_none, front_plain}
use Rattle.declarations.proofs.item_front.past_function_front.Goals as goal

pub returns-then-is : goal.returns-then-is
returns-then-is c =
    front_extern c.args.trees.now c.in-Some.rest.now c.in-Some.class c.is.result c.past_abi.result
    c.in-Some.ensures c.is.ensures c.if-is.true c.past_abi.ensures

pub returns-else-is : goal.returns-else-is
returns-else-is c =
    front_plain c.args.trees.now c.in-Some.rest.now c.in-Some.class c.is.result c.past_fn.result c.in-Some.ensures
    c.is.ensures c.if-is.false c.past_fn.ensures

pub returns-in-None : goal.returns-in-None
returns-in-None c = front_none c.args.trees.now c.in-None.ensures
