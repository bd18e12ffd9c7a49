use Rattle.declarations.proofs.ConstantLemmas.{safe_fn, safe_none, safe_static}
use Rattle.declarations.proofs.item_front.past_safe.Goals as goal

pub returns-then-is : goal.returns-then-is
returns-then-is c =
    safe_static c.args.trees.now c.in-Some.rest.now c.in-Some.class c.is.result c.past_static.result
    c.in-Some.ensures c.is.ensures c.if-is.true c.past_static.ensures

pub returns-else-is : goal.returns-else-is
returns-else-is c =
    safe_fn c.args.trees.now c.in-Some.rest.now c.in-Some.class c.is.result c.past_function_front.result
    c.in-Some.ensures c.is.ensures c.if-is.false c.past_function_front.ensures

pub returns-in-None : goal.returns-in-None
returns-in-None c = safe_none c.args.trees.now c.in-None.ensures
