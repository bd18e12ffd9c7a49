use Rattle.declarations.proofs.ItemFrontLemmas.{gen_none, gen_plain, gen_safe}
use Rattle.declarations.proofs.item_front.past_gen.Goals as goal

pub returns-then-is_safe : goal.returns-then-is_safe
returns-then-is_safe c =
    gen_safe c.args.trees.now c.in-Some.rest.now c.in-Some.class c.is_safe.result c.past_function_front.result
    c.in-Some.ensures c.is_safe.ensures c.if-is_safe.true c.past_function_front.ensures

pub returns-else-is_safe : goal.returns-else-is_safe
returns-else-is_safe c =
    gen_plain c.args.trees.now c.in-Some.rest.now c.in-Some.class c.is_safe.result
    c.past_function_front-else-is_safe.result c.in-Some.ensures c.is_safe.ensures c.if-is_safe.false
    c.past_function_front-else-is_safe.ensures

pub returns-in-None : goal.returns-in-None
returns-in-None c = gen_none c.args.trees.now c.in-None.ensures
