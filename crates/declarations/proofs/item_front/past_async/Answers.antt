use Rattle.declarations.proofs.ItemFrontLemmas.{async_gen, async_none, async_plain}
use Rattle.declarations.proofs.item_front.past_async.Goals as goal

pub returns-then-is : goal.returns-then-is
returns-then-is c =
    async_gen c.args.trees.now c.in-Some.rest.now c.in-Some.class c.is.result c.past_gen.result c.in-Some.ensures
    c.is.ensures c.if-is.true c.past_gen.ensures

pub returns-else-is : goal.returns-else-is
returns-else-is c =
    async_plain c.args.trees.now c.in-Some.rest.now c.in-Some.class c.is.result c.past_gen-else-is.result
    c.in-Some.ensures c.is.ensures c.if-is.false c.past_gen-else-is.ensures

pub returns-in-None : goal.returns-in-None
returns-in-None c = async_none c.args.trees.now c.in-None.ensures
