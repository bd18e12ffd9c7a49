use Rattle.declarations.proofs.ItemFrontLemmas.{fn_none, fn_not, fn_reads}
use Rattle.declarations.proofs.item_front.past_fn.Goals as goal

pub returns-then-is : goal.returns-then-is
returns-then-is c =
    fn_reads c.args.trees.now c.in-Some.rest.now c.in-Some.class c.is.result c.named_item.result c.in-Some.ensures
    c.is.ensures c.if-is.true c.named_item.ensures

pub returns-else-is : goal.returns-else-is
returns-else-is c =
    fn_not c.args.trees.now c.in-Some.rest.now c.in-Some.class c.is.result c.in-Some.ensures c.is.ensures
    c.if-is.false

pub returns-in-None : goal.returns-in-None
returns-in-None c = fn_none c.args.trees.now c.in-None.ensures

pub named_item-requires : goal.named_item-requires
named_item-requires c = c.past_function.ensures
