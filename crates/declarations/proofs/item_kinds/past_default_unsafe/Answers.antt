use Rattle.declarations.proofs.ItemKindLemmas.{default_unsafe_fn, default_unsafe_impl, default_unsafe_none}
use Rattle.declarations.proofs.item_kinds.past_default_unsafe.Goals as goal

pub returns-then-is : goal.returns-then-is
returns-then-is c =
    default_unsafe_impl c.args.trees.now c.in-Some.rest.now c.in-Some.class c.is.result c.named_item.result
    c.in-Some.ensures c.is.ensures c.if-is.true c.named_item.ensures

pub returns-else-is : goal.returns-else-is
returns-else-is c =
    default_unsafe_fn c.args.trees.now c.in-Some.rest.now c.in-Some.class c.is.result c.past_function_front.result
    c.in-Some.ensures c.is.ensures c.if-is.false c.past_function_front.ensures

pub returns-in-None : goal.returns-in-None
returns-in-None c = default_unsafe_none c.args.trees.now c.in-None.ensures
