use Rattle.declarations.proofs.ItemKindLemmas.{crate_or_extern, crate_reads, extern_none}
use Rattle.declarations.proofs.item_kinds.past_extern.Goals as goal

pub returns-then-is : goal.returns-then-is
returns-then-is c =
    crate_reads c.args.trees.now c.in-Some.rest.now c.in-Some.class c.is.result c.named_item.result c.in-Some.ensures
    c.is.ensures c.if-is.true c.named_item.ensures

pub returns-else-is : goal.returns-else-is
returns-else-is c =
    crate_or_extern c.args.trees.now c.in-Some.rest.now c.in-Some.class c.is.result c.past_unsafe_extern.result
    c.in-Some.ensures c.is.ensures c.if-is.false c.past_unsafe_extern.ensures

pub returns-in-None : goal.returns-in-None
returns-in-None c = extern_none c.args.trees.now c.in-None.ensures
