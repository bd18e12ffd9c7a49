use Rattle.declarations.proofs.ItemKindLemmas.{unsafe_auto, unsafe_not}
use Rattle.declarations.proofs.item_kinds.past_unsafe.Goals as goal

pub returns-then-is : goal.returns-then-is
returns-then-is c =
    unsafe_auto c.args.trees.now c.in-Some.rest.now c.in-Some.class c.is.result c.past_auto.result c.in-Some.ensures
    c.is.ensures c.if-is.true c.past_auto.ensures

pub returns-else-is : goal.returns-else-is
returns-else-is c =
    unsafe_not c.args.trees.now c.in-Some.rest.now c.in-Some.class c.is.result c.in-Some.ensures
    c.in_default.not-Keyword c.is.ensures c.if-is.false
