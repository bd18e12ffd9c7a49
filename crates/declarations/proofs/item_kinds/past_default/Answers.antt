use Rattle.declarations.proofs.ItemKindLemmas.{default_gen, default_none, default_not, default_safe}
use Rattle.declarations.proofs.item_kinds.past_default.Goals as goal

pub returns-then-is : goal.returns-then-is
returns-then-is c =
    default_gen c.args.trees.now c.in-Some.rest.now c.in-Some.class c.is.result c.past_gen.result c.in-Some.ensures
    c.is.ensures c.if-is.true c.past_gen.ensures

pub returns-then-is-2 : goal.returns-then-is-2
returns-then-is-2 c =
    default_safe c.args.trees.now c.in-Some.rest.now c.in-Some.class c.is-in_default.result
    c.past_function_front.result c.in-Some.ensures c.is-in_default.ensures c.if-is-2.true
    c.past_function_front.ensures

pub returns-in-Keyword : goal.returns-in-Keyword
returns-in-Keyword c = c.default_item.ensures

pub returns-else-is-2 : goal.returns-else-is-2
returns-else-is-2 c =
    default_not c.args.trees.now c.in-Some.rest.now c.in-Some.class c.is.result c.is-in_default.result
    c.in-Some.ensures c.in_default.not-Keyword c.is.ensures c.if-is.false c.is-in_default.ensures c.if-is-2.false

pub returns-in-None : goal.returns-in-None
returns-in-None c = default_none c.args.trees.now c.in-None.ensures
