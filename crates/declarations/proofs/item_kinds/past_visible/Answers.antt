use Rattle.declarations.proofs.AnyItemLemmas.{not_visible, visible_group, visible_none, visible_public}
use Rattle.declarations.proofs.item_kinds.past_visible.Goals as goal

pub returns-then-is : goal.returns-then-is
returns-then-is c =
    visible_public c.args.trees.now c.in-Some.rest.now c.may.result.now c.in-Some.class c.is.result c.in-Some.ensures
    c.is.ensures c.if-is.true c.may.ensures

pub returns-then-is-2 : goal.returns-then-is-2
returns-then-is-2 c =
    visible_group c.args.trees.now c.in-Some.rest.now c.in-Some.class c.is.result c.is-in-Some.result
    c.in-Some.ensures c.is.ensures c.if-is.false c.is-in-Some.ensures c.if-is-2.true

pub returns-else-is-2 : goal.returns-else-is-2
returns-else-is-2 c =
    not_visible c.args.trees.now c.in-Some.rest.now c.in-Some.class c.is.result c.is-in-Some.result c.in-Some.ensures
    c.is.ensures c.if-is.false c.is-in-Some.ensures c.if-is-2.false

pub returns-in-None : goal.returns-in-None
returns-in-None c = visible_none c.args.trees.now c.in-None.ensures
