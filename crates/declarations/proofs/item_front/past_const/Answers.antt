use Rattle.declarations.proofs.ConstantLemmas.{const_async, const_function, const_none, const_trait, const_unsafe}
use Rattle.declarations.proofs.item_front.past_const.Goals as goal

pub returns-then-is : goal.returns-then-is
returns-then-is c =
    const_async c.args.trees.now c.in-Some.rest.now c.in-Some.class c.is.result c.past_async.result
    c.in-Some.ensures c.is.ensures c.if-is.true c.past_async.ensures

pub returns-then-is-2 : goal.returns-then-is-2
returns-then-is-2 c =
    const_unsafe c.args.trees.now c.in-Some.rest.now c.in-Some.class c.is-in-Some.result
    c.past_function_front.result c.in-Some.ensures c.is-in-Some.ensures c.if-is-2.true
    c.past_function_front.ensures

pub returns-then-is-3 : goal.returns-then-is-3
returns-then-is-3 c =
    const_trait c.args.trees.now c.in-Some.rest.now c.in-Some.class c.is-in-Some-2.result c.past_trait.result
    c.in-Some.ensures c.is-in-Some-2.ensures c.if-is-3.true c.past_trait.ensures

pub returns-then-is_new_name : goal.returns-then-is_new_name
returns-then-is_new_name c = c.past_const_word.ensures

pub returns-else-is_new_name : goal.returns-else-is_new_name
returns-else-is_new_name c =
    const_function c.args.trees.now c.in-Some.rest.now c.in-Some.class c.is.result c.is-in-Some.result
    c.is-in-Some-2.result c.is_new_name.result c.past_function_front-in-Some.result c.in-Some.ensures c.is.ensures
    c.if-is.false c.is-in-Some.ensures c.if-is-2.false c.is-in-Some-2.ensures c.if-is-3.false c.is_new_name.ensures
    c.if-is_new_name.false c.past_function_front-in-Some.ensures

pub returns-in-None : goal.returns-in-None
returns-in-None c = const_none c.args.trees.now c.in-None.ensures
