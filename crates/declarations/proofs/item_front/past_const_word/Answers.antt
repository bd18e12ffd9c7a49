use Rattle.declarations.proofs.ConstantLemmas.{gen_constant, gen_function, plain_constant, safe_constant, safe_function}
use Rattle.declarations.proofs.item_front.past_const_word.Goals as goal

pub returns-then-begins_function : goal.returns-then-begins_function
returns-then-begins_function c =
    safe_function c.args.trees.now c.args.rest.now c.args.class c.is.result c.begins_function.result
    c.past_function_front.result c.requires.begins c.is.ensures c.if-is.true c.begins_function.ensures
    c.if-begins_function.true c.past_function_front.ensures

pub returns-then-is : goal.returns-then-is
returns-then-is c =
    safe_constant c.args.trees.now c.args.rest.now c.args.class c.is.result c.begins_function.result
    c.constant_of.result c.requires.begins c.is.ensures c.if-is.true c.begins_function.ensures
    c.if-begins_function.false c.constant_of.ensures

pub returns-then-begins_gen : goal.returns-then-begins_gen
returns-then-begins_gen c =
    gen_function c.args.trees.now c.args.rest.now c.args.class c.is-2.result c.begins_gen.result c.past_gen.result
    c.requires.begins c.is-2.ensures c.if-is-2.true c.begins_gen.ensures c.if-begins_gen.true c.past_gen.ensures

pub returns-then-is-2 : goal.returns-then-is-2
returns-then-is-2 c =
    gen_constant c.args.trees.now c.args.rest.now c.args.class c.is-2.result c.begins_gen.result
    c.constant_of-then-is-2.result c.requires.begins c.is-2.ensures c.if-is-2.true c.begins_gen.ensures
    c.if-begins_gen.false c.constant_of-then-is-2.ensures

pub returns : goal.returns
returns c =
    plain_constant c.args.trees.now c.args.rest.now c.args.class c.is.result c.is-2.result c.constant_of-2.result
    c.requires.begins c.requires.name c.is.ensures c.if-is.false c.is-2.ensures c.if-is-2.false
    c.constant_of-2.ensures
