use Rattle.std.proofs.Common.{◌∙◌, sym}
use Rattle.declarations.proofs.GenericArgumentLemmas.{constant_kind, lifetime_kind, no_kind, plain_kind, word_kind}
use Rattle.declarations.proofs.generic_argument.argument_of.Goals as goal

pub returns-then-is : goal.returns-then-is
returns-then-is c =
    lifetime_kind c.args.trees.now c.in-Some.field-0-1.now c.in-Some.class c.in-Some.ensures c.lifetime_of.result
    (sym c.is.ensures ∙ c.if-is.true) c.lifetime_of.ensures

pub returns-then-begins_constant : goal.returns-then-begins_constant
returns-then-begins_constant c =
    constant_kind c.args.trees.now c.in-Some.field-0-1.now c.in-Some.class c.in-Some.ensures c.constant_of.result
    (sym c.is.ensures ∙ c.if-is.false) (sym c.begins_constant.ensures ∙ c.if-begins_constant.true)
    c.constant_of.ensures

pub returns-then-is_word : goal.returns-then-is_word
returns-then-is_word c =
    word_kind c.args.trees.now c.in-Some.field-0-1.now c.in-Some.class c.in-Some.ensures c.word_argument_of.result
    (sym c.is.ensures ∙ c.if-is.false) (sym c.begins_constant.ensures ∙ c.if-begins_constant.false) (sym
    c.is_word.ensures ∙ c.if-is_word.true) c.word_argument_of.ensures

pub returns-else-is_word : goal.returns-else-is_word
returns-else-is_word c =
    plain_kind c.args.trees.now c.in-Some.field-0-1.now c.in-Some.class c.in-Some.ensures
    c.plain_argument_of.result (sym c.is.ensures ∙ c.if-is.false) (sym c.begins_constant.ensures ∙
    c.if-begins_constant.false) (sym c.is_word.ensures ∙ c.if-is_word.false) c.plain_argument_of.ensures

pub returns-in-None : goal.returns-in-None
returns-in-None c =
    no_kind c.args.trees.now c.plain_argument_of-in-None.result c.in-None.ensures
    c.plain_argument_of-in-None.ensures
