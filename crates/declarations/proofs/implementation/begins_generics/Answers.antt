use Rattle.declarations.proofs.ImplLemmas.{begins_alone, begins_none, begins_other, begins_word}
use Rattle.declarations.proofs.implementation.begins_generics.Goals as goal

pub returns-then-is_name : goal.returns-then-is_name
returns-then-is_name c =
    begins_word c.args.trees.now c.in-Some.rest.now c.in-Some.class c.begins_parameter.result c.is_name.result
    c.goes_on_parameter.result c.in-Some.ensures c.begins_parameter.ensures c.if-begins_parameter.false
    c.is_name.ensures c.if-is_name.true c.goes_on_parameter.ensures

pub returns-then-begins_parameter : goal.returns-then-begins_parameter
returns-then-begins_parameter c =
    begins_alone c.args.trees.now c.in-Some.rest.now c.in-Some.class c.begins_parameter.result c.in-Some.ensures
    c.begins_parameter.ensures c.if-begins_parameter.true

pub returns-else-is_name : goal.returns-else-is_name
returns-else-is_name c =
    begins_other c.args.trees.now c.in-Some.rest.now c.in-Some.class c.begins_parameter.result c.is_name.result
    c.in-Some.ensures c.begins_parameter.ensures c.if-begins_parameter.false c.is_name.ensures c.if-is_name.false

pub returns-in-None : goal.returns-in-None
returns-in-None c = begins_none c.args.trees.now c.in-None.ensures
