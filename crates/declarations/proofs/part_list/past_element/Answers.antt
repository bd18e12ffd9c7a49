use Rattle.std.proofs.lemmas.Result.{err_from_is_err_and}
use Rattle.declarations.proofs.part_list.past_element.Goals as goal

pub returns-in_err-field_of-in-Field : goal.returns-in_err-field_of-in-Field
returns-in_err-field_of-in-Field c =
    let p = err_from_is_err_and c.from_residual.result c.from_residual.ensures.1 in
    rw (c.in-Field.is, p.1, p.2) c.in_err-field_of-in-Field.ensures

pub returns-in_ok-field_of-in-Field : goal.returns-in_ok-field_of-in-Field
returns-in_ok-field_of-in-Field c = rw c.in-Field.is c.in_ok-field_of-in-Field.ensures.0

pub returns-in_err-tuple_field_of-in-TupleField : goal.returns-in_err-tuple_field_of-in-TupleField
returns-in_err-tuple_field_of-in-TupleField c =
    let p = err_from_is_err_and c.from_residual-in_err-tuple_field_of-in-TupleField.result
    c.from_residual-in_err-tuple_field_of-in-TupleField.ensures.1 in
    rw (c.in-TupleField.is, p.1, p.2) c.in_err-tuple_field_of-in-TupleField.ensures

pub returns-in_ok-tuple_field_of-in-TupleField : goal.returns-in_ok-tuple_field_of-in-TupleField
returns-in_ok-tuple_field_of-in-TupleField c = rw c.in-TupleField.is c.in_ok-tuple_field_of-in-TupleField.ensures.0

pub returns-in_err-variant_of-in-Variant : goal.returns-in_err-variant_of-in-Variant
returns-in_err-variant_of-in-Variant c =
    let p = err_from_is_err_and c.from_residual-in_err-variant_of-in-Variant.result
    c.from_residual-in_err-variant_of-in-Variant.ensures.1 in
    rw (c.in-Variant.is, p.1, p.2) c.in_err-variant_of-in-Variant.ensures

pub returns-in_ok-variant_of-in-Variant : goal.returns-in_ok-variant_of-in-Variant
returns-in_ok-variant_of-in-Variant c = rw c.in-Variant.is c.in_ok-variant_of-in-Variant.ensures.0

pub returns-in_err-param_of-in-Parameter : goal.returns-in_err-param_of-in-Parameter
returns-in_err-param_of-in-Parameter c =
    let p = err_from_is_err_and c.from_residual-in_err-param_of-in-Parameter.result
    c.from_residual-in_err-param_of-in-Parameter.ensures.1 in
    rw (c.in-Parameter.is, p.1, p.2) c.in_err-param_of-in-Parameter.ensures.rule

pub returns-in_ok-param_of-in-Parameter : goal.returns-in_ok-param_of-in-Parameter
returns-in_ok-param_of-in-Parameter c = rw c.in-Parameter.is c.in_ok-param_of-in-Parameter.ensures.rule

pub returns-in_err-predicate_of-in-Predicate : goal.returns-in_err-predicate_of-in-Predicate
returns-in_err-predicate_of-in-Predicate c =
    let p = err_from_is_err_and c.from_residual-in_err-predicate_of-in-Predicate.result
    c.from_residual-in_err-predicate_of-in-Predicate.ensures.1 in
    rw (c.in-Predicate.is, p.1, p.2) c.in_err-predicate_of-in-Predicate.ensures.rule

pub returns-in_ok-predicate_of-in-Predicate : goal.returns-in_ok-predicate_of-in-Predicate
returns-in_ok-predicate_of-in-Predicate c = rw c.in-Predicate.is c.in_ok-predicate_of-in-Predicate.ensures.rule

pub returns-in_err-argument_of-in-Argument : goal.returns-in_err-argument_of-in-Argument
returns-in_err-argument_of-in-Argument c =
    let p = err_from_is_err_and c.from_residual-in_err-argument_of-in-Argument.result
    c.from_residual-in_err-argument_of-in-Argument.ensures.1 in
    rw (c.in-Argument.is, p.1, p.2) c.in_err-argument_of-in-Argument.ensures

pub returns-in_ok-argument_of-in-Argument : goal.returns-in_ok-argument_of-in-Argument
returns-in_ok-argument_of-in-Argument c = rw c.in-Argument.is c.in_ok-argument_of-in-Argument.ensures.0
