use Rattle.std.proofs.lemmas.Result.{err_from_is_err_and}
use Rattle.declarations.proofs.FunctionLemmas.{attributes_part, attributes_stick, fails, fn_reads, fn_sticks}
use Rattle.declarations.proofs.FunctionLemmas.{generics_part}
use Rattle.declarations.proofs.FunctionLemmas.{generics_stick, name_sticks, parameters_stick, past_attributes}
use Rattle.declarations.proofs.FunctionLemmas.{past_end, past_fn, past_generics, past_name, past_parameters}
use Rattle.declarations.proofs.FunctionLemmas.{past_qualifiers, past_visibility, qualifiers_part, rest_sticks}
use Rattle.declarations.proofs.FunctionLemmas.{visibility_part}
use Rattle.declarations.proofs.function.function_of.Goals as goal

pub returns-in_err-from_visibility : goal.returns-in_err-from_visibility
returns-in_err-from_visibility c =
    let p = err_from_is_err_and c.from_residual.result c.from_residual.ensures.1 in
    fails c.args.trees.now c.from_residual.result p.0 c.in_err-from_visibility.field-0.0 p.1 p.2
    (attributes_stick c.args.trees.now c.in_err-from_visibility.field-0.0.now c.in_err-from_visibility.ensures)

pub returns-in_err-from_name : goal.returns-in_err-from_name
returns-in_err-from_name c =
    let one = past_attributes c.args.trees.now c.in_ok-from_visibility.from_visibility.now
    c.in_ok-from_visibility.ensures in
    let two = past_visibility c.args.trees.now c.in_ok-from_visibility.from_visibility.now
    c.past_visibility-from_qualifiers.result.now one c.past_visibility-from_qualifiers.ensures in
    let three = past_qualifiers c.args.trees.now c.past_visibility-from_qualifiers.result.now
    c.past_qualifiers-from_fn.result.now two c.past_qualifiers-from_fn.ensures in
    let p = err_from_is_err_and c.from_residual-in_err-from_name.result c.from_residual-in_err-from_name.ensures.1 in
    fails c.args.trees.now c.from_residual-in_err-from_name.result p.0 c.in_err-from_name.field-0.0 p.1 p.2
    (fn_sticks c.args.trees.now c.past_qualifiers-from_fn.result.now c.in_err-from_name.field-0.0.now three
    c.in_err-from_name.ensures)

pub returns-in_err-name : goal.returns-in_err-name
returns-in_err-name c =
    let one = past_attributes c.args.trees.now c.in_ok-from_visibility.from_visibility.now
    c.in_ok-from_visibility.ensures in
    let two = past_visibility c.args.trees.now c.in_ok-from_visibility.from_visibility.now
    c.past_visibility-from_qualifiers.result.now one c.past_visibility-from_qualifiers.ensures in
    let three = past_qualifiers c.args.trees.now c.past_visibility-from_qualifiers.result.now
    c.past_qualifiers-from_fn.result.now two c.past_qualifiers-from_fn.ensures in
    let four = past_fn c.args.trees.now c.past_qualifiers-from_fn.result.now c.in_ok-from_name.from_name.now three
    c.in_ok-from_name.ensures in
    let p = err_from_is_err_and c.from_residual-in_err-name.result c.from_residual-in_err-name.ensures.1 in
    fails c.args.trees.now c.from_residual-in_err-name.result p.0 c.in_err-name.field-0.0 p.1 p.2
    (name_sticks c.args.trees.now c.in_ok-from_name.from_name.now c.in_err-name.field-0.0.now four
    c.in_err-name.ensures)

pub returns-in_err-from_parameters : goal.returns-in_err-from_parameters
returns-in_err-from_parameters c =
    let one = past_attributes c.args.trees.now c.in_ok-from_visibility.from_visibility.now
    c.in_ok-from_visibility.ensures in
    let two = past_visibility c.args.trees.now c.in_ok-from_visibility.from_visibility.now
    c.past_visibility-from_qualifiers.result.now one c.past_visibility-from_qualifiers.ensures in
    let three = past_qualifiers c.args.trees.now c.past_visibility-from_qualifiers.result.now
    c.past_qualifiers-from_fn.result.now two c.past_qualifiers-from_fn.ensures in
    let four = past_fn c.args.trees.now c.past_qualifiers-from_fn.result.now c.in_ok-from_name.from_name.now three
    c.in_ok-from_name.ensures in
    let five = past_name c.args.trees.now c.in_ok-from_name.from_name.now c.in_ok-name.from_generics.now
    c.in_ok-name.name.now four c.in_ok-name.ensures in
    let p = err_from_is_err_and c.from_residual-in_err-from_parameters.result
    c.from_residual-in_err-from_parameters.ensures.1 in
    fails c.args.trees.now c.from_residual-in_err-from_parameters.result p.0 c.in_err-from_parameters.field-0.0 p.1 p.2
    (generics_stick c.args.trees.now c.in_ok-name.from_generics.now c.in_err-from_parameters.field-0.0.now five
    c.in_err-from_parameters.ensures)

pub returns-in_err-parameters : goal.returns-in_err-parameters
returns-in_err-parameters c =
    let one = past_attributes c.args.trees.now c.in_ok-from_visibility.from_visibility.now
    c.in_ok-from_visibility.ensures in
    let two = past_visibility c.args.trees.now c.in_ok-from_visibility.from_visibility.now
    c.past_visibility-from_qualifiers.result.now one c.past_visibility-from_qualifiers.ensures in
    let three = past_qualifiers c.args.trees.now c.past_visibility-from_qualifiers.result.now
    c.past_qualifiers-from_fn.result.now two c.past_qualifiers-from_fn.ensures in
    let four = past_fn c.args.trees.now c.past_qualifiers-from_fn.result.now c.in_ok-from_name.from_name.now three
    c.in_ok-from_name.ensures in
    let five = past_name c.args.trees.now c.in_ok-from_name.from_name.now c.in_ok-name.from_generics.now
    c.in_ok-name.name.now four c.in_ok-name.ensures in
    let six = past_generics c.args.trees.now c.in_ok-name.from_generics.now
    c.in_ok-from_parameters.from_parameters.now five
    c.in_ok-from_parameters.ensures in
    let p = err_from_is_err_and c.from_residual-in_err-parameters.result c.from_residual-in_err-parameters.ensures.1 in
    fails c.args.trees.now c.from_residual-in_err-parameters.result p.0 c.in_err-parameters.field-0.0 p.1 p.2
    (parameters_stick c.args.trees.now c.in_ok-from_parameters.from_parameters.now c.in_err-parameters.field-0.0.now six
    c.in_err-parameters.ensures)

pub returns-in_err-end : goal.returns-in_err-end
returns-in_err-end c =
    let one = past_attributes c.args.trees.now c.in_ok-from_visibility.from_visibility.now
    c.in_ok-from_visibility.ensures in
    let two = past_visibility c.args.trees.now c.in_ok-from_visibility.from_visibility.now
    c.past_visibility-from_qualifiers.result.now one c.past_visibility-from_qualifiers.ensures in
    let three = past_qualifiers c.args.trees.now c.past_visibility-from_qualifiers.result.now
    c.past_qualifiers-from_fn.result.now two c.past_qualifiers-from_fn.ensures in
    let four = past_fn c.args.trees.now c.past_qualifiers-from_fn.result.now c.in_ok-from_name.from_name.now three
    c.in_ok-from_name.ensures in
    let five = past_name c.args.trees.now c.in_ok-from_name.from_name.now c.in_ok-name.from_generics.now
    c.in_ok-name.name.now four c.in_ok-name.ensures in
    let six = past_generics c.args.trees.now c.in_ok-name.from_generics.now
    c.in_ok-from_parameters.from_parameters.now five
    c.in_ok-from_parameters.ensures in
    let seven = past_parameters c.args.trees.now c.in_ok-from_parameters.from_parameters.now
    c.in_ok-parameters.from_return.now c.in_ok-parameters.parameters.now six c.in_ok-parameters.ensures in
    let p = err_from_is_err_and c.from_residual-in_err-end.result c.from_residual-in_err-end.ensures.1 in
    fails c.args.trees.now c.from_residual-in_err-end.result p.0 c.in_err-end.field-0.0 p.1 p.2
    (rest_sticks c.args.trees.now c.in_ok-parameters.from_return.now c.in_err-end.field-0.0.now seven
    c.in_err-end.ensures)

pub returns : goal.returns
returns c =
    let one = past_attributes c.args.trees.now c.in_ok-from_visibility.from_visibility.now
    c.in_ok-from_visibility.ensures in
    let two = past_visibility c.args.trees.now c.in_ok-from_visibility.from_visibility.now
    c.past_visibility-from_qualifiers.result.now one c.past_visibility-from_qualifiers.ensures in
    let three = past_qualifiers c.args.trees.now c.past_visibility-from_qualifiers.result.now
    c.past_qualifiers-from_fn.result.now two c.past_qualifiers-from_fn.ensures in
    let four = past_fn c.args.trees.now c.past_qualifiers-from_fn.result.now c.in_ok-from_name.from_name.now three
    c.in_ok-from_name.ensures in
    let five = past_name c.args.trees.now c.in_ok-from_name.from_name.now c.in_ok-name.from_generics.now
    c.in_ok-name.name.now four c.in_ok-name.ensures in
    let six = past_generics c.args.trees.now c.in_ok-name.from_generics.now
    c.in_ok-from_parameters.from_parameters.now five
    c.in_ok-from_parameters.ensures in
    let seven = past_parameters c.args.trees.now c.in_ok-from_parameters.from_parameters.now
    c.in_ok-parameters.from_return.now c.in_ok-parameters.parameters.now six c.in_ok-parameters.ensures in
    let keyword = fn_reads c.past_qualifiers-from_fn.result.now c.in_ok-from_name.from_name.now
    c.in_ok-from_name.ensures in (
      past_end c.args.trees.now c.in_ok-parameters.from_return.now c.in_ok-end.rest.now seven c.in_ok-end.ensures.0,
      record {
        from_visibility = c.in_ok-from_visibility.from_visibility.now;
        from_qualifiers = c.past_visibility-from_qualifiers.result.now;
        from_fn = c.past_qualifiers-from_fn.result.now;
        fn_word = keyword.0;
        from_name = c.in_ok-from_name.from_name.now;
        from_generics = c.in_ok-name.from_generics.now;
        from_parameters = c.in_ok-from_parameters.from_parameters.now;
        from_return = c.in_ok-parameters.from_return.now;
        attributes = attributes_part c.args.trees.now _ c.in_ok-from_visibility.from_visibility.now
            c.in_ok-from_visibility.ensures c.part.ensures;
        visibility = visibility_part c.in_ok-from_visibility.from_visibility.now _
            c.past_visibility-from_qualifiers.result.now c.past_visibility-from_qualifiers.ensures c.part-2.ensures;
        qualifiers = qualifiers_part c.past_visibility-from_qualifiers.result.now _ c.past_qualifiers-from_fn.result.now
            c.past_qualifiers-from_fn.ensures c.part-3.ensures;
        keyword = keyword.1;
        name = c.in_ok-name.ensures;
        generics = generics_part c.in_ok-name.from_generics.now _ c.in_ok-from_parameters.from_parameters.now
            c.in_ok-from_parameters.ensures c.part-4.ensures;
        parameters = c.in_ok-parameters.ensures;
        end = c.in_ok-end.ensures.1;
      },
    )
