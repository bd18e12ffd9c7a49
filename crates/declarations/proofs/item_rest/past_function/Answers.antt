use Rattle.std.proofs.lemmas.Result.{err_from_is_err_and}
use Rattle.declarations.proofs.ReaderLemmas.{then_fails, then_reads, then_sticks}
use Rattle.declarations.proofs.item_rest.past_function.Goals as goal

pub returns-in_err-from_generics : goal.returns-in_err-from_generics
returns-in_err-from_generics c =
    let p = err_from_is_err_and c.from_residual.result c.from_residual.ensures.1 in
    rw (p.1, p.2) (then_sticks _ _ c.args.trees.now c.in_err-from_generics.field-0.0.now c.in_err-from_generics.ensures)

pub returns-in_err-from_parameters : goal.returns-in_err-from_parameters
returns-in_err-from_parameters c =
    let p = err_from_is_err_and c.from_residual-in_err-from_parameters.result
    c.from_residual-in_err-from_parameters.ensures.1 in
    let mid = c.in_ok-from_generics.from_generics.now in
    let left = c.in_err-from_parameters.field-0.0.now in
    rw (p.1, p.2) (then_fails _ _ c.args.trees.now mid left c.in_ok-from_generics.ensures
    (then_sticks _ _ mid left c.in_err-from_parameters.ensures))

pub returns : goal.returns
returns c =
    let mid = c.in_ok-from_generics.from_generics.now in
    then_reads _ _ c.args.trees.now mid c.past_function_rest.result c.in_ok-from_generics.ensures
    (then_reads _ _ mid c.in_ok-from_parameters.from_parameters.now c.past_function_rest.result
    c.in_ok-from_parameters.ensures c.past_function_rest.ensures)
