use Rattle.std.proofs.lemmas.Result.{err_from_is_err_and}
use Rattle.declarations.proofs.ReaderLemmas.{then_reads, then_sticks}
use Rattle.declarations.proofs.item_rest.past_constant_rest.Goals as goal

pub returns-in_err-from_type : goal.returns-in_err-from_type
returns-in_err-from_type c =
    let p = err_from_is_err_and c.from_residual.result c.from_residual.ensures.1 in
    rw (p.1, p.2) (then_sticks _ _ c.args.trees.now c.in_err-from_type.field-0.0.now c.in_err-from_type.ensures)

pub returns : goal.returns
returns c =
    then_reads _ _ c.args.trees.now c.in_ok-from_type.from_type.now c.past_typed.result
    c.in_ok-from_type.ensures c.past_typed.ensures
