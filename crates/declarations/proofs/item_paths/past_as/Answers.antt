use Rattle.std.proofs.lemmas.Result.{err_from_is_err_and}
use Rattle.declarations.proofs.ReaderLemmas.{then_reads, then_sticks}
use Rattle.declarations.proofs.item_paths.past_as.Goals as goal

pub returns-in_err-from_name : goal.returns-in_err-from_name
returns-in_err-from_name c =
    let p = err_from_is_err_and c.from_residual.result c.from_residual.ensures.1 in
    rw (p.1, p.2) (then_sticks _ _ c.args.trees.now c.in_err-from_name.field-0.0.now c.in_err-from_name.ensures)

pub returns : goal.returns
returns c =
    then_reads _ _ c.args.trees.now c.in_ok-from_name.from_name.now c.past_new_name.result
    c.in_ok-from_name.ensures c.past_new_name.ensures
