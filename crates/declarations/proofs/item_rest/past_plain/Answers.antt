use Rattle.std.proofs.lemmas.Result.{err_from_is_err_and}
use Rattle.declarations.proofs.ReaderLemmas.{then_reads, then_sticks}
use Rattle.declarations.proofs.item_rest.past_plain.Goals as goal

pub returns-in_err-from_end : goal.returns-in_err-from_end
returns-in_err-from_end c =
    let p = err_from_is_err_and c.from_residual.result c.from_residual.ensures.1 in
    rw (p.1, p.2) (then_sticks _ _ c.args.trees.now c.in_err-from_end.field-0.0.now c.in_err-from_end.ensures)

pub returns : goal.returns
returns c =
    then_reads _ _ c.args.trees.now c.in_ok-from_end.from_end.now c.past_body_end.result
    c.in_ok-from_end.ensures c.past_body_end.ensures
