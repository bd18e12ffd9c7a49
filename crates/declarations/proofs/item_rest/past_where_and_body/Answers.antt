use Rattle.std.proofs.lemmas.Result.{err_from_is_err_and}
use Rattle.declarations.proofs.ReaderLemmas.{then_reads, then_sticks}
use Rattle.declarations.proofs.item_rest.past_where_and_body.Goals as goal

pub returns-in_err-from_body : goal.returns-in_err-from_body
returns-in_err-from_body c =
    let p = err_from_is_err_and c.from_residual.result c.from_residual.ensures.1 in
    rw (p.1, p.2) (then_sticks _ _ c.args.trees.now c.in_err-from_body.field-0.0.now c.in_err-from_body.ensures)

pub returns : goal.returns
returns c =
    then_reads _ _ c.args.trees.now c.in_ok-from_body.from_body.now c.past_braces.result
    c.in_ok-from_body.ensures c.past_braces.ensures
