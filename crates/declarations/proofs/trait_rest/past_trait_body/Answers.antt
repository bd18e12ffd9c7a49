use Rattle.std.proofs.lemmas.Result.{err_from_is_err_and}
use Rattle.declarations.proofs.ReaderLemmas.{then_reads, then_sticks}
use Rattle.declarations.proofs.trait_rest.past_trait_body.Goals as goal

pub returns-in_err-from_clause : goal.returns-in_err-from_clause
returns-in_err-from_clause c =
    let p = err_from_is_err_and c.from_residual.result c.from_residual.ensures.1 in
    rw (p.1, p.2) (then_sticks _ _ c.args.trees.now c.in_err-from_clause.field-0.0.now c.in_err-from_clause.ensures)

pub returns : goal.returns
returns c =
    then_reads _ _ c.args.trees.now c.in_ok-from_clause.from_clause.now c.past_where_and_body.result
    c.in_ok-from_clause.ensures c.past_where_and_body.ensures
