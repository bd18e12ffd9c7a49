use Rattle.declarations.proofs.ImplLemmas.{header_reads}
use Rattle.declarations.proofs.implementation.past_impl_rest.Goals as goal

pub returns-in-Ok : goal.returns-in-Ok
returns-in-Ok c =
    header_reads c.args.trees.now c.in-Ok.from_clause.now c.past_where_and_body.result c.in-Ok.ensures.0
    c.past_where_and_body.ensures

pub returns-in-Err : goal.returns-in-Err
returns-in-Err c = c.in-Err.ensures
