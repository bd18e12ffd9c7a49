use Rattle.item_headers.proofs.HeaderLemmas.{where_written}
use Rattle.item_headers.proofs.clauses.where_clause.Goals as goal

pub returns-clause-ok : goal.returns-clause-ok
returns-clause-ok c =
    let put = c.in_ok-push_where.ensures.ok in
    (put.0, put.1, where_written put.0 _ _ _ c.new-quote.ensures put.2 c.into_stream.ensures)
