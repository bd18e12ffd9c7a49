use Rattle.std.proofs.lemmas.Result.{err_from_is_err_and}
use Rattle.item_headers.proofs.FaultLemmas.{not_both_params, not_both_predicates}
use Rattle.item_headers.proofs.HeaderLemmas.{header_written}
use Rattle.item_headers.proofs.header.impl_header.Goals as goal

pub returns-clause-ok : goal.returns-clause-ok
returns-clause-ok c =
    let put = c.in_ok-quote.ensures.ok in
    let clause = c.in_ok-push_where.ensures.ok in (
      put.0,
      clause.0,
      put.1,
      clause.1,
      header_written put.0 clause.0 c.args.item.now.name.now
          c.args.trait_path.now _ _ _ put.2 clause.2 c.into_stream.ensures,
    )

pub returns-in_err-quote-clause-fault : goal.returns-in_err-quote-clause-fault
returns-in_err-quote-clause-fault c =
    let p = err_from_is_err_and c.from_residual.result c.from_residual.ensures.1 in
    rw (p.1, p.2) (not_both_params c.in_err-quote.field-0.0 c.args.item.now.generics.now
    c.args.item.now.where_clause.now c.in_err-quote.ensures.fault)

pub returns-in_err-push_where-clause-fault : goal.returns-in_err-push_where-clause-fault
returns-in_err-push_where-clause-fault c =
    let p = err_from_is_err_and c.from_residual-in_err-push_where.result c.from_residual-in_err-push_where.ensures.1 in
    rw (p.1, p.2) (not_both_predicates c.in_err-push_where.field-0.0 c.args.item.now.generics.now
    c.args.item.now.where_clause.now c.in_err-push_where.ensures.fault)
