use Rattle.std.proofs.lemmas.Result.{err_from_is_err_and}
use Rattle.item_headers.proofs.FaultLemmas.{not_both_params, not_both_predicates}
use Rattle.item_headers.proofs.HeaderLemmas.{with_bounds}
use Rattle.item_headers.specs.Header.{bounds_on_types}
use Rattle.item_headers.proofs.clauses.where_clause_with_bound.Goals as goal

pub returns-clause-ok : goal.returns-clause-ok
returns-clause-ok c =
    let put = c.in_ok-any.ensures.ok in
    let bounds = c.in_ok-push_bounds.ensures.ok in (
      put.0,
      bounds.0,
      put.1,
      bounds.1,
      with_bounds put.0 (bounds_on_types c.args.bound.now bounds.0) _ _ _ _ _
          c.new-quote.ensures put.2 put.3 bounds.2 c.into_stream.ensures,
    )

pub returns-in_err-any-clause-fault : goal.returns-in_err-any-clause-fault
returns-in_err-any-clause-fault c =
    let p = err_from_is_err_and c.from_residual.result c.from_residual.ensures.1 in
    rw (p.1, p.2) (not_both_predicates c.in_err-any.field-0.0 c.args.item.now.generics.now
    c.args.item.now.where_clause.now c.in_err-any.ensures.fault)

pub returns-in_err-push_bounds-clause-fault : goal.returns-in_err-push_bounds-clause-fault
returns-in_err-push_bounds-clause-fault c =
    let p =
    err_from_is_err_and c.from_residual-in_err-push_bounds.result c.from_residual-in_err-push_bounds.ensures.1 in
    rw (p.1, p.2) (not_both_params c.in_err-push_bounds.field-0.0 c.args.item.now.generics.now
    c.args.item.now.where_clause.now c.in_err-push_bounds.ensures.fault)
