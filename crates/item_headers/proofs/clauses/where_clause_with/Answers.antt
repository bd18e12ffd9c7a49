use Rattle.std.proofs.Common.{ap, ◌∙◌}
use Rattle.item_headers.proofs.HeaderLemmas.{with_one}
use Rattle.proc_macro2.specs.Forest.{chain}
use Rattle.item_headers.proofs.clauses.where_clause_with.Goals as goal

pub returns-clause-ok : goal.returns-clause-ok
returns-clause-ok c =
    let put = c.in_ok-any.ensures.ok in (
      put.0,
      put.1,
      with_one put.0 c.args.predicate.now _ _ _ _ _ _ c.new-quote.ensures put.2 put.3 c.in_ok-push_lead.ensures
          (c.in_ok-push_stream.ensures.ok ∙ ap (chain _) c.in_ok-copy.ensures.cases) c.into_stream.ensures,
    )
