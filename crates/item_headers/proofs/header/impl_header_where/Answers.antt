use Rattle.std.proofs.Common.{ap, ◌∙◌}
use Rattle.item_headers.proofs.HeaderLemmas.{header_with}
use Rattle.proc_macro2.specs.Forest.{chain}
use Rattle.item_headers.proofs.header.impl_header_where.Goals as goal

pub returns-clause-ok : goal.returns-clause-ok
returns-clause-ok c =
    let put = c.in_ok-quote.ensures.ok in (
      put.0,
      put.1,
      header_with put.0 c.args.item.now.name.now c.args.trait_path.now c.args.where_clause.now _ _ _ put.2
          (c.in_ok-push_stream.ensures.ok ∙ ap (chain _) c.in_ok-clause.ensures.cases) c.into_stream.ensures,
    )
