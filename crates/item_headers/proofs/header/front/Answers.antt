use Rattle.std.specs.Str.{chars}
use Rattle.item_headers.proofs.HeaderLemmas.{front_written}
use Rattle.item_headers.proofs.ListLemmas.{one_params}
use Rattle.item_headers.proofs.header.front.Goals as goal

pub returns-clause-ok : goal.returns-clause-ok
unfolding chars
returns-clause-ok c =
    let item = c.args.item.now in
    let declared = c.in_ok-push_generics.ensures.ok in
    let named = c.in_ok-push_generics-2.ensures.ok in (
      declared.0,
      declared.1,
      front_written declared.0 named.0 item.name.now c.in_ok-name.name c.args.trait_path.now c.in_ok-path.path
          c.new-quote.result _ _ _ _ _ _ c.new-quote.ensures c.in_ok-push_word.ensures declared.2
          c.in_ok-push_stream.ensures.ok c.in_ok-path.ensures.cases c.in_ok-push_word-2.ensures
          c.in_ok-push.ensures.ok c.in_ok-name.ensures.cases named.2
          (one_params item.generics.now declared.0 named.0 declared.1 named.1),
    )
