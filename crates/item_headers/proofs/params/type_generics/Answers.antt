use Rattle.item_headers.proofs.HeaderLemmas.{from_nothing}
use Rattle.item_headers.specs.Header.{type_generics}
use Rattle.item_headers.proofs.params.type_generics.Goals as goal

pub returns-clause-ok : goal.returns-clause-ok
returns-clause-ok c =
    let put = c.in_ok-push_generics.ensures.ok in
    (put.0, put.1, from_nothing _ _ _ (type_generics put.0) c.new-quote.ensures put.2 c.into_stream.ensures)
