use Rattle.std.proofs.Common.{◌∙◌, ap, map, string_bytes}
use Rattle.std.specs.Vec.Iter.{into_iter_items, into_iter_len}
use Rattle.std.specs.Iterator.Adapters.{skip_source}
use Rattle.std.proofs.lemmas.Iterator.{items_from_collect}
use Rattle.std.proofs.lemmas.Iterator.Adapters.{YieldsList-from_skip, YieldsList-from_vec}
use Rattle.messages.proofs.input.words.Goals as goal

pub returns-in_ok-collect-in-Ok-clause-ok : goal.returns-in_ok-collect-in-Ok-clause-ok
returns-in_ok-collect-in-Ok-clause-ok c =
    let all = YieldsList-from_vec {s = skip_source c.skip.result} (into_iter_items c.in-Ok.arguments)
    (ap into_iter_items c.skip.ensures.source) (ap into_iter_len c.skip.ensures.source ∙ c.in-Ok.arguments.rest.ok.0) in
    let taken = items_from_collect c.collect.result c.collect.ensures.ran
    (YieldsList-from_skip 1 all c.skip.ensures.count) in
    rw c.in-Ok.is (ap (λ items. map string_bytes items) (rw c.in_ok-collect-in-Ok.was at taken))
