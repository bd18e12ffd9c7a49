use Rattle.std.proofs.Common.{◌∙◌, Ok, ap, map, string_bytes, sym}
use Rattle.std.specs.Vec.Iter.{into_iter_items, into_iter_len}
use Rattle.std.specs.Iterator.Adapters.{skip_source}
use Rattle.std.proofs.lemmas.Iterator.{items_from_collect}
use Rattle.std.proofs.lemmas.Iterator.Adapters.{YieldsList-from_skip, YieldsList-from_vec}
use Rattle.std.proofs.lemmas.Result.{IfOk-weaker}
use Rattle.tokens.specs.Arguments.{words}
use Rattle.tokens.proofs.arguments.words.Goals as goal

pub returns-in-Ok-clause-ok : goal.returns-in-Ok-clause-ok
returns-in-Ok-clause-ok c =
    let all = YieldsList-from_vec {s = skip_source c.skip.result} (into_iter_items c.in-Ok.arguments)
    (ap into_iter_items c.skip.ensures.source) (ap into_iter_len c.skip.ensures.source ∙ c.in-Ok.arguments.rest.ok.0) in
    let taken = items_from_collect c.collect.result c.collect.ensures.ran
    (YieldsList-from_skip 1 all c.skip.ensures.count) in
    IfOk-weaker c.collect.result _ _ (λ list same. ap words c.in-Ok.is ∙ ap (λ xs. Ok (map string_bytes xs)) (sym same))
    taken
