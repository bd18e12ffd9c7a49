use Rattle.std.specs.Array.Iter.{array_into_iter_items, array_steps}
use Rattle.quoting.proofs.ArrayLemmas.{drain_gives}
use Rattle.quoting.proofs.PushLemmas.{put_one, refuse_one}
use Rattle.quoting.proofs.quote.Quote.push_stream.Goals as goal

pub returns-clause-ok : goal.returns-clause-ok
returns-clause-ok c =
    put_one _ array_steps array_into_iter_items (λ stream. stream) c.args.stream _ _ _ c.extend_streams.result
    c.self.view_is
    (record { each = λ it next x p. p; all = drain_gives }) c.extend_streams.ensures.ran (λ it is. is.0)

pub returns-clause-err : goal.returns-clause-err
returns-clause-err c =
    refuse_one _ array_steps array_into_iter_items (λ stream. stream) c.args.stream _ _ _ c.extend_streams.result
    c.self.view_is
    (record { each = λ it next x p. p; all = drain_gives }) c.extend_streams.ensures.refused (λ it is. is.0)
