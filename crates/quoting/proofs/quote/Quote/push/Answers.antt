use Rattle.std.specs.Array.Iter.{array_into_iter_items, array_steps}
use Rattle.proc_macro2.specs.Building.{split}
use Rattle.quoting.proofs.ArrayLemmas.{drain_gives}
use Rattle.quoting.proofs.PushLemmas.{put_one, refuse_one}
use Rattle.quoting.proofs.quote.Quote.push.Goals as goal

pub returns-clause-ok : goal.returns-clause-ok
returns-clause-ok c =
    put_one _ array_steps array_into_iter_items split c.args.tree _ _ _ c.extend_trees.result c.self.view_is
    (record { each = λ it next x p. p; all = drain_gives }) c.extend_trees.ensures.ran (λ it is. is.0)

pub returns-clause-err : goal.returns-clause-err
returns-clause-err c =
    refuse_one _ array_steps array_into_iter_items split c.args.tree _ _ _ c.extend_trees.result c.self.view_is
    (record { each = λ it next x p. p; all = drain_gives }) c.extend_trees.ensures.refused (λ it is. is.0)
