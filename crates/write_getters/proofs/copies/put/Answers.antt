use Rattle.std.specs.Array.Iter.{array_into_iter_items, array_steps}
use Rattle.declarations.proofs.CompileErrorLemmas.{drain_gives}
use Rattle.write_getters.proofs.CopiesLemmas.{put_one}
use Rattle.write_getters.proofs.copies.put.Goals as goal

pub returns : goal.returns
returns c =
    put_one _ array_steps array_into_iter_items c.args.tree _ _ c.extend_trees.result drain_gives (λ it is. is.0)
    c.extend_trees.ensures.ran
