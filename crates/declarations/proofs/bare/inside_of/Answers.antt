use Rattle.declarations.proofs.BareLemmas.{inside_trees}
use Rattle.declarations.proofs.bare.inside_of.Goals as goal

pub returns : goal.returns
returns c =
    inside_trees c.trees.result.now c.stream_ref.result.now c.innermost.result.now c.args.group.now
    c.trees.ensures.value c.innermost.ensures c.stream_ref.ensures.value
