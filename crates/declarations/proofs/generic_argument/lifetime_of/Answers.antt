use Rattle.declarations.proofs.GenericArgumentLemmas.{lifetime_part}
use Rattle.declarations.proofs.generic_argument.lifetime_of.Goals as goal

pub returns-in-Ok : goal.returns-in-Ok
returns-in-Ok c = (
  c.in-Ok.ensures,
  lifetime_part c.args.trees.now c.part-trees.result.now c.in-Ok.rest.now c.in-Ok.ensures c.part-trees.ensures,
)
