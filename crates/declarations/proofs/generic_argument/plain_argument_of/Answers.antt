use Rattle.declarations.proofs.GenericArgumentLemmas.{type_part}
use Rattle.declarations.proofs.generic_argument.plain_argument_of.Goals as goal

pub returns-in-Ok : goal.returns-in-Ok
returns-in-Ok c = (
  c.in-Ok.ensures,
  type_part c.args.trees.now c.part-trees.result.now c.in-Ok.rest.now c.in-Ok.ensures c.part-trees.ensures,
)
