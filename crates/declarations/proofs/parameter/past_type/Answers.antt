use Rattle.declarations.proofs.ParameterLemmas.{type_reads}
use Rattle.declarations.proofs.parameter.past_type.Goals as goal

pub returns : goal.returns
returns c = type_reads c.args.trees.now c.past_range.result c.past_range.ensures
