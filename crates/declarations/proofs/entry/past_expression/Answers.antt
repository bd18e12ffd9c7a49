use Rattle.std.proofs.Common.{refl}
use Rattle.declarations.proofs.EntryLemmas.{expression_reads}
use Rattle.declarations.proofs.entry.past_expression.Goals as goal

pub walk_past-requires : goal.walk_past-requires
walk_past-requires c = refl

pub returns : goal.returns
returns c = expression_reads c.args.trees.now c.walk_past.result c.walk_past.ensures
