use Rattle.declarations.proofs.PartReaderLemmas.{visibility_only}
use Rattle.declarations.proofs.part_splitting.split_visibility.Goals as goal

pub returns-clause-only : goal.returns-clause-only
returns-clause-only c =
    visibility_only c.args.trees.now c.part.result.now c.past_visibility-rest.result.now c.past_visibility-rest.ensures
    c.part.ensures
