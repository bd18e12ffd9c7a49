use Rattle.std.proofs.Common.{◌∙◌}
use Rattle.declarations.proofs.BareLemmas.{held_first}
use Rattle.declarations.proofs.bare.held_alone.Goals as goal

pub returns-in-Group : goal.returns-in-Group
returns-in-Group c =
    c.held_by.ensures
    ∙ held_first c.args.stream.now c.trees.result.now c.in-Some.first.now c.in-Some.rest.now c.in-Group.group
    c.is_empty.result c.trees.ensures.value c.in-Some.ensures.cases.0 c.in-Group.is c.is_empty.ensures
