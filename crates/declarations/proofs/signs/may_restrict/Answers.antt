use Rattle.std.proofs.Common.{◌∙◌}
use Rattle.declarations.proofs.SignLemmas.{restricting_first}
use Rattle.declarations.proofs.signs.may_restrict.Goals as goal

pub returns-in-Group : goal.returns-in-Group
returns-in-Group c =
    c.restricts_in.ensures
    ∙ restricting_first c.args.trees.now c.in-Some.first.now c.in-Some.rest.now c.in-Group.group c.is_empty.result
    c.in-Some.ensures.cases.0 c.in-Group.is c.is_empty.ensures
