use Rattle.declarations.proofs.explore.no_sign.Goals as goal

pub returns-clause-next : goal.returns-clause-next
returns-clause-next c = c.all_passing.ensures
