use Rattle.std.proofs.Common.{refl}
use Rattle.declarations.proofs.goal_syntax.rule_of.Goals as goal

pub returns-in-AfterAnd-clause-rule : goal.returns-in-AfterAnd-clause-rule
returns-in-AfterAnd-clause-rule c = rw c.in-AfterAnd.is refl

pub returns-in-NamedParameter-clause-rule : goal.returns-in-NamedParameter-clause-rule
returns-in-NamedParameter-clause-rule c = rw c.in-NamedParameter.is refl
