use Rattle.std.proofs.Common.{◌∙◌, sym}
use Rattle.declarations.specs.rules.Fronts.{is_safe}
use Rattle.declarations.proofs.FunctionPartLemmas.{may_end, may_find, may_stay}
use Rattle.declarations.proofs.function.may_safe.Goals as goal

pub returns-then-is_safe : goal.returns-then-is_safe
returns-then-is_safe c =
    may_find is_safe c.args.trees.now c.in-Some.rest.now c.in-Some.found c.in-Some.ensures
    (sym c.is_safe.ensures ∙ c.if-is_safe.true)

pub returns-else-is_safe : goal.returns-else-is_safe
returns-else-is_safe c =
    may_stay is_safe c.args.trees.now c.in-Some.rest.now c.in-Some.found c.in-Some.ensures
    (sym c.is_safe.ensures ∙ c.if-is_safe.false)

pub returns-in-None : goal.returns-in-None
returns-in-None c = may_end is_safe c.args.trees.now c.in-None.ensures
