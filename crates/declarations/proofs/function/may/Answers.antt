use Rattle.std.proofs.Common.{◌∙◌, sym}
use Rattle.item_tables.specs.Classes.{is}
use Rattle.declarations.proofs.FunctionPartLemmas.{may_end, may_find, may_stay}
use Rattle.declarations.proofs.function.may.Goals as goal

pub returns-then-is : goal.returns-then-is
returns-then-is c =
    may_find (is c.args.class) c.args.trees.now c.in-Some.rest.now c.in-Some.found c.in-Some.ensures
    (sym c.is.ensures ∙ c.if-is.true)

pub returns-else-is : goal.returns-else-is
returns-else-is c =
    may_stay (is c.args.class) c.args.trees.now c.in-Some.rest.now c.in-Some.found c.in-Some.ensures
    (sym c.is.ensures ∙ c.if-is.false)

pub returns-in-None : goal.returns-in-None
returns-in-None c = may_end (is c.args.class) c.args.trees.now c.in-None.ensures
