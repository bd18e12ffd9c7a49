use Rattle.std.proofs.Common.{◌∙◌, sym}
use Rattle.declarations.proofs.FunctionPartLemmas.{abi_ends, abi_finds, abi_stays}
use Rattle.declarations.proofs.function.may_abi.Goals as goal

pub returns-then-is : goal.returns-then-is
returns-then-is c =
    abi_finds c.args.trees.now c.in-Some.rest.now c.may.result.now c.in-Some.found c.in-Some.ensures
    (sym c.is.ensures ∙ c.if-is.true) c.may.ensures

pub returns-else-is : goal.returns-else-is
returns-else-is c =
    abi_stays c.args.trees.now c.in-Some.rest.now c.in-Some.found c.in-Some.ensures
    (sym c.is.ensures ∙ c.if-is.false)

pub returns-in-None : goal.returns-in-None
returns-in-None c = abi_ends c.args.trees.now c.in-None.ensures
