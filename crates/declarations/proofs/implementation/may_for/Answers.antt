use Rattle.declarations.proofs.ImplLemmas.{for_is, for_none, for_not}
use Rattle.declarations.proofs.implementation.may_for.Goals as goal

pub returns-then-is : goal.returns-then-is
returns-then-is c =
    for_is c.args.trees.now c.in-Some.rest.now c.in-Some.class c.is.result c.in-Some.ensures c.is.ensures c.if-is.true

pub returns-else-is : goal.returns-else-is
returns-else-is c =
    for_not c.args.trees.now c.in-Some.rest.now c.in-Some.class c.is.result c.in-Some.ensures c.is.ensures
    c.if-is.false

pub returns-in-None : goal.returns-in-None
returns-in-None c = for_none c.args.trees.now c.in-None.ensures
