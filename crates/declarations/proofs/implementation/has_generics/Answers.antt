use Rattle.declarations.proofs.ImplLemmas.{has_none, has_open, has_other}
use Rattle.declarations.proofs.implementation.has_generics.Goals as goal

pub returns-then-opens : goal.returns-then-opens
returns-then-opens c =
    has_open c.args.trees.now c.in-Some.rest.now c.in-Some.class c.opens.result c.begins_generics.result
    c.in-Some.ensures c.opens.ensures c.if-opens.true c.begins_generics.ensures

pub returns-else-opens : goal.returns-else-opens
returns-else-opens c =
    has_other c.args.trees.now c.in-Some.rest.now c.in-Some.class c.opens.result c.in-Some.ensures c.opens.ensures
    c.if-opens.false

pub returns-in-None : goal.returns-in-None
returns-in-None c = has_none c.args.trees.now c.in-None.ensures
