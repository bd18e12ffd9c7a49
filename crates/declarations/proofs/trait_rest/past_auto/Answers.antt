use Rattle.declarations.proofs.TraitLemmas.{auto_none, auto_not, auto_trait}
use Rattle.declarations.proofs.trait_rest.past_auto.Goals as goal

pub returns-then-is : goal.returns-then-is
returns-then-is c =
    auto_trait c.args.trees.now c.in-Some.rest.now c.in-Some.class c.is.result c.past_trait.result c.in-Some.ensures
    c.is.ensures c.if-is.true c.past_trait.ensures

pub returns-else-is : goal.returns-else-is
returns-else-is c =
    auto_not c.args.trees.now c.in-Some.rest.now c.in-Some.class c.is.result c.in-Some.ensures c.is.ensures
    c.if-is.false

pub returns-in-None : goal.returns-in-None
returns-in-None c = auto_none c.args.trees.now c.in-None.ensures
