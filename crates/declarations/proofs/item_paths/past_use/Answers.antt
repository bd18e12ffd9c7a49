use Rattle.declarations.proofs.ItemRestLemmas.{nothing_used, plain_import, separated_import}
use Rattle.declarations.proofs.item_paths.past_use.Goals as goal

pub returns-then-is : goal.returns-then-is
returns-then-is c =
    separated_import c.args.trees.now c.in-Some.rest.now c.in-Some.class c.is.result c.past_use_path.result
    c.in-Some.ensures c.is.ensures c.if-is.true c.past_use_path.ensures

pub returns-else-is : goal.returns-else-is
returns-else-is c =
    plain_import c.args.trees.now c.in-Some.rest.now c.in-Some.class c.is.result c.past_use_path-else-is.result
    c.in-Some.ensures c.is.ensures c.if-is.false c.past_use_path-else-is.ensures

pub returns-in-None : goal.returns-in-None
returns-in-None c = nothing_used c.args.trees.now c.in-None.ensures
