use Rattle.declarations.proofs.PartListLemmas.{next_comma, next_end, next_fewer, next_last, next_none, next_stuck}
use Rattle.declarations.proofs.part_list.past_next.Goals as goal

pub returns-then-is-clause-reads : goal.returns-then-is-clause-reads
returns-then-is-clause-reads c =
    next_comma c.args.element c.args.trees.now c.in-Ok.from_comma.now c.in-Ok.ensures c.in-Some.rest.now
    c.in-Some.class c.is.result c.in-Some.ensures c.is.ensures c.if-is.true

pub returns-then-is-clause-fewer : goal.returns-then-is-clause-fewer
returns-then-is-clause-fewer c = λ _.
    next_fewer c.args.element c.args.trees.now c.in-Ok.from_comma.now c.in-Ok.ensures c.in-Some.rest.now
    c.in-Some.class c.in-Some.ensures

pub returns-else-is-clause-reads : goal.returns-else-is-clause-reads
returns-else-is-clause-reads c =
    next_last c.args.element c.args.trees.now c.in-Ok.from_comma.now c.in-Ok.ensures c.in-Some.rest.now
    c.in-Some.class c.is.result c.in-Some.ensures c.is.ensures c.if-is.false

pub returns-in-None-clause-reads : goal.returns-in-None-clause-reads
returns-in-None-clause-reads c =
    next_end c.args.element c.args.trees.now c.in-Ok.from_comma.now c.in-Ok.ensures c.in-None.ensures

pub returns-then-left-trees-clause-reads : goal.returns-then-left-trees-clause-reads
returns-then-left-trees-clause-reads c =
    next_none c.args.element c.args.trees.now c.in-Err.left.now c.in-Err.ensures c.if-left-trees.true

pub returns-else-left-trees-clause-reads : goal.returns-else-left-trees-clause-reads
returns-else-left-trees-clause-reads c =
    next_stuck c.args.element c.args.trees.now c.in-Err.left.now c.in-Err.ensures c.if-left-trees.false
