use Rattle.declarations.proofs.PartListLemmas.{last_next, more_next, stuck_next}
use Rattle.declarations.proofs.part_list.past_list.Goals as goal

pub returns-then-not-more : goal.returns-then-not-more
returns-then-not-more c =
    last_next c.args.element c.args.trees.now c.loop-more.left.now c.in-Ok.rest.now c.in-Ok.more c.loop-more.invariant
    c.if-not-more.true c.in-Ok.ensures.reads

pub loop-more-preserved : goal.loop-more-preserved
loop-more-preserved c =
    more_next c.args.element _ c.loop-more.left.now c.in-Ok.rest.now c.in-Ok.more c.loop-more.invariant
    c.if-not-more.false c.in-Ok.ensures.reads

pub returns-in-Err : goal.returns-in-Err
returns-in-Err c =
    stuck_next c.args.element c.args.trees.now c.loop-more.left.now c.in-Err.fault.now c.loop-more.invariant
    c.in-Err.ensures.reads
