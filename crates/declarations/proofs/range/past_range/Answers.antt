use Rattle.declarations.proofs.RangeStepLemmas.{range_more}
use Rattle.declarations.proofs.range.past_range.Goals as goal

pub loop-next-preserved : goal.loop-next-preserved
loop-next-preserved c =
    let found = c.in-Some.ensures.found in
    range_more c.args.start c.args.trees.now c.loop-next.left.now c.in-Some.after.now c.loop-next.state c.in-Some.next
    c.loop-next.depth c.in-Some.brackets found.0 c.loop-next.invariant found.1 found.2 found.3
