use Rattle.std.proofs.Common.{arith}
use Rattle.declarations.proofs.WalkedLemmas.{walked-more}
use Rattle.declarations.proofs.walk.walk_from.Goals as goal

pub loop-next-preserved : goal.loop-next-preserved
loop-next-preserved c =
    let found = c.in-Some.ensures.found in
    record {
      walked = walked-more c.args.start c.args.trees.now c.loop-next.left.now c.loop-next.place c.in-Some.next found.0
          c.in-Some.after.now c.loop-next.invariant.walked found.1 found.2;
      room = omega arith;
    }
