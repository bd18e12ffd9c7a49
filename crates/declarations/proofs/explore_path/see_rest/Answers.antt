use Rattle.std.proofs.Common.{arith}
use Rattle.declarations.specs.ExplorePath.{path_at}
use Rattle.declarations.proofs.ExplorePathLemmas.{goes_sees}
use Rattle.declarations.proofs.explore_path.see_rest.Goals as goal

pub loop-next-init : goal.loop-next-init
loop-next-init c = λ seen s. s

pub loop-next-preserved : goal.loop-next-preserved
loop-next-preserved c = λ seen s.
    c.loop-next.invariant seen
    (goes_sees (path_at c.loop-next.at) (path_at c.in-Ok.next) c.loop-next.left.now c.in-Ok.rest.now seen
    c.in-Ok.ensures s)

pub loop-next-smaller : goal.loop-next-smaller
loop-next-smaller c = let fewer = c.in-Ok.ensures.fewer in omega arith

pub returns-in-Err : goal.returns-in-Err
returns-in-Err c = c.loop-next.invariant c.in-Err.seen c.in-Err.ensures
