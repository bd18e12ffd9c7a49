use Rattle.outline.specs.Levels.{trees_left}
use Rattle.outline.proofs.LevelLemmas.{past_all, past_one}
use Rattle.outline.proofs.levels.past.Goals as goal

pub returns-in-None : goal.returns-in-None
returns-in-None c =
    past_all c.loop.here (trees_left c.args.cursor) c.loop.counter c.args.count c.in-None.ensures.none
    c.loop.invariant c.loop-test.true

pub loop-preserved : goal.loop-preserved
loop-preserved c =
    let begins = c.in-Some.ensures.some in
    past_one begins.0 c.loop.here c.in-Some.rest (trees_left c.args.cursor) c.loop.counter begins.1 c.loop.invariant
