use Rattle.declarations.proofs.GoalLemmas.{separated_needs, separates}
use Rattle.declarations.proofs.explore.past_separated.Goals as goal

pub returns-in-Ok : goal.returns-in-Ok
returns-in-Ok c =
    let found = c.in-Ok.ensures in
    separates c.args.trees.now c.in-Ok.rest.now found.0 found.1 found.2 c.first_that_passes-in-Ok.result
    c.first_that_passes-in-Ok.ensures

pub returns-in-Err : goal.returns-in-Err
returns-in-Err c = separated_needs c.args.trees.now c.in-Err.seen c.in-Err.ensures.1
