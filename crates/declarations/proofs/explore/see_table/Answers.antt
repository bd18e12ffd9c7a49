use Rattle.declarations.proofs.SyntaxLemmas.{table_sees}
use Rattle.declarations.proofs.explore.see_table.Goals as goal

pub returns : goal.returns
returns c =
    let stop = c.walk_from-stop.result in
    table_sees c.args.table c.args.trees.now stop.left.now stop.place c.steps_from.result c.start_of.result
    c.start_of.ensures c.walk_from-stop.ensures.walked c.walk_from-stop.ensures.stops c.steps_from.ensures
