use Rattle.declarations.proofs.ParameterLemmas.{angle_reads, angle_sticks}
use Rattle.declarations.proofs.parameter.pattern_angle.Goals as goal

pub returns-in-Ok : goal.returns-in-Ok
returns-in-Ok c =
    angle_reads c.args.trees.now c.in-Ok.rest.now c.braces.result c.requires c.in-Ok.ensures c.braces.ensures

pub returns-in-Err : goal.returns-in-Err
returns-in-Err c = angle_sticks c.args.trees.now c.in-Err.left.now c.requires c.in-Err.ensures
