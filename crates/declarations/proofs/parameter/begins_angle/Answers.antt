use Rattle.declarations.proofs.ParameterLemmas.{angle_begins}
use Rattle.declarations.proofs.parameter.begins_angle.Goals as goal

pub returns-in-Some : goal.returns-in-Some
returns-in-Some c =
    angle_begins c.args.trees.now c.in-Some.field-0-1.now c.in-Some.class c.opens.result c.in-Some.ensures
    c.opens.ensures
