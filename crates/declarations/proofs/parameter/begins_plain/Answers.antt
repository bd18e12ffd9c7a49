use Rattle.declarations.proofs.ParameterLemmas.{plain_begins}
use Rattle.declarations.proofs.parameter.begins_plain.Goals as goal

pub returns-in-Some : goal.returns-in-Some
returns-in-Some c =
    plain_begins c.args.trees.now c.in-Some.field-0-1.now c.in-Some.class c.may_begin.result c.in-Some.ensures
    c.may_begin.ensures
