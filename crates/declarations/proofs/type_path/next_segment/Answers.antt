use Rattle.std.proofs.Common.{◌∙◌, sym}
use Rattle.declarations.proofs.TypePathLemmas.{next_end, next_none, next_some, next_sticks}
use Rattle.declarations.proofs.type_path.next_segment.Goals as goal

pub returns-in-Ok : goal.returns-in-Ok
returns-in-Ok c =
    next_some c.args.trees.now c.in-Some.from_name.now c.in-Some.class c.in-Some.ensures
    (sym c.is.ensures ∙ c.if-is.true) c.in-Ok.segment c.in-Ok.ensures.0 c.in-Ok.ensures.1

pub returns-in-Err : goal.returns-in-Err
returns-in-Err c =
    next_sticks c.args.trees.now c.in-Some.from_name.now c.in-Some.class c.in-Some.ensures
    (sym c.is.ensures ∙ c.if-is.true) c.in-Err.left.now c.in-Err.ensures.0 c.in-Err.ensures.1

pub returns-else-is : goal.returns-else-is
returns-else-is c =
    next_none c.args.trees.now c.in-Some.from_name.now c.in-Some.class c.in-Some.ensures
    (sym c.is.ensures ∙ c.if-is.false)

pub returns-in-None : goal.returns-in-None
returns-in-None c = next_end c.args.trees.now c.in-None.ensures
