use Rattle.std.proofs.Common.{◌∙◌, refl, sym}
use Rattle.declarations.proofs.TypePathLemmas.{angle_sticks, closed_step, closed_sticks, unclosed, unclosed_end}
use Rattle.declarations.proofs.type_path.angle_of.Goals as goal

pub returns-in-Ok-next_segment : goal.returns-in-Ok-next_segment
returns-in-Ok-next_segment c =
    closed_step c.args.trees.now c.in-Ok.from_close.now c.in-Ok.ensures c.in-Some.rest.now c.in-Some.class
    c.in-Some.ensures (sym c.is.ensures ∙ c.if-is.true) c.part.result c.in-Some.rest c.in-Ok-next_segment.next refl
    c.part.ensures c.in-Ok-next_segment.ensures.0 c.in-Ok-next_segment.ensures.1

pub returns-in-Err-next_segment : goal.returns-in-Err-next_segment
returns-in-Err-next_segment c =
    closed_sticks c.args.trees.now c.in-Ok.from_close.now c.in-Ok.ensures c.in-Some.rest.now c.in-Some.class
    c.in-Some.ensures (sym c.is.ensures ∙ c.if-is.true) c.in-Err-next_segment.left.now c.in-Err-next_segment.ensures

pub returns-in-None : goal.returns-in-None
returns-in-None c =
    unclosed_end c.args.trees.now c.in-Ok.from_close.now c.in-Ok.ensures c.in-None.ensures

pub part-requires : goal.part-requires
part-requires c = c.in-Ok.ensures.remains

pub returns-else-is : goal.returns-else-is
returns-else-is c =
    unclosed c.args.trees.now c.in-Ok.from_close.now c.in-Ok.ensures c.in-Some.rest.now c.in-Some.class
    c.in-Some.ensures (sym c.is.ensures ∙ c.if-is.false)

pub returns-in-Err : goal.returns-in-Err
returns-in-Err c = angle_sticks c.args.trees.now c.in-Err.left.now c.in-Err.ensures
