use Rattle.std.proofs.Common.{refl}
use Rattle.declarations.proofs.TypePathLemmas.{group_step, group_sticks, no_round, output_step, output_sticks}
use Rattle.declarations.proofs.type_path.round_of.Goals as goal

pub returns-in-Ok : goal.returns-in-Ok
returns-in-Ok c =
    output_step c.args.trees.now c.in-Some.from_output.now c.in-Some.group c.in-Some.ensures.found.0
    c.in-Some.ensures.found.1 c.begins.result c.begins.ensures c.if-begins.true c.in-Ok.output c.in-Ok.rest
    c.in-Ok.ensures.0 c.in-Ok.ensures.1

pub returns-in-Err : goal.returns-in-Err
returns-in-Err c =
    output_sticks c.args.trees.now c.in-Some.from_output.now c.in-Some.group c.in-Some.ensures.found.0
    c.in-Some.ensures.found.1 c.begins.result c.begins.ensures c.if-begins.true c.in-Err.left.now c.in-Err.ensures

pub returns-in-Ok-next_segment : goal.returns-in-Ok-next_segment
returns-in-Ok-next_segment c =
    group_step c.args.trees.now c.in-Some.from_output.now c.in-Some.group c.in-Some.ensures.found.0
    c.in-Some.ensures.found.1 c.begins.result c.begins.ensures c.if-begins.false _ c.in-Some.from_output
    c.in-Ok-next_segment.next refl refl c.in-Ok-next_segment.ensures.0 c.in-Ok-next_segment.ensures.1

pub returns-in-Err-next_segment : goal.returns-in-Err-next_segment
returns-in-Err-next_segment c =
    group_sticks c.args.trees.now c.in-Some.from_output.now c.in-Some.group c.in-Some.ensures.found.0
    c.in-Some.ensures.found.1 c.begins.result c.begins.ensures c.if-begins.false c.in-Err-next_segment.left.now
    c.in-Err-next_segment.ensures

pub returns-in-None : goal.returns-in-None
returns-in-None c = no_round c.args.trees.now c.in-None.ensures.none
