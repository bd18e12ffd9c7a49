use Rattle.std.proofs.Common.{refl}
use Rattle.declarations.proofs.TypePathLemmas.{separated_angle, separated_round, separated_segment, separated_sticks}
use Rattle.declarations.proofs.TypePathLemmas.{separator_ends}
use Rattle.declarations.proofs.type_path.separated_of.Goals as goal

pub returns-then-opens : goal.returns-then-opens
returns-then-opens c =
    separated_angle c.args.trees.now c.args.from.now c.requires c.in-Some.inside.now c.in-Some.class c.in-Some.ensures
    c.opens.result c.opens.ensures c.angle_of.result c.if-opens.true c.angle_of.ensures

pub returns-then-is_round : goal.returns-then-is_round
returns-then-is_round c =
    separated_round c.args.trees.now c.args.from.now c.requires c.in-Some.inside.now c.in-Some.class c.in-Some.ensures
    c.opens.result c.opens.ensures c.if-opens.false c.is_round.result c.is_round.ensures c.round_of.result
    c.if-is_round.true c.round_of.ensures

pub returns-in-Ok : goal.returns-in-Ok
returns-in-Ok c =
    separated_segment c.args.trees.now c.args.from.now c.requires c.in-Some.inside.now c.in-Some.class
    c.in-Some.ensures c.opens.result c.opens.ensures c.if-opens.false c.is_round.result c.is_round.ensures
    c.in-Ok.segment c.args.trees refl c.in-Ok.ensures.0 c.in-Ok.ensures.1

pub returns-in-Err : goal.returns-in-Err
returns-in-Err c =
    separated_sticks c.args.trees.now c.args.from.now c.requires c.in-Some.inside.now c.in-Some.class c.in-Some.ensures
    c.opens.result c.opens.ensures c.if-opens.false c.is_round.result c.is_round.ensures c.in-Err.left.now
    c.if-is_round.false c.in-Err.ensures.0 c.in-Err.ensures.1

pub returns-in-None : goal.returns-in-None
returns-in-None c = separator_ends c.args.trees.now c.args.from.now c.requires c.in-None.ensures
