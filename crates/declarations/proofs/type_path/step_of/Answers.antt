use Rattle.std.proofs.Common.{◌∙◌, refl, sym}
use Rattle.declarations.proofs.TypePathLemmas.{name_alone, name_angle, name_ends, name_round}
use Rattle.declarations.proofs.type_path.step_of.Goals as goal

pub returns-then-opens : goal.returns-then-opens
returns-then-opens c =
    name_angle c.args.trees.now c.in-Some.rest.now c.in-Some.class c.in-Some.ensures c.opens.result c.opens.ensures
    c.angle_of.result c.if-opens.true c.angle_of.ensures

pub returns-then-is_round : goal.returns-then-is_round
returns-then-is_round c =
    name_round c.args.trees.now c.in-Some.rest.now c.in-Some.class c.in-Some.ensures c.opens.result c.opens.ensures
    c.if-opens.false c.is_round.result c.is_round.ensures c.round_of.result c.if-is_round.true c.round_of.ensures

pub returns-else-is : goal.returns-else-is
returns-else-is c =
    name_alone c.args.trees.now c.in-Some.rest.now c.in-Some.class c.in-Some.ensures c.opens.result c.opens.ensures
    c.if-opens.false c.is_round.result c.is_round.ensures c.args.trees refl c.if-is_round.false
    (sym c.is.ensures ∙ c.if-is.false)

pub returns-in-None : goal.returns-in-None
returns-in-None c = name_ends c.args.trees.now c.args.trees refl c.in-None.ensures
