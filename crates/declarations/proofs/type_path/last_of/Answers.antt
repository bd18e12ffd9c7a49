use Rattle.std.proofs.Common.{refl}
use Rattle.declarations.proofs.TypePathLemmas.{at_last, at_next, is_first, last_sticks, next_fewer}
use Rattle.declarations.proofs.type_path.last_of.Goals as goal

pub loop-step-init : goal.loop-step-init
loop-step-init c = is_first c.args.first c.requires

pub loop-step-smaller : goal.loop-step-smaller
loop-step-smaller c =
    next_fewer c.loop-step.segment.from_arguments.now c.in-Some.next c.in-Ok.step c.in-Some.is c.in-Ok.ensures

pub loop-step-preserved : goal.loop-step-preserved
loop-step-preserved c =
    at_next c.args.first c.loop-step.segment c.in-Some.next c.in-Ok.step c.in-Some.is c.loop-step.invariant
    c.in-Ok.ensures

pub returns-in-None : goal.returns-in-None
returns-in-None c =
    at_last c.args.first c.loop-step.segment _ c.in-Ok.step refl refl refl c.in-None.is c.loop-step.invariant
    c.in-Ok.ensures

pub returns-in-Err : goal.returns-in-Err
returns-in-Err c =
    last_sticks c.args.first c.loop-step.segment c.in-Err.left.now c.loop-step.invariant c.in-Err.ensures
