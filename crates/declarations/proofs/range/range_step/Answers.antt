use Rattle.declarations.proofs.RangeStepLemmas.{step_none, step_taken}
use Rattle.declarations.proofs.range.range_step.Goals as goal

pub returns-in_err-taken-clause-none : goal.returns-in_err-taken-clause-none
returns-in_err-taken-clause-none c =
    rw c.from_residual.ensures
    (step_none c.args.state c.args.depth c.args.class c.type_step.result c.type_step.ensures c.in_err-taken.was)

pub depth_after-requires : goal.depth_after-requires
depth_after-requires c = c.requires

pub returns-clause-found : goal.returns-clause-found
returns-clause-found c =
    step_taken c.args.state c.args.depth c.args.class c.type_step.result c.in_ok-taken.taken c.depth_after.result
    c.type_step.ensures c.in_ok-taken.was c.depth_after.ensures.value

pub returns-clause-most : goal.returns-clause-most
returns-clause-most c = c.depth_after.ensures.most
