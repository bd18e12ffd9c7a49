use Rattle.std.proofs.Common.{arith}
use Rattle.lexical.proofs.BlockSteps.{runs, ends_at_end, ends_none}
use Rattle.lexical.proofs.RuleSteps.{run_goes_on}
use Rattle.lexical.proofs.UnitSteps.{leads_far, leads_passes, leads_fails}
use Rattle.lexical.proofs.comments.skip_block.Goals as goal

pub returns-in_err-after : goal.returns-in_err-after
returns-in_err-after c =
    let sign = leads_far _ _ _ c.args.at _ _ c.loop-depth.invariant.leads
    (runs c.loop-depth.depth _ _ c.loop-depth-test.true c.skip_to_either-sign.ensures) in
    leads_fails _ _ _ _ _ c.from_residual-in_err-after.ensures sign
    (ends_at_end c.loop-depth.depth _ c.loop-depth-test.true c.in_err-after.ensures.leads)

pub loop-depth-preserved : goal.loop-depth-preserved
loop-depth-preserved c =
    let sign = leads_far _ _ _ c.args.at _ _ c.loop-depth.invariant.leads
    (runs c.loop-depth.depth _ _ c.loop-depth-test.true c.skip_to_either-sign.ensures) in
    record { leads = leads_far _ _ _ _ _ _ sign c.in_ok-after.ensures.leads; fits = c.in_ok-after.ensures.fits }

pub loop-depth-smaller : goal.loop-depth-smaller
loop-depth-smaller c = omega (arith, run_goes_on _ _ _ c.skip_to_either-sign.ensures, c.in_ok-after.ensures.shorter)

pub returns : goal.returns
returns c = leads_passes _ _ _ _ _ c.loop-depth.invariant.leads (ends_none c.loop-depth.depth _ c.loop-depth-test.false)
