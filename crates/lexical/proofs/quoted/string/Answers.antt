use Rattle.std.proofs.Common.{codes, arith}
use Rattle.lexical.specs.Quoted.{body, close, is_plain, unit, suffix}
use Rattle.lexical.specs.Rule.{Exactly}
use Rattle.lexical.proofs.QuotedFinderLemmas.{clear_body}
use Rattle.lexical.proofs.RuleSteps.{run_goes_on, then_passes, then_lacks}
use Rattle.lexical.proofs.UnitSteps.{leads_fails, leads_passes, leads_unit, leads_last, unit_shortens, leads_then}
use Rattle.lexical.proofs.UnitSteps.{leads_run, plain_unit}
use Rattle.lexical.proofs.quoted.string.Goals as goal

pub loop-after-init : goal.loop-after-init
loop-after-init c =
    let rest = body (unit c.args.kind) (codes "\"") in
    let opened = leads_then (Exactly c.args.front.now) rest c.args.at c.in_ok-inside.inside c.in_ok-inside.ensures in
    leads_run (unit c.args.kind)
    (close (codes "\"")) (clear_body c.args.kind) (is_plain c.args.kind) (plain_unit c.args.kind)
    _ _ _ _ opened c.skip_plain-end.ensures

pub loop-after-smaller : goal.loop-after-smaller
loop-after-smaller c =
    let shorter = unit_shortens (unit c.args.kind)
    (close (codes "\"")) (clear_body c.args.kind) _ _ c.in-Some.ensures in
    omega (arith, shorter, run_goes_on _ _ _ c.skip_plain-end-in-Some.ensures)

pub loop-after-preserved : goal.loop-after-preserved
loop-after-preserved c =
    let lead = leads_unit (unit c.args.kind)
    (close (codes "\"")) (clear_body c.args.kind) _ _ _ _ c.loop-after.invariant c.in-Some.ensures in
    leads_run (unit c.args.kind)
    (close (codes "\"")) (clear_body c.args.kind) (is_plain c.args.kind) (plain_unit c.args.kind)
    _ _ _ _ lead c.skip_plain-end-in-Some.ensures

pub returns-in_err-closed : goal.returns-in_err-closed
returns-in_err-closed c =
    let last = leads_last (unit c.args.kind)
    (close (codes "\"")) (clear_body c.args.kind) _ _ _ c.loop-after.invariant c.in_default.ensures in
    leads_fails _ _ _ _ _ c.from_residual-in_err-closed.ensures last
    (then_lacks (Exactly (codes "\"")) suffix _ c.in_err-closed.ensures)

pub returns : goal.returns
returns c =
    let last = leads_last (unit c.args.kind)
    (close (codes "\"")) (clear_body c.args.kind) _ _ _ c.loop-after.invariant c.in_default.ensures in
    leads_passes _ _ _ _ _ last
    (then_passes (Exactly (codes "\"")) suffix _ _ _ c.in_ok-closed.ensures c.suffix.ensures)
