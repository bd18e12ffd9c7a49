use Rattle.std.proofs.Common.{codes, arith}
use Rattle.lexical.specs.Rule.{Exactly}
use Rattle.lexical.proofs.RuleLemmas.{Clear}
use Rattle.lexical.proofs.RuleSteps.{run_goes_on}
use Rattle.lexical.proofs.UnitSteps.{leads_run, leads_unit, leads_last, unit_shortens}
use Rattle.explain.specs.Shapes.{closed_body, pair}
use Rattle.explain.proofs.ScanLemmas.{leads_self, reads_last, other_than, pair_alone}
use Rattle.explain.proofs.strings.past_quote.Goals as goal

clear : Clear closed_body
clear = assumption

pub loop-after-init : goal.loop-after-init
loop-after-init c =
    leads_run pair (Exactly (codes "\"")) clear (other_than 34 92) pair_alone closed_body _ _ _
    (leads_self closed_body c.args.inside) c.skip_to_either-end.ensures

pub loop-after-smaller : goal.loop-after-smaller
loop-after-smaller c =
    let shorter = unit_shortens pair (Exactly (codes "\"")) clear _ _ c.in-Some.ensures in
    omega (arith, shorter, run_goes_on _ _ _ c.skip_to_either-end-in-Some.ensures)

pub loop-after-preserved : goal.loop-after-preserved
loop-after-preserved c =
    leads_run pair (Exactly (codes "\"")) clear (other_than 34 92) pair_alone closed_body _ _ _
    (leads_unit pair (Exactly (codes "\"")) clear closed_body _ _ _ c.loop-after.invariant c.in-Some.ensures)
    c.skip_to_either-end-in-Some.ensures

pub returns : goal.returns
returns c =
    reads_last closed_body (Exactly (codes "\"")) _ _ _
    (leads_last pair (Exactly (codes "\"")) clear closed_body _ _ c.loop-after.invariant c.in_default.ensures)
    c.past.ensures
