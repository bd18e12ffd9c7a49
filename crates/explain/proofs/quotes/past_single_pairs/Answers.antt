use Rattle.std.proofs.Common.{codes}
use Rattle.lexical.specs.Rule.{Rule, Exactly, UpTo}
use Rattle.lexical.proofs.RuleLemmas.{Clear}
use Rattle.lexical.proofs.UnitSteps.{leads_unit, leads_last, unit_shortens}
use Rattle.explain.specs.Shapes.{single_pair}
use Rattle.explain.proofs.ScanLemmas.{leads_self, reads_last}
use Rattle.explain.proofs.quotes.past_single_pairs.Goals as goal

abbrev body : Rule
body = UpTo single_pair (Exactly (codes "'"))

clear : Clear body
clear = assumption

pub loop-after-init : goal.loop-after-init
loop-after-init c = leads_self body c.args.inside

pub loop-after-smaller : goal.loop-after-smaller
loop-after-smaller c = unit_shortens single_pair (Exactly (codes "'")) clear _ _ c.in-Some.ensures

pub loop-after-preserved : goal.loop-after-preserved
loop-after-preserved c =
    leads_unit single_pair (Exactly (codes "'")) clear body _ _ _ c.loop-after.invariant c.in-Some.ensures

pub returns : goal.returns
returns c =
    reads_last body (Exactly (codes "'")) _ _ _
    (leads_last single_pair (Exactly (codes "'")) clear body _ _ c.loop-after.invariant c.in_default.ensures)
    c.past.ensures
