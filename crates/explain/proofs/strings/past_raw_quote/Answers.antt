use Rattle.std.proofs.Common.{◌∷◌, codes, ◌∙◌, arith}
use Rattle.lexical.specs.Rule.{Exactly}
use Rattle.lexical.proofs.RuleSteps.{run_goes_on, then_lacks, then_reads, reads_same}
use Rattle.lexical.proofs.UnitSteps.{leads_run, leads_unit, leads_last, unit_shortens, leads_fails, found_cons}
use Rattle.explain.specs.Shapes.{closed_raw_body, raw_unit}
use Rattle.explain.proofs.ScanLemmas.{leads_self, reads_last, no_quote, raw_alone, clear_raw}
use Rattle.explain.proofs.strings.past_raw_quote.Goals as goal

pub loop-after-init : goal.loop-after-init
loop-after-init c =
    let hashes = c.args.hashes.now in
    leads_run (raw_unit hashes) (Exactly (34 ∷ hashes)) (clear_raw hashes) no_quote (raw_alone hashes)
    (closed_raw_body hashes) _ _ _ (leads_self (closed_raw_body hashes) c.args.inside) c.skip_to-end.ensures

pub loop-after-smaller : goal.loop-after-smaller
loop-after-smaller c =
    let hashes = c.args.hashes.now in
    let shorter = unit_shortens (raw_unit hashes) (Exactly (34 ∷ hashes)) (clear_raw hashes) _ _ c.in-Some.ensures in
    omega (arith, shorter, run_goes_on _ _ _ c.skip_to-end-in-Some.ensures)

pub loop-after-preserved : goal.loop-after-preserved
loop-after-preserved c =
    let hashes = c.args.hashes.now in
    leads_run (raw_unit hashes) (Exactly (34 ∷ hashes)) (clear_raw hashes) no_quote (raw_alone hashes)
    (closed_raw_body hashes) _ _ _
    (leads_unit (raw_unit hashes) (Exactly (34 ∷ hashes)) (clear_raw hashes) (closed_raw_body hashes) _ _ _
    c.loop-after.invariant c.in-Some.ensures)
    c.skip_to-end-in-Some.ensures

pub returns-in_err-past : goal.returns-in_err-past
returns-in_err-past c =
    let hashes = c.args.hashes.now in
    leads_fails (closed_raw_body hashes) (Exactly (34 ∷ hashes)) _ _ _ c.from_residual.ensures
    (leads_last (raw_unit hashes) (Exactly (34 ∷ hashes)) (clear_raw hashes) (closed_raw_body hashes) _ _
    c.loop-after.invariant c.in_default.ensures)
    (found_cons 34 hashes _ ∙ then_lacks (Exactly (codes "\"")) (Exactly hashes) _ c.in_err-past.ensures)

pub returns : goal.returns
returns c =
    let hashes = c.args.hashes.now in
    reads_last (closed_raw_body hashes) (Exactly (34 ∷ hashes)) _ _ _
    (leads_last (raw_unit hashes) (Exactly (34 ∷ hashes)) (clear_raw hashes) (closed_raw_body hashes) _ _
    c.loop-after.invariant c.in_default.ensures)
    (reads_same _ (Exactly (34 ∷ hashes)) _ _ (found_cons 34 hashes _)
    (then_reads (Exactly (codes "\"")) (Exactly hashes) _ _ _ c.in_ok-past.ensures c.past-2.ensures))
