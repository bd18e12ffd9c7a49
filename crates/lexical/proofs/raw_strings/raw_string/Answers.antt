use Rattle.std.proofs.Common.{ℕ, List, ◌∷◌, None, codes, ◌∙◌, arith}
use Rattle.lexical.specs.Quoted.{body, close, suffix}
use Rattle.lexical.specs.RawString.{hashes, may_stand_raw, is_raw_plain, raw, raw_quotes, raw_unit}
use Rattle.lexical.specs.Rule.{Exactly, Next}
use Rattle.lexical.proofs.QuotedFinderLemmas.{clear_raw_body}
use Rattle.lexical.proofs.RuleSteps.{run_goes_on, then_passes, then_lacks, then_reads, passes_same}
use Rattle.lexical.proofs.UnitSteps.{next_lacks, leads_then, leads_next, leads_on, leads_fails, leads_passes}
use Rattle.lexical.proofs.UnitSteps.{leads_unit, leads_last, unit_shortens, leads_run, raw_plain_unit, found_cons}
use Rattle.lexical.proofs.raw_strings.raw_string.Goals as goal

pub returns-in_err-hashes : goal.returns-in_err-hashes
returns-in_err-hashes c =
    let quotes = raw_quotes (may_stand_raw c.args.kind) in
    let one = leads_then (Exactly c.args.front.now) (Next hashes quotes) _ _ c.in_ok-past.ensures in
    leads_fails _ _ _ _ _ c.from_residual-in_err-hashes.ensures one (next_lacks hashes quotes _ c.in_err-hashes.ensures)

pub returns-in_err-end : goal.returns-in_err-end
returns-in_err-end c =
    let quotes = raw_quotes (may_stand_raw c.args.kind) in
    let text : List ℕ = 34 ∷ c.in_ok-hashes.hashes.now in
    let one = leads_then (Exactly c.args.front.now) (Next hashes quotes) _ _ c.in_ok-past.ensures in
    let two = leads_next (raw c.args.front.now (may_stand_raw c.args.kind)) hashes quotes _ _
    (c.in_ok-hashes.hashes, c.in_ok-hashes.quote) one c.in_ok-hashes.ensures in
    leads_fails _ _ _ _ _ c.from_residual-in_err-end.ensures two
    (then_lacks (Exactly (codes "\"")) (body (raw_unit (may_stand_raw c.args.kind) text) text) _ c.in_err-end.ensures)

pub loop-after-init : goal.loop-after-init
loop-after-init c =
    let quotes = raw_quotes (may_stand_raw c.args.kind) in
    let rule = raw c.args.front.now (may_stand_raw c.args.kind) in
    let text : List ℕ = 34 ∷ c.in_ok-hashes.hashes.now in
    let one = leads_then (Exactly c.args.front.now) (Next hashes quotes) _ _ c.in_ok-past.ensures in
    let two = leads_next rule hashes quotes _ _
    (c.in_ok-hashes.hashes, c.in_ok-hashes.quote) one c.in_ok-hashes.ensures in
    leads_on rule (Exactly (codes "\"")) (body (raw_unit (may_stand_raw c.args.kind) text) text) _ _ _ two
    c.in_ok-end.ensures

pub loop-after-smaller : goal.loop-after-smaller
loop-after-smaller c =
    let text : List ℕ = 34 ∷ c.in_ok-hashes.hashes.now in
    let shorter = unit_shortens (raw_unit (may_stand_raw c.args.kind) text) (close text)
    (clear_raw_body c.args.kind text) _ _ c.in-Some.ensures in
    omega (arith, shorter, run_goes_on _ _ _ c.skip_plain-end.ensures)

pub loop-after-preserved : goal.loop-after-preserved
loop-after-preserved c =
    let text : List ℕ = 34 ∷ c.in_ok-hashes.hashes.now in
    let lead = leads_unit (raw_unit (may_stand_raw c.args.kind) text) (close text) (clear_raw_body c.args.kind text)
    _ _ _ _ c.loop-after.invariant c.in-Some.ensures in
    leads_run (raw_unit (may_stand_raw c.args.kind) text) (close text) (clear_raw_body c.args.kind text)
    (is_raw_plain c.args.kind)
    (raw_plain_unit c.args.kind c.in_ok-hashes.hashes.now) _ _ _ _ lead c.skip_plain-end.ensures

pub returns-in_err-past-2 : goal.returns-in_err-past-2
returns-in_err-past-2 c =
    let text : List ℕ = 34 ∷ c.in_ok-hashes.hashes.now in
    let last = leads_last (raw_unit (may_stand_raw c.args.kind) text) (close text)
    (clear_raw_body c.args.kind text) _ _ _ c.loop-after.invariant c.in_default.ensures in
    leads_fails _ _ _ _ _ c.from_residual-in_err-past-2.ensures last
    (then_lacks (Exactly text) suffix _
    (found_cons 34 c.in_ok-hashes.hashes.now _
    ∙ then_lacks (Exactly (codes "\"")) (Exactly c.in_ok-hashes.hashes.now) _ c.in_err-past-2.ensures))

pub returns-in_err-past-3 : goal.returns-in_err-past-3
returns-in_err-past-3 c =
    let text : List ℕ = 34 ∷ c.in_ok-hashes.hashes.now in
    let last = leads_last (raw_unit (may_stand_raw c.args.kind) text) (close text)
    (clear_raw_body c.args.kind text) _ _ _ c.loop-after.invariant c.in_default.ensures in
    leads_fails _ _ _ _ _ c.from_residual-in_err-past-3.ensures last
    (then_lacks (Exactly text) suffix _
    (found_cons 34 c.in_ok-hashes.hashes.now _
    ∙ then_reads (Exactly (codes
    "\"")) (Exactly c.in_ok-hashes.hashes.now) _ _ None c.in_ok-past-2.ensures c.in_err-past-3.ensures))

pub returns : goal.returns
returns c =
    let text : List ℕ = 34 ∷ c.in_ok-hashes.hashes.now in
    let last = leads_last (raw_unit (may_stand_raw c.args.kind) text) (close text)
    (clear_raw_body c.args.kind text) _ _ _ c.loop-after.invariant c.in_default.ensures in
    leads_passes _ _ _ _ _ last
    (then_passes (Exactly text) suffix _ _ _
    (passes_same _ (Exactly text) _ _ (found_cons 34 c.in_ok-hashes.hashes.now _)
    (then_passes _ _ _ _ _ c.in_ok-past-2.ensures c.in_ok-past-3.ensures)) c.suffix.ensures)

pub returns-in_err-past : goal.returns-in_err-past
returns-in_err-past c =
    rw c.from_residual.ensures
    (then_lacks (Exactly c.args.front.now) (Next hashes (raw_quotes (may_stand_raw c.args.kind))) _
    c.in_err-past.ensures)
