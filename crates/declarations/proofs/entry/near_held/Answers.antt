use Rattle.std.proofs.Common.{refl, subst, []}
use Rattle.declarations.specs.Entry.{IsPlainEntryAt, IsPlainEntryFault}
use Rattle.declarations.specs.Expected.{Expects}
use Rattle.declarations.specs.rules.Entries as rule
use Rattle.declarations.specs.rules.Pieces.{ByRule}
use Rattle.declarations.proofs.EntryExpectsLemmas.{path_expected, within_expected}
use Rattle.declarations.proofs.HeldLemmas.{held_path, held_path_fault, within_fault}
use Rattle.declarations.proofs.entry.near_held.Goals as goal

pub returns-in-Path-clause-ok : goal.returns-in-Path-clause-ok
returns-in-Path-clause-ok c =
    held_path IsPlainEntryAt _ c.args.after.now _ c.in-Ok.plain c.go_on.result
    (subst (λ ts. IsPlainEntryAt ts c.in-Ok.plain []) c.inside_of.ensures c.in-Ok.ensures.ok) c.in-Path.is refl
    c.go_on.ensures.read

pub returns-in-Path-clause-fault : goal.returns-in-Path-clause-fault
returns-in-Path-clause-fault c =
    held_path_fault IsPlainEntryAt IsPlainEntryFault c.args.group.now c.args.after.now _ c.in-Ok.plain c.go_on.result
    (subst (λ ts. IsPlainEntryAt ts c.in-Ok.plain []) c.inside_of.ensures c.in-Ok.ensures.ok) c.in-Path.is
    c.go_on.ensures.read

pub returns-in-Err-clause-fault : goal.returns-in-Err-clause-fault
returns-in-Err-clause-fault c =
    within_fault IsPlainEntryAt IsPlainEntryFault c.args.group.now c.args.after.now c.in-Err.fault c.fault_within.result
    (subst (λ ts. IsPlainEntryFault ts c.in-Err.fault) c.inside_of.ensures c.in-Err.ensures.err)
    c.fault_within.ensures.at
    c.fault_within.ensures.span

pub returns-in-Path-clause-expected : goal.returns-in-Path-clause-expected
returns-in-Path-clause-expected c =
    path_expected IsPlainEntryAt IsPlainEntryFault (Expects (ByRule rule.entry)) c.args.group.now c.args.after.now
    c.in-Ok.plain c.go_on.result
    (subst (λ ts. IsPlainEntryAt ts c.in-Ok.plain []) c.inside_of.ensures c.in-Ok.ensures.ok) c.in-Path.is
    c.go_on.ensures.expected

pub returns-in-Err-clause-expected : goal.returns-in-Err-clause-expected
returns-in-Err-clause-expected c =
    within_expected IsPlainEntryAt IsPlainEntryFault (Expects (ByRule rule.entry)) c.args.group.now c.args.after.now
    c.in-Err.fault c.fault_within.result
    (subst (λ ts. IsPlainEntryFault ts c.in-Err.fault) c.inside_of.ensures c.in-Err.ensures.err)
    (subst (λ ts. Expects (ByRule rule.entry) ts c.in-Err.fault.at c.in-Err.fault.expected) c.inside_of.ensures
    c.in-Err.ensures.expected) c.fault_within.ensures.expected
