use Rattle.std.proofs.Common.{eqb-true, inl, inr, subst, sym}
use Rattle.std.proofs.lemmas.List.{nil_from_length}
use Rattle.declarations.specs.Entry.{IsNearEntryAt, IsPlainEntryAt, IsPlainEntryFault}
use Rattle.declarations.specs.Expected.{Expects}
use Rattle.declarations.specs.rules.Entries as rule
use Rattle.declarations.specs.rules.Pieces.{ByRule}
use Rattle.declarations.proofs.EntryExpectsLemmas.{left_expected}
use Rattle.declarations.proofs.HeldLemmas.{leaves_some, no_rest, rest_less}
use Rattle.declarations.proofs.entry.whole_near_entry.Goals as goal

pub returns-else-is_empty-clause-err : goal.returns-else-is_empty-clause-err
returns-else-is_empty-clause-err c =
    inr
    (leaves_some IsPlainEntryAt c.args.trees.now c.in-Ok.after.now c.in-Ok.entry c.in-Ok.ensures.ok
    c.fault_after_entry.result c.fault_after_entry.ensures.at c.fault_after_entry.ensures.span
    (no_rest c.in-Ok.after.now c.is_empty.result c.is_empty.ensures c.if-is_empty.false))

pub returns-else-is_empty-clause-expected : goal.returns-else-is_empty-clause-expected
returns-else-is_empty-clause-expected c =
    left_expected IsPlainEntryAt c.args.trees.now c.in-Ok.after.now c.in-Ok.entry c.fault_after_entry.result.at
    c.fault_after_entry.result.expected c.in-Ok.ensures.ok
    (no_rest c.in-Ok.after.now c.is_empty.result c.is_empty.ensures c.if-is_empty.false)
    c.fault_after_entry.ensures.at c.fault_after_entry.ensures.expected IsPlainEntryFault (Expects (ByRule rule.entry))

pub fault_after_entry-requires : goal.fault_after_entry-requires
fault_after_entry-requires c =
    rest_less IsPlainEntryAt c.args.trees.now c.in-Ok.after.now c.in-Ok.entry c.in-Ok.ensures.ok

pub returns-then-is_empty-clause-ok : goal.returns-then-is_empty-clause-ok
returns-then-is_empty-clause-ok c =
    subst (IsNearEntryAt c.args.trees.now c.in-Ok.entry)
    (nil_from_length c.in-Ok.after.now (eqb-true _ _ (sym c.if-is_empty.ensures))) c.in-Ok.ensures.ok

pub returns-in-Err-clause-err : goal.returns-in-Err-clause-err
returns-in-Err-clause-err c = inl c.in-Err.ensures.fault

pub returns-in-Err-clause-expected : goal.returns-in-Err-clause-expected
returns-in-Err-clause-expected c = c.in-Err.ensures.expected
