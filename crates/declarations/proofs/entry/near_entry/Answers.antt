use Rattle.declarations.specs.Entry.{IsPlainEntryAt, IsPlainEntryFault}
use Rattle.declarations.specs.Expected.{Expects}
use Rattle.declarations.specs.rules.Entries as rule
use Rattle.declarations.specs.rules.Pieces.{ByRule}
use Rattle.declarations.proofs.EntryExpectsLemmas.{held_expected, plain_expected}
use Rattle.declarations.proofs.HeldLemmas.{held_fails, held_found, held_less, plain_fails, plain_found}
use Rattle.declarations.proofs.entry.near_entry.Goals as goal

pub returns-in-Some-clause-ok : goal.returns-in-Some-clause-ok
returns-in-Some-clause-ok c =
    held_found c.args.trees.now c.near_held.result IsPlainEntryAt c.in-Some.after.now c.in-Some.group.now
    c.in-Some.ensures.found
    c.near_held.ensures.ok

pub returns-in-Some-clause-fewer : goal.returns-in-Some-clause-fewer
returns-in-Some-clause-fewer c =
    held_less c.args.trees.now c.in-Some.after.now c.in-Some.group.now c.near_held.result c.in-Some.ensures.found
    c.near_held.ensures.within

pub returns-in-Some-clause-fault : goal.returns-in-Some-clause-fault
returns-in-Some-clause-fault c =
    held_fails c.args.trees.now c.near_held.result IsPlainEntryAt IsPlainEntryFault c.in-Some.after.now
    c.in-Some.group.now
    c.in-Some.ensures.found c.near_held.ensures.fault

pub returns-in-None-clause-ok : goal.returns-in-None-clause-ok
returns-in-None-clause-ok c =
    plain_found c.args.trees.now c.plain_entry.result IsPlainEntryAt c.in-None.ensures.none c.plain_entry.ensures.ok

pub returns-in-None-clause-fault : goal.returns-in-None-clause-fault
returns-in-None-clause-fault c =
    plain_fails c.args.trees.now c.plain_entry.result IsPlainEntryAt IsPlainEntryFault c.in-None.ensures.none
    c.plain_entry.ensures.fault

pub returns-in-Some-clause-expected : goal.returns-in-Some-clause-expected
returns-in-Some-clause-expected c =
    held_expected IsPlainEntryAt IsPlainEntryFault (Expects (ByRule rule.entry)) c.args.trees.now c.near_held.result
    c.in-Some.after.now c.in-Some.group.now c.in-Some.ensures.found c.near_held.ensures.expected

pub returns-in-None-clause-expected : goal.returns-in-None-clause-expected
returns-in-None-clause-expected c =
    plain_expected IsPlainEntryAt IsPlainEntryFault (Expects (ByRule rule.entry)) c.args.trees.now c.plain_entry.result
    c.in-None.ensures.none c.plain_entry.ensures.expected
