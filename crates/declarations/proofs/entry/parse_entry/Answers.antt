use Rattle.declarations.specs.Entry.{IsNearEntryAt, IsNearFault}
use Rattle.declarations.specs.EntryExpects.{ExpectsNear}
use Rattle.declarations.proofs.EntryExpectsLemmas.{held_expected, plain_expected}
use Rattle.declarations.proofs.HeldLemmas.{held_fails, held_found, held_less, held_only, plain_fails, plain_found}
use Rattle.declarations.proofs.HeldLemmas.{plain_only}
use Rattle.declarations.proofs.entry.parse_entry.Goals as goal

pub returns-in-Some-clause-ok : goal.returns-in-Some-clause-ok
returns-in-Some-clause-ok c =
    held_found c.args.trees.now c.held_entry.result IsNearEntryAt c.in-Some.after.now c.in-Some.group.now
    c.in-Some.ensures.found
    c.held_entry.ensures.ok

pub returns-in-Some-clause-fewer : goal.returns-in-Some-clause-fewer
returns-in-Some-clause-fewer c =
    held_less c.args.trees.now c.in-Some.after.now c.in-Some.group.now c.held_entry.result c.in-Some.ensures.found
    c.held_entry.ensures.within

pub returns-in-Some-clause-fault : goal.returns-in-Some-clause-fault
returns-in-Some-clause-fault c =
    held_fails c.args.trees.now c.held_entry.result IsNearEntryAt IsNearFault c.in-Some.after.now c.in-Some.group.now
    c.in-Some.ensures.found c.held_entry.ensures.fault

pub returns-in-None-clause-ok : goal.returns-in-None-clause-ok
returns-in-None-clause-ok c =
    plain_found c.args.trees.now c.plain_entry.result IsNearEntryAt c.in-None.ensures.none c.plain_entry.ensures.ok

pub returns-in-None-clause-fault : goal.returns-in-None-clause-fault
returns-in-None-clause-fault c =
    plain_fails c.args.trees.now c.plain_entry.result IsNearEntryAt IsNearFault c.in-None.ensures.none
    c.plain_entry.ensures.fault

pub returns-in-Some-clause-only : goal.returns-in-Some-clause-only
returns-in-Some-clause-only c =
    held_only c.args.trees.now c.in-Some.after.now c.in-Some.group.now c.held_entry.result c.in-Some.ensures.found

pub returns-in-None-clause-only : goal.returns-in-None-clause-only
returns-in-None-clause-only c = plain_only c.args.trees.now c.plain_entry.result c.plain_entry.ensures.only

pub returns-in-Some-clause-expected : goal.returns-in-Some-clause-expected
returns-in-Some-clause-expected c =
    held_expected IsNearEntryAt IsNearFault ExpectsNear c.args.trees.now c.held_entry.result c.in-Some.after.now
    c.in-Some.group.now c.in-Some.ensures.found c.held_entry.ensures.expected

pub returns-in-None-clause-expected : goal.returns-in-None-clause-expected
returns-in-None-clause-expected c =
    plain_expected IsNearEntryAt IsNearFault ExpectsNear c.args.trees.now c.plain_entry.result c.in-None.ensures.none
    c.plain_entry.ensures.expected
