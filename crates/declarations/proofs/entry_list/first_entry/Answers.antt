use Rattle.std.proofs.Common.{arith}
use Rattle.declarations.specs.Entry.{IsNearEntryAt}
use Rattle.declarations.proofs.EntryExpectsLemmas.{entry_lacks_comma, entry_lacks_part}
use Rattle.declarations.proofs.HeldLemmas.{rest_less}
use Rattle.declarations.proofs.ListLemmas.{past_fewer}
use Rattle.declarations.proofs.entry_list.first_entry.Goals as goal

pub returns-in-Err-clause-given : goal.returns-in-Err-clause-given
returns-in-Err-clause-given c =
    entry_lacks_part c.args.trees.now c.in-Err.fault c.in-Err.ensures.fault c.in-Err.ensures.expected

pub returns-in-Some-clause-given : goal.returns-in-Some-clause-given
returns-in-Some-clause-given c = (c.in-Ok.rest.now, c.in-Ok.ensures.ok, c.in-Some.ensures.found)

pub returns-in-Some-clause-fewer : goal.returns-in-Some-clause-fewer
returns-in-Some-clause-fewer c =
    let past = past_fewer c.in-Ok.rest.now _ c.in-Some.ensures.found in
    let fewer = c.in-Ok.ensures.fewer in
    omega (arith, past, fewer)

pub returns-in-None-clause-given : goal.returns-in-None-clause-given
returns-in-None-clause-given c =
    entry_lacks_comma c.args.trees.now c.in-Ok.rest.now c.in-Ok.entry c.fault_without_comma.result c.in-Ok.ensures.ok
    c.in-None.ensures.none c.fault_without_comma.ensures.at c.fault_without_comma.ensures.span
    c.fault_without_comma.ensures.expected

pub fault_without_comma-requires : goal.fault_without_comma-requires
fault_without_comma-requires c =
    rest_less IsNearEntryAt c.args.trees.now c.in-Ok.rest.now c.in-Ok.entry c.in-Ok.ensures.ok
