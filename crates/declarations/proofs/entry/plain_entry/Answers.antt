use Rattle.declarations.specs.rules.Entries.{entry}
use Rattle.declarations.proofs.EntryLemmas.{entry_at, entry_fault, entry_fewer, entry_only, entry_span, starts_entry}
use Rattle.declarations.proofs.RuleExpectsLemmas.{stuck_expects}
use Rattle.declarations.proofs.entry.plain_entry.Goals as goal

pub returns-in-Ok-clause-ok : goal.returns-in-Ok-clause-ok
returns-in-Ok-clause-ok c =
    entry_at c.args.trees.now c.in-Ok.rest.now c.in-Ok.entry c.in-Ok.ensures.0 c.in-Ok.ensures.1

pub returns-in-Ok-clause-only : goal.returns-in-Ok-clause-only
returns-in-Ok-clause-only c = entry_only c.args.trees.now c.in-Ok.rest.now c.in-Ok.ensures.0

pub returns-in-Ok-clause-fewer : goal.returns-in-Ok-clause-fewer
returns-in-Ok-clause-fewer c = entry_fewer c.args.trees.now c.in-Ok.rest.now c.in-Ok.ensures.0

pub returns-in-Err-clause-fault : goal.returns-in-Err-clause-fault
returns-in-Err-clause-fault c = record {
  place = entry_fault c.args.trees.now c.in-Err.left.now c.fault_by.result.at c.in-Err.ensures c.fault_by.ensures.at;
  span = entry_span c.args.trees.now c.in-Err.left.now c.fault_by.result.at c.fault_by.result.span c.in-Err.ensures
      c.fault_by.ensures.at c.fault_by.ensures.span;
}

pub returns-in-Err-clause-expected : goal.returns-in-Err-clause-expected
returns-in-Err-clause-expected c =
    stuck_expects entry starts_entry c.args.trees.now c.in-Err.left.now c.fault_by.result.at c.fault_by.result.expected
    c.in-Err.ensures c.fault_by.ensures.at c.fault_by.ensures.expected
