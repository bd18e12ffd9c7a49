use Rattle.declarations.specs.Kind.{name_at}
use Rattle.declarations.proofs.AnyItemLemmas.{item_expects, item_fault, item_only, item_reads, item_within}
use Rattle.declarations.proofs.AnyItemLemmas.{stuck_span}
use Rattle.declarations.proofs.FileLemmas.{item_fewer}
use Rattle.declarations.proofs.any_item.split_any_item.Goals as goal

pub returns-in-Ok-clause-only : goal.returns-in-Ok-clause-only
returns-in-Ok-clause-only c =
    item_only c.args.trees.now c.part-item.result.now c.in-Ok.found.rest.now c.in-Ok.ensures.0 c.part-item.ensures

pub returns-in-Ok-clause-fewer : goal.returns-in-Ok-clause-fewer
returns-in-Ok-clause-fewer c =
    item_fewer c.args.trees.now c.part-item.result.now c.in-Ok.found.rest.now
    (item_reads c.args.trees.now c.part-item.result.now c.in-Ok.found.rest.now c.in-Ok.ensures.0 c.part-item.ensures)

pub returns-in-Ok-clause-kind_and_name : goal.returns-in-Ok-clause-kind_and_name
returns-in-Ok-clause-kind_and_name c =
    (name_at c.in-Ok.found.kind c.in-Ok.found.named.now, c.in-Ok.ensures.1, c.name_of-name.ensures)

pub returns-in-Err-clause-expected : goal.returns-in-Err-clause-expected
returns-in-Err-clause-expected c =
    item_expects c.args.trees.now c.in-Err.left.now c.fault_by.result.at c.fault_by.result.expected
    c.in-Err.ensures c.fault_by.ensures.at c.fault_by.ensures.expected

pub returns-in-Ok-clause-ok : goal.returns-in-Ok-clause-ok
returns-in-Ok-clause-ok c =
    item_reads c.args.trees.now c.part-item.result.now c.in-Ok.found.rest.now c.in-Ok.ensures.0 c.part-item.ensures

pub returns-in-Err-clause-fault : goal.returns-in-Err-clause-fault
returns-in-Err-clause-fault c =
    item_fault c.args.trees.now c.in-Err.left.now c.fault_by.result.at c.in-Err.ensures c.fault_by.ensures.at

pub returns-in-Err-clause-span : goal.returns-in-Err-clause-span
returns-in-Err-clause-span c =
    stuck_span c.args.trees.now c.in-Err.left.now c.fault_by.result.at c.fault_by.result.span c.in-Err.ensures
    c.fault_by.ensures.at c.fault_by.ensures.span

pub fault_by-requires : goal.fault_by-requires
fault_by-requires c = item_within c.args.trees.now c.in-Err.left.now c.in-Err.ensures

pub part-item-requires : goal.part-item-requires
part-item-requires c = c.in-Ok.ensures.0.remains
