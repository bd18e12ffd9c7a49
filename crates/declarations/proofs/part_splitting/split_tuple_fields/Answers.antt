use Rattle.declarations.proofs.PartReaderLemmas.{
  tuple_fields_expects,
  tuple_fields_fault,
  tuple_fields_only,
  tuple_fields_reads,
  tuple_fields_span,
}
use Rattle.declarations.proofs.ReaderLemmas.{remains_within}
use Rattle.declarations.proofs.part_splitting.split_tuple_fields.Goals as goal

pub part-requires : goal.part-requires
part-requires c = c.in-Ok.ensures.remains

pub fault_by-requires : goal.fault_by-requires
fault_by-requires c = remains_within c.args.trees.now c.in-Err.left.now c.in-Err.ensures.remains

pub returns-in-Ok-clause-ok : goal.returns-in-Ok-clause-ok
returns-in-Ok-clause-ok c =
    tuple_fields_reads c.args.trees.now c.part.result.now c.in-Ok.rest.now c.in-Ok.ensures c.part.ensures

pub returns-in-Ok-clause-only : goal.returns-in-Ok-clause-only
returns-in-Ok-clause-only c =
    tuple_fields_only c.args.trees.now c.part.result.now c.in-Ok.rest.now c.in-Ok.ensures c.part.ensures

pub returns-in-Err-clause-fault : goal.returns-in-Err-clause-fault
returns-in-Err-clause-fault c =
    tuple_fields_fault c.args.trees.now c.in-Err.left.now c.fault_by.result.at c.in-Err.ensures c.fault_by.ensures.at

pub returns-in-Err-clause-span : goal.returns-in-Err-clause-span
returns-in-Err-clause-span c =
    tuple_fields_span c.args.trees.now c.in-Err.left.now c.fault_by.result.at c.fault_by.result.span c.in-Err.ensures
    c.fault_by.ensures.at c.fault_by.ensures.span

pub returns-in-Err-clause-expected : goal.returns-in-Err-clause-expected
returns-in-Err-clause-expected c =
    tuple_fields_expects c.args.trees.now c.in-Err.left.now c.fault_by.result.at c.fault_by.result.expected
    c.in-Err.ensures c.fault_by.ensures.at c.fault_by.ensures.expected
