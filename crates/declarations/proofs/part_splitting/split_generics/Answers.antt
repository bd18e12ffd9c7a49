use Rattle.declarations.proofs.PartReaderLemmas.{generics_expects, generics_fault, generics_only, generics_reads}
use Rattle.declarations.proofs.PartReaderLemmas.{generics_span, generics_within}
use Rattle.declarations.proofs.part_splitting.split_generics.Goals as goal

pub returns-in-Ok-clause-only : goal.returns-in-Ok-clause-only
returns-in-Ok-clause-only c =
    generics_only c.args.trees.now c.part.result.now c.in-Ok.rest.now c.in-Ok.ensures c.part.ensures

pub returns-in-Err-clause-expected : goal.returns-in-Err-clause-expected
returns-in-Err-clause-expected c =
    generics_expects c.args.trees.now c.in-Err.left.now c.fault_by.result.at c.fault_by.result.expected
    c.in-Err.ensures c.fault_by.ensures.at c.fault_by.ensures.expected

pub part-requires : goal.part-requires
part-requires c = c.in-Ok.ensures.remains

pub fault_by-requires : goal.fault_by-requires
fault_by-requires c = generics_within c.args.trees.now c.in-Err.left.now c.in-Err.ensures

pub returns-in-Ok-clause-ok : goal.returns-in-Ok-clause-ok
returns-in-Ok-clause-ok c =
    generics_reads c.args.trees.now c.part.result.now c.in-Ok.rest.now c.in-Ok.ensures c.part.ensures

pub returns-in-Err-clause-fault : goal.returns-in-Err-clause-fault
returns-in-Err-clause-fault c =
    generics_fault c.args.trees.now c.in-Err.left.now c.fault_by.result.at c.in-Err.ensures c.fault_by.ensures.at

pub returns-in-Err-clause-span : goal.returns-in-Err-clause-span
returns-in-Err-clause-span c =
    generics_span c.args.trees.now c.in-Err.left.now c.fault_by.result.at c.fault_by.result.span c.in-Err.ensures
    c.fault_by.ensures.at c.fault_by.ensures.span
