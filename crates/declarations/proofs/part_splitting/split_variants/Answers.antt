use Rattle.declarations.proofs.PartReaderLemmas.{variants_expects, variants_fault, variants_only, variants_reads}
use Rattle.declarations.proofs.PartReaderLemmas.{variants_span, variants_within}
use Rattle.declarations.proofs.part_splitting.split_variants.Goals as goal

pub returns-in-Ok-clause-only : goal.returns-in-Ok-clause-only
returns-in-Ok-clause-only c =
    variants_only c.args.trees.now c.part.result.now c.in-Ok.rest.now c.in-Ok.ensures c.part.ensures

pub returns-in-Err-clause-expected : goal.returns-in-Err-clause-expected
returns-in-Err-clause-expected c =
    variants_expects c.args.trees.now c.in-Err.left.now c.fault_by.result.at c.fault_by.result.expected
    c.in-Err.ensures c.fault_by.ensures.at c.fault_by.ensures.expected

pub returns-in-Ok-clause-ok : goal.returns-in-Ok-clause-ok
returns-in-Ok-clause-ok c =
    variants_reads c.args.trees.now c.part.result.now c.in-Ok.rest.now c.in-Ok.ensures c.part.ensures

pub returns-in-Err-clause-fault : goal.returns-in-Err-clause-fault
returns-in-Err-clause-fault c =
    variants_fault c.args.trees.now c.in-Err.left.now c.fault_by.result.at c.in-Err.ensures c.fault_by.ensures.at

pub returns-in-Err-clause-span : goal.returns-in-Err-clause-span
returns-in-Err-clause-span c =
    variants_span c.args.trees.now c.in-Err.left.now c.fault_by.result.at c.fault_by.result.span c.in-Err.ensures
    c.fault_by.ensures.at c.fault_by.ensures.span

pub part-requires : goal.part-requires
part-requires c = c.in-Ok.ensures.remains

pub fault_by-requires : goal.fault_by-requires
fault_by-requires c = variants_within c.args.trees.now c.in-Err.left.now c.in-Err.ensures
