use Rattle.declarations.proofs.PartReaderLemmas.{variant_only, variant_reads, variant_remains}
use Rattle.declarations.proofs.part_splitting.split_variant.Goals as goal

pub returns-in-Ok-clause-only : goal.returns-in-Ok-clause-only
returns-in-Ok-clause-only c =
    variant_only c.args.trees.now c.part.result.now c.in-Ok.rest.now _ c.in-Ok.ensures.ok c.part.ensures

pub part-requires : goal.part-requires
part-requires c = variant_remains c.args.trees.now c.in-Ok.rest.now _ c.in-Ok.ensures.ok

pub returns-in-Ok-clause-ok : goal.returns-in-Ok-clause-ok
returns-in-Ok-clause-ok c =
    variant_reads c.args.trees.now c.part.result.now c.in-Ok.rest.now _ c.in-Ok.ensures.ok c.part.ensures

pub returns-in-Err-clause-fault : goal.returns-in-Err-clause-fault
returns-in-Err-clause-fault c = c.in-Err.ensures.fault

pub returns-in-Err-clause-span : goal.returns-in-Err-clause-span
returns-in-Err-clause-span c = c.in-Err.ensures.span

pub returns-in-Err-clause-expected : goal.returns-in-Err-clause-expected
returns-in-Err-clause-expected c = c.in-Err.ensures.expected
