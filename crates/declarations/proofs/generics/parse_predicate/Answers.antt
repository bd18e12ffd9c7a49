use Rattle.declarations.specs.Param.{predicate_trees}
use Rattle.declarations.specs.rules.Parts as rule
use Rattle.declarations.proofs.ParamLemmas.{fewer_predicate, one_predicate, predicate_at, predicate_end_fails}
use Rattle.declarations.proofs.ParamRuleLemmas.{comma_lacks, element_lacks, element_reads, starts_predicate}
use Rattle.declarations.proofs.ReaderLemmas.{remains_within}
use Rattle.declarations.proofs.generics.parse_predicate.Goals as goal

-- ---- an element is read

pub returns-in-Some-clause-ok : goal.returns-in-Some-clause-ok
returns-in-Some-clause-ok c =
    predicate_at c.args.trees.now (predicate_trees c.in-Ok.predicate) c.in-Ok.from_end.now c.in-Some.rest.now
    c.in-Ok.ensures.ok c.in-Some.ensures

pub returns-in-Some-clause-only : goal.returns-in-Some-clause-only
returns-in-Some-clause-only c =
    one_predicate c.args.trees.now (predicate_trees c.in-Ok.predicate) c.in-Some.rest.now
    (predicate_at c.args.trees.now (predicate_trees c.in-Ok.predicate) c.in-Ok.from_end.now c.in-Some.rest.now
    c.in-Ok.ensures.ok c.in-Some.ensures)

pub returns-in-Some-clause-fewer : goal.returns-in-Some-clause-fewer
returns-in-Some-clause-fewer c =
    fewer_predicate c.args.trees.now (predicate_trees c.in-Ok.predicate) c.in-Some.rest.now
    (predicate_at c.args.trees.now (predicate_trees c.in-Ok.predicate) c.in-Ok.from_end.now c.in-Some.rest.now
    c.in-Ok.ensures.ok c.in-Some.ensures)

pub returns-in-Some-clause-reads : goal.returns-in-Some-clause-reads
returns-in-Some-clause-reads c =
    element_reads rule.predicate starts_predicate c.args.trees.now c.in-Ok.from_end.now c.in-Some.rest.now
    c.in-Ok.ensures.rule c.in-Some.ensures

-- ---- no comma comes after it

pub fault_at_comma-requires : goal.fault_at_comma-requires
fault_at_comma-requires c = remains_within c.args.trees.now c.in-Ok.from_end.now c.in-Ok.ensures.rule.remains

pub returns-in-None-clause-fault : goal.returns-in-None-clause-fault
returns-in-None-clause-fault c = λ predicate2 rest is.
    predicate_end_fails c.args.trees.now c.in-Ok.predicate.bounded.now c.in-Ok.ensures.ok.from_colon
    c.in-Ok.predicate.bounds.now c.in-Ok.from_end.now c.in-Ok.ensures.ok.bounded c.in-Ok.ensures.ok.bounds
    c.in-None.ensures predicate2 rest is

pub returns-in-None-clause-place : goal.returns-in-None-clause-place
returns-in-None-clause-place c =
    comma_lacks rule.predicate starts_predicate c.args.trees.now c.in-Ok.from_end.now c.fault_at_comma.result
    c.fault_at_comma.ensures.at c.fault_at_comma.ensures.span c.in-Ok.ensures.rule c.in-None.ensures
    c.fault_at_comma.ensures.expected

pub returns-in-None-clause-span : goal.returns-in-None-clause-span
returns-in-None-clause-span c =
    (comma_lacks rule.predicate starts_predicate c.args.trees.now c.in-Ok.from_end.now c.fault_at_comma.result
    c.fault_at_comma.ensures.at c.fault_at_comma.ensures.span c.in-Ok.ensures.rule c.in-None.ensures
    c.fault_at_comma.ensures.expected).span

-- ---- no element is read

pub fault_by-requires : goal.fault_by-requires
fault_by-requires c = remains_within c.args.trees.now c.in-Err.left.now c.in-Err.ensures.rule.remains

pub returns-in-Err-clause-place : goal.returns-in-Err-clause-place
returns-in-Err-clause-place c =
    element_lacks rule.predicate starts_predicate c.args.trees.now c.in-Err.left.now c.fault_by.result
    c.fault_by.ensures.at c.fault_by.ensures.span c.in-Err.ensures.rule c.fault_by.ensures.expected

pub returns-in-Err-clause-span : goal.returns-in-Err-clause-span
returns-in-Err-clause-span c =
    (element_lacks rule.predicate starts_predicate c.args.trees.now c.in-Err.left.now c.fault_by.result
    c.fault_by.ensures.at c.fault_by.ensures.span c.in-Err.ensures.rule c.fault_by.ensures.expected).span
