use Rattle.declarations.specs.rules.Parameters.{pattern}
use Rattle.declarations.proofs.ParameterLemmas.{pattern_fault, pattern_only, pattern_read, pattern_span}
use Rattle.declarations.proofs.ParameterLemmas.{starts_pattern}
use Rattle.declarations.proofs.ReaderLemmas.{remains_within}
use Rattle.declarations.proofs.RuleExpectsLemmas.{stuck_expects}
use Rattle.declarations.proofs.parameter.split_pattern.Goals as goal

pub returns-in-Ok-clause-only : goal.returns-in-Ok-clause-only
returns-in-Ok-clause-only c =
    pattern_only c.args.trees.now c.part.result.now c.in-Ok.rest.now c.in-Ok.ensures c.part.ensures

pub returns-in-Err-clause-expected : goal.returns-in-Err-clause-expected
returns-in-Err-clause-expected c =
    stuck_expects pattern starts_pattern c.args.trees.now c.in-Err.left.now c.fault_by.result.at
    c.fault_by.result.expected c.in-Err.ensures c.fault_by.ensures.at c.fault_by.ensures.expected

pub returns-in-Ok-clause-ok : goal.returns-in-Ok-clause-ok
returns-in-Ok-clause-ok c =
    pattern_read c.args.trees.now c.part.result.now c.in-Ok.rest.now c.in-Ok.ensures c.part.ensures

pub returns-in-Err-clause-fault : goal.returns-in-Err-clause-fault
returns-in-Err-clause-fault c =
    pattern_fault c.args.trees.now c.in-Err.left.now c.fault_by.result.at c.in-Err.ensures c.fault_by.ensures.at

pub returns-in-Err-clause-span : goal.returns-in-Err-clause-span
returns-in-Err-clause-span c =
    pattern_span c.args.trees.now c.in-Err.left.now c.fault_by.result.at c.fault_by.result.span c.in-Err.ensures
    c.fault_by.ensures.at c.fault_by.ensures.span

pub part-requires : goal.part-requires
part-requires c = c.in-Ok.ensures.remains

pub fault_by-requires : goal.fault_by-requires
fault_by-requires c = remains_within c.args.trees.now c.in-Err.left.now c.in-Err.ensures.remains
