use Rattle.declarations.specs.rules.Paths.{generic_argument}
use Rattle.declarations.proofs.GenericArgumentLemmas.{argument_at, argument_fault, argument_fewer, argument_only}
use Rattle.declarations.proofs.GenericArgumentLemmas.{argument_span, starts_argument}
use Rattle.declarations.proofs.ReaderLemmas.{remains_within}
use Rattle.declarations.proofs.RuleExpectsLemmas.{stuck_expects}
use Rattle.declarations.proofs.generic_argument.parse_generic_argument.Goals as goal

pub returns-in-Ok-clause-ok : goal.returns-in-Ok-clause-ok
returns-in-Ok-clause-ok c =
    argument_at c.args.trees.now c.in-Ok.rest.now c.in-Ok.argument c.in-Ok.ensures.0 c.in-Ok.ensures.1

pub returns-in-Ok-clause-only : goal.returns-in-Ok-clause-only
returns-in-Ok-clause-only c = argument_only c.args.trees.now c.in-Ok.rest.now c.in-Ok.ensures.0

pub returns-in-Ok-clause-fewer : goal.returns-in-Ok-clause-fewer
returns-in-Ok-clause-fewer c = argument_fewer c.args.trees.now c.in-Ok.rest.now c.in-Ok.ensures.0

pub returns-in-Err-clause-fault : goal.returns-in-Err-clause-fault
returns-in-Err-clause-fault c =
    argument_fault c.args.trees.now c.in-Err.left.now c.fault_by.result.at c.in-Err.ensures c.fault_by.ensures.at

pub returns-in-Err-clause-expected : goal.returns-in-Err-clause-expected
returns-in-Err-clause-expected c =
    stuck_expects generic_argument starts_argument c.args.trees.now c.in-Err.left.now c.fault_by.result.at
    c.fault_by.result.expected c.in-Err.ensures c.fault_by.ensures.at c.fault_by.ensures.expected

pub returns-in-Err-clause-span : goal.returns-in-Err-clause-span
returns-in-Err-clause-span c =
    argument_span c.args.trees.now c.in-Err.left.now c.fault_by.result.at c.fault_by.result.span c.in-Err.ensures
    c.fault_by.ensures.at c.fault_by.ensures.span

pub fault_by-requires : goal.fault_by-requires
fault_by-requires c = remains_within c.args.trees.now c.in-Err.left.now c.in-Err.ensures.remains
