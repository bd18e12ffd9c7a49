use Rattle.declarations.specs.rules.Parameters.{function_parameter}
use Rattle.declarations.proofs.ParameterLemmas.{parameter_at, parameter_fault, parameter_fewer, parameter_only}
use Rattle.declarations.proofs.ParameterLemmas.{starts_parameter}
use Rattle.declarations.proofs.RuleExpectsLemmas.{stuck_expects}
use Rattle.declarations.proofs.parameter.parse_parameter.Goals as goal

pub returns-in-Ok-clause-ok : goal.returns-in-Ok-clause-ok
returns-in-Ok-clause-ok c =
    parameter_at c.args.trees.now c.in-Ok.ensures.1 c.in-Ok.rest.now c.in-Ok.parameter c.in-Ok.ensures.0
    c.in-Ok.ensures.2 c.in-Ok.ensures.3

pub returns-in-Ok-clause-only : goal.returns-in-Ok-clause-only
returns-in-Ok-clause-only c = parameter_only c.args.trees.now c.in-Ok.rest.now c.in-Ok.ensures.0

pub returns-in-Ok-clause-fewer : goal.returns-in-Ok-clause-fewer
returns-in-Ok-clause-fewer c = parameter_fewer c.args.trees.now c.in-Ok.rest.now c.in-Ok.ensures.0

pub returns-in-Err-clause-fault : goal.returns-in-Err-clause-fault
returns-in-Err-clause-fault c =
    parameter_fault c.args.trees.now c.in-Err.left.now c.fault_by.result.at c.in-Err.ensures c.fault_by.ensures.at

pub returns-in-Err-clause-expected : goal.returns-in-Err-clause-expected
returns-in-Err-clause-expected c =
    stuck_expects function_parameter starts_parameter c.args.trees.now c.in-Err.left.now c.fault_by.result.at
    c.fault_by.result.expected c.in-Err.ensures c.fault_by.ensures.at c.fault_by.ensures.expected
