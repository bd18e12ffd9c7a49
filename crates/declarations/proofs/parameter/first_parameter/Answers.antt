use Rattle.std.proofs.Common.{inl, arith}
use Rattle.declarations.specs.rules.Parameters.{function_parameter}
use Rattle.declarations.specs.rules.Pieces.{ByRule}
use Rattle.declarations.proofs.CommaLemmas.{lacks_comma}
use Rattle.declarations.proofs.ListLemmas.{past_fewer, rest_within}
use Rattle.declarations.proofs.ParameterLemmas.{starts_parameter}
use Rattle.declarations.proofs.parameter.first_parameter.Goals as goal

pub returns-in-Err-clause-given : goal.returns-in-Err-clause-given
returns-in-Err-clause-given c = record {
  place = inl (record { place = c.in-Err.ensures.fault; expected = c.in-Err.ensures.expected });
  span = c.in-Err.ensures.span;
}

pub returns-in-Some-clause-given : goal.returns-in-Some-clause-given
returns-in-Some-clause-given c = (c.in-Ok.rest.now, c.in-Ok.ensures.ok, c.in-Some.ensures.found)

pub returns-in-Some-clause-fewer : goal.returns-in-Some-clause-fewer
returns-in-Some-clause-fewer c =
    let past = past_fewer c.in-Ok.rest.now _ c.in-Some.ensures.found in
    let fewer = c.in-Ok.ensures.fewer in
    omega (arith, past, fewer)

pub returns-in-None-clause-given : goal.returns-in-None-clause-given
returns-in-None-clause-given c =
    let at = c.in-Ok.ensures.ok in
    lacks_comma function_parameter starts_parameter
    c.args.trees.now at.part c.in-Ok.rest.now _ at.reads c.in-None.ensures.none c.fault_at_comma.ensures.at
    c.fault_at_comma.ensures.span
    c.fault_at_comma.ensures.expected

pub fault_at_comma-requires : goal.fault_at_comma-requires
fault_at_comma-requires c =
    let at = c.in-Ok.ensures.ok in
    rest_within (ByRule function_parameter) c.args.trees.now at.part c.in-Ok.rest.now at.reads
