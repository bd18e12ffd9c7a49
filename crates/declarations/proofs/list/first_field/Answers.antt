use Rattle.std.proofs.Common.{inl}
use Rattle.declarations.specs.List.{field_form}
use Rattle.declarations.proofs.CommaLemmas.{field_lacks_comma}
use Rattle.declarations.proofs.ListLemmas.{field_fewer, field_part, rest_within}
use Rattle.declarations.proofs.list.first_field.Goals as goal

pub returns-in-Err-clause-given : goal.returns-in-Err-clause-given
returns-in-Err-clause-given c = record {
  place = inl (record { place = c.in-Err.ensures.fault; expected = c.in-Err.ensures.expected });
  span = c.in-Err.ensures.span;
}

pub returns-in-Some-clause-given : goal.returns-in-Some-clause-given
returns-in-Some-clause-given c = (c.in-Ok.rest.now, c.in-Ok.ensures.ok, c.in-Some.ensures.found)

pub returns-in-Some-clause-fewer : goal.returns-in-Some-clause-fewer
returns-in-Some-clause-fewer c =
    field_fewer c.args.named c.args.trees.now c.in-Ok.rest.now _ _ c.in-Ok.ensures.ok
    c.in-Some.ensures.found

pub returns-in-None-clause-given : goal.returns-in-None-clause-given
returns-in-None-clause-given c =
    let part = field_part c.args.named c.args.trees.now c.in-Ok.rest.now _ c.in-Ok.ensures.ok in
    field_lacks_comma c.args.named c.args.trees.now part.0 c.in-Ok.rest.now _ part.1 c.in-None.ensures.none
    c.fault_after_field.ensures.at c.fault_after_field.ensures.span c.fault_after_field.ensures.expected

pub fault_after_field-requires : goal.fault_after_field-requires
fault_after_field-requires c =
    let part = field_part c.args.named c.args.trees.now c.in-Ok.rest.now _ c.in-Ok.ensures.ok in
    rest_within (field_form c.args.named) c.args.trees.now part.0 c.in-Ok.rest.now part.1
