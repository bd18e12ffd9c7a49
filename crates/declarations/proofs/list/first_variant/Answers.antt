use Rattle.std.proofs.Common.{inl}
use Rattle.declarations.specs.Forms.{IsVariant}
use Rattle.declarations.proofs.CommaLemmas.{variant_lacks_comma}
use Rattle.declarations.proofs.ListLemmas.{rest_within, variant_fewer}
use Rattle.declarations.proofs.list.first_variant.Goals as goal

pub returns-in-Err-clause-given : goal.returns-in-Err-clause-given
returns-in-Err-clause-given c = record {
  place = inl (record { place = c.in-Err.ensures.fault; expected = c.in-Err.ensures.expected });
  span = c.in-Err.ensures.span;
}

pub returns-in-Some-clause-given : goal.returns-in-Some-clause-given
returns-in-Some-clause-given c = (c.in-Ok.rest.now, c.in-Ok.ensures.ok, c.in-Some.ensures.found)

pub returns-in-Some-clause-fewer : goal.returns-in-Some-clause-fewer
returns-in-Some-clause-fewer c =
    variant_fewer c.args.trees.now c.in-Ok.rest.now _ _ c.in-Ok.ensures.ok c.in-Some.ensures.found

pub returns-in-None-clause-given : goal.returns-in-None-clause-given
returns-in-None-clause-given c =
    let at = c.in-Ok.ensures.ok in
    variant_lacks_comma c.args.trees.now at.part c.in-Ok.rest.now _ at.reads c.in-None.ensures.none
    c.fault_at_comma.ensures.at c.fault_at_comma.ensures.span c.fault_at_comma.ensures.expected

pub fault_at_comma-requires : goal.fault_at_comma-requires
fault_at_comma-requires c =
    let at = c.in-Ok.ensures.ok in
    rest_within IsVariant c.args.trees.now at.part c.in-Ok.rest.now at.reads
