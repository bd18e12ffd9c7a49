use Rattle.declarations.proofs.VariantLemmas.{rest_fails, rest_finds, rest_has, rest_sticks}
use Rattle.declarations.proofs.variant.named_of.Goals as goal

pub returns-in-Err-discriminant_of : goal.returns-in-Err-discriminant_of
returns-in-Err-discriminant_of c =
    rest_fails c.args.trees.now c.in-Ok.from_fields.now c.fields_of.result.1.now c.in-Err-discriminant_of.left.now
    c.in-Ok.name.now c.in-Ok.ensures c.fields_of.ensures.finds c.in-Err-discriminant_of.ensures

pub returns-in-Ok-discriminant_of : goal.returns-in-Ok-discriminant_of
returns-in-Ok-discriminant_of c =
    let next = c.fields_of.result.1.now in (
      rest_finds c.args.trees.now c.in-Ok.from_fields.now next c.in-Ok-discriminant_of.rest.now c.in-Ok.name.now
          c.in-Ok.ensures c.fields_of.ensures.finds c.in-Ok-discriminant_of.ensures.0,
      rest_has c.args.trees.now c.in-Ok.from_fields.now next c.in-Ok-discriminant_of.discriminant.now
          c.in-Ok-discriminant_of.rest.now c.in-Ok.name.now c.fields_of.result.0 c.in-Ok.ensures
          c.fields_of.ensures.whole c.fields_of.ensures.delimited c.in-Ok-discriminant_of.ensures.1,
    )

pub returns-in-Err : goal.returns-in-Err
returns-in-Err c = rest_sticks c.args.trees.now c.in-Err.left.now c.in-Err.ensures
