use Rattle.declarations.proofs.FieldLemmas.{named_fails, named_finds, named_has, named_sticks}
use Rattle.declarations.proofs.field.named_type_of.Goals as goal

pub returns-in-Ok-colon_type_of : goal.returns-in-Ok-colon_type_of
returns-in-Ok-colon_type_of c = (
  named_finds c.args.trees.now c.in-Ok.from_colon.now c.in-Ok-colon_type_of.rest.now c.in-Ok.name.now c.in-Ok.ensures
      c.in-Ok-colon_type_of.ensures.0,
  named_has c.args.trees.now c.in-Ok.from_colon.now c.in-Ok-colon_type_of.field_type.now
      c.in-Ok-colon_type_of.rest.now c.in-Ok.name.now c.in-Ok.ensures c.in-Ok-colon_type_of.ensures.1,
)

pub returns-in-Err-colon_type_of : goal.returns-in-Err-colon_type_of
returns-in-Err-colon_type_of c =
    named_fails c.args.trees.now c.in-Ok.from_colon.now c.in-Err-colon_type_of.left.now c.in-Ok.name.now
    c.in-Ok.ensures c.in-Err-colon_type_of.ensures

pub returns-in-Err : goal.returns-in-Err
returns-in-Err c = named_sticks c.args.trees.now c.in-Err.left.now c.in-Err.ensures
