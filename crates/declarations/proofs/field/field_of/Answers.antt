use Rattle.std.proofs.Common.{refl}
use Rattle.declarations.proofs.FieldLemmas.{field_at, field_fails, field_finds}
use Rattle.declarations.proofs.field.field_of.Goals as goal

pub returns-in-Ok-named_type_of : goal.returns-in-Ok-named_type_of
returns-in-Ok-named_type_of c =
    let typed = c.in-Ok-named_type_of.ensures in (
      field_finds c.args.trees.now _ _ c.in-Ok.from_name.now c.in-Ok-named_type_of.rest.now c.in-Ok.ensures typed.0,
      field_at c.args.trees.now c.in-Ok.from_name.now c.in-Ok-named_type_of.rest.now c.in-Ok-named_type_of.name.now _
          c.in-Ok.ensures typed.0 typed.1 refl,
    )

pub returns-in-Err-named_type_of : goal.returns-in-Err-named_type_of
returns-in-Err-named_type_of c =
    field_fails c.args.trees.now _ _ c.in-Ok.from_name.now c.in-Err-named_type_of.left.now c.in-Ok.ensures
    c.in-Err-named_type_of.ensures
