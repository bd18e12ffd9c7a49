use Rattle.std.proofs.Common.{refl}
use Rattle.declarations.proofs.TupleFieldLemmas.{tuple_at, tuple_fails, tuple_finds}
use Rattle.declarations.proofs.field.tuple_field_of.Goals as goal

pub returns-in-Ok-past_type : goal.returns-in-Ok-past_type
returns-in-Ok-past_type c = (
  tuple_finds c.args.trees.now _ _ c.in-Ok.from_type.now c.in-Ok-past_type.rest.now c.in-Ok.ensures
      c.in-Ok-past_type.ensures,
  tuple_at c.args.trees.now c.in-Ok.from_type.now c.in-Ok-past_type.rest.now _ c.in-Ok.ensures
      c.in-Ok-past_type.ensures c.part.ensures refl,
)

pub returns-in-Err-past_type : goal.returns-in-Err-past_type
returns-in-Err-past_type c =
    tuple_fails c.args.trees.now _ _ c.in-Ok.from_type.now c.in-Err-past_type.left.now c.in-Ok.ensures
    c.in-Err-past_type.ensures
