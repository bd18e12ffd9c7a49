use Rattle.std.proofs.Common.{refl}
use Rattle.declarations.proofs.ImplLemmas.{trait_finds, trait_has, trait_sticks, type_finds, type_has, type_sticks}
use Rattle.declarations.proofs.implementation.types_of.Goals as goal

pub returns-in-Err-past_type : goal.returns-in-Err-past_type
returns-in-Err-past_type c =
    trait_sticks c.args.trees.now c.in-Ok.from_for.now c.in-Some.from_type.now c.in-Err-past_type.left.now
    c.in-Ok.ensures c.in-Some.ensures c.in-Err-past_type.ensures

pub part-requires : goal.part-requires
part-requires c = c.in-Ok.ensures.remains

pub part-requires-in-Ok-past_type : goal.part-requires-in-Ok-past_type
part-requires-in-Ok-past_type c = c.in-Ok-past_type.ensures.remains

pub part-requires-in-None : goal.part-requires-in-None
part-requires-in-None c = c.in-Ok.ensures.remains

pub returns-in-Ok-past_type : goal.returns-in-Ok-past_type
returns-in-Ok-past_type c =
    let for = c.in-Ok.from_for.now in
    let from = c.in-Some.from_type.now in
    let rest = c.in-Ok-past_type.rest.now in (
      trait_finds c.args.trees.now for from rest c.in-Ok.ensures c.in-Some.ensures c.in-Ok-past_type.ensures,
      trait_has c.args.trees.now for from rest c.part.result.now c.part-in-Ok-past_type.result.now c.in-Ok.ensures
          c.in-Some.ensures c.in-Ok-past_type.ensures c.part.ensures c.part-in-Ok-past_type.ensures,
      refl,
    )

pub returns-in-None : goal.returns-in-None
returns-in-None c = (
  type_finds c.args.trees.now c.in-Ok.from_for.now c.in-Ok.ensures c.in-None.ensures,
  type_has c.args.trees.now c.in-Ok.from_for.now c.part-in-None.result.now c.in-Ok.ensures c.part-in-None.ensures,
  refl,
)

pub returns-in-Err : goal.returns-in-Err
returns-in-Err c = type_sticks c.args.trees.now c.in-Err.left.now c.in-Err.ensures
