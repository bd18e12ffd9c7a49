use Rattle.declarations.proofs.ImplLemmas.{front_has, front_turns, keyword_sticks}
use Rattle.declarations.proofs.implementation.front_of.Goals as goal

pub returns-in-Ok-past_impl : goal.returns-in-Ok-past_impl
returns-in-Ok-past_impl c = (
  front_turns c.args.trees.now c.in-Ok.from_visibility.now c.past_visibility-from_qualifiers.result.now
      c.past_impl_qualifiers-from_impl.result.now c.in-Ok-past_impl.rest.now c.in-Ok.ensures
      c.past_visibility-from_qualifiers.ensures c.past_impl_qualifiers-from_impl.ensures c.in-Ok-past_impl.ensures,
  front_has c.args.trees.now c.in-Ok.from_visibility.now c.past_visibility-from_qualifiers.result.now
      c.past_impl_qualifiers-from_impl.result.now c.in-Ok-past_impl.rest.now _ _ _ c.in-Ok.ensures
      c.past_visibility-from_qualifiers.ensures c.past_impl_qualifiers-from_impl.ensures c.in-Ok-past_impl.ensures
      c.part.ensures c.part-in-Ok-past_impl.ensures c.part-in-Ok-past_impl-2.ensures,
)

pub returns-in-Err-past_impl : goal.returns-in-Err-past_impl
returns-in-Err-past_impl c =
    keyword_sticks c.args.trees.now c.in-Ok.from_visibility.now c.past_visibility-from_qualifiers.result.now
    c.past_impl_qualifiers-from_impl.result.now c.in-Err-past_impl.left.now c.in-Ok.ensures
    c.past_visibility-from_qualifiers.ensures c.past_impl_qualifiers-from_impl.ensures c.in-Err-past_impl.ensures
