use Rattle.std.proofs.Common.{◌∙◌, sym}
use Rattle.declarations.proofs.GenericArgumentLemmas.{binding_finds, binding_has, binding_sticks, bounds_find}
use Rattle.declarations.proofs.GenericArgumentLemmas.{bounds_has, bounds_stick}
use Rattle.declarations.proofs.generic_argument.constraint_of.Goals as goal

pub returns-in-Ok : goal.returns-in-Ok
returns-in-Ok c =
    let at = sym c.is.ensures ∙ c.if-is.true in (
      binding_finds c.args.trees.now c.in-Some.from_end.now c.in-Some.class c.in-Some.ensures at c.in-Ok.rest.now
          c.in-Ok.ensures,
      binding_has c.args.trees.now c.in-Some.from_end.now c.in-Some.class c.in-Some.ensures at c.part.result.now
          c.in-Ok.rest.now c.in-Ok.ensures c.part.ensures,
    )

pub returns-in-Err : goal.returns-in-Err
returns-in-Err c =
    binding_sticks c.args.trees.now c.in-Some.from_end.now c.in-Some.class c.in-Some.ensures
    (sym c.is.ensures ∙ c.if-is.true) c.in-Err.left.now c.in-Err.ensures

pub returns-in-Ok-past_bounds : goal.returns-in-Ok-past_bounds
returns-in-Ok-past_bounds c =
    let at = sym c.is-in-Some.ensures ∙ c.if-is-2.true in (
      bounds_find c.args.trees.now c.in-Some.from_end.now c.in-Some.class c.in-Some.ensures at
          c.in-Ok-past_bounds.rest.now c.in-Ok-past_bounds.ensures,
      bounds_has c.args.trees.now c.in-Some.from_end.now c.in-Some.class c.in-Some.ensures at
          c.part-in-Ok-past_bounds.result.now c.in-Ok-past_bounds.rest.now c.in-Ok-past_bounds.ensures
          c.part-in-Ok-past_bounds.ensures,
    )

pub returns-in-Err-past_bounds : goal.returns-in-Err-past_bounds
returns-in-Err-past_bounds c =
    bounds_stick c.args.trees.now c.in-Some.from_end.now c.in-Some.class c.in-Some.ensures
    (sym c.is-in-Some.ensures ∙ c.if-is-2.true) c.in-Err-past_bounds.left.now c.in-Err-past_bounds.ensures
