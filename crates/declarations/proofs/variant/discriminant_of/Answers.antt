use Rattle.std.proofs.Common.{◌∙◌, refl, sym}
use Rattle.declarations.proofs.VariantLemmas.{no_equals, no_equals_left, no_value, value_fails, value_finds}
use Rattle.declarations.proofs.VariantLemmas.{value_has}
use Rattle.declarations.proofs.variant.discriminant_of.Goals as goal

pub returns-in-Ok : goal.returns-in-Ok
returns-in-Ok c =
    let is = sym c.is.ensures ∙ c.if-is.true in (
      value_finds c.args.trees.now c.in-Some.from_value.now c.in-Some.class c.in-Some.ensures is c.in-Ok.rest.now
          c.in-Ok.ensures,
      value_has c.args.trees.now c.in-Some.from_value.now c.in-Some.class c.in-Some.ensures is c.part.result.now
          c.in-Ok.rest.now c.in-Ok.ensures c.part.ensures,
    )

pub returns-in-Err : goal.returns-in-Err
returns-in-Err c =
    value_fails c.args.trees.now c.in-Some.from_value.now c.in-Some.class c.in-Some.ensures
    (sym c.is.ensures ∙ c.if-is.true) c.in-Err.left.now c.in-Err.ensures

pub part-requires : goal.part-requires
part-requires c = c.in-Ok.ensures.remains

pub slice_bounds-result-end : goal.slice_bounds-result-end
slice_bounds-result-end c = refl

pub slice_bounds-result-end-in-None : goal.slice_bounds-result-end-in-None
slice_bounds-result-end-in-None c = refl

pub returns-else-is : goal.returns-else-is
returns-else-is c = (
  no_equals c.args.trees.now c.in-Some.from_value.now c.in-Some.class c.in-Some.ensures
      (sym c.is.ensures ∙ c.if-is.false),
  no_value c.args.trees.now _ refl,
)

pub returns-in-None : goal.returns-in-None
returns-in-None c =
    (no_equals_left c.args.trees.now c.in-None.ensures, no_value c.args.trees.now _ refl)
