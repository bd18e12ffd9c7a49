use Rattle.std.proofs.Common.{◌∙◌, refl, sym}
use Rattle.declarations.proofs.ParameterLemmas.{self_alone, self_last, self_typed, self_typed_has, self_typed_sticks}
use Rattle.declarations.proofs.parameter.self_type.Goals as goal

pub part-requires : goal.part-requires
part-requires c = c.in-Ok.ensures.remains

pub returns-in-Ok : goal.returns-in-Ok
returns-in-Ok c = (
  self_typed c.args.trees.now c.in-Some.from_type.now c.in-Ok.rest.now c.in-Some.class c.in-Some.ensures
      (sym c.is.ensures ∙ c.if-is.true) c.in-Ok.ensures,
  self_typed_has c.args.trees.now c.in-Some.from_type.now c.part.result.now c.in-Ok.rest.now c.in-Some.class
      c.in-Some.ensures (sym c.is.ensures ∙ c.if-is.true) c.in-Ok.ensures c.part.ensures,
)

pub returns-in-Err : goal.returns-in-Err
returns-in-Err c =
    self_typed_sticks c.args.trees.now c.in-Some.from_type.now c.in-Err.left.now c.in-Some.class c.in-Some.ensures
    (sym c.is.ensures ∙ c.if-is.true) c.in-Err.ensures

pub returns-else-is : goal.returns-else-is
returns-else-is c = (
  self_alone c.args.trees.now c.in-Some.from_type.now c.in-Some.class c.in-Some.ensures
      (sym c.is.ensures ∙ c.if-is.false),
  refl,
)

pub returns-in-None : goal.returns-in-None
returns-in-None c = (self_last c.args.trees.now c.in-None.ensures, refl)
