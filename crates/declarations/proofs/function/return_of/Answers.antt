use Rattle.std.proofs.Common.{◌∙◌, refl, sym}
use Rattle.declarations.proofs.FunctionPartLemmas.{
  arrow_finds,
  arrow_has,
  arrow_sticks,
  no_arrow,
  no_arrow_left,
  no_return,
}
use Rattle.declarations.proofs.function.return_of.Goals as goal

pub part-requires : goal.part-requires
part-requires c = c.in-Ok.ensures.remains

pub returns-in-Ok : goal.returns-in-Ok
returns-in-Ok c = (
  arrow_finds c.args.trees.now c.in-Some.from_type.now c.in-Some.class c.in-Some.ensures
      (sym c.is.ensures ∙ c.if-is.true) c.in-Ok.rest.now c.in-Ok.ensures,
  arrow_has c.args.trees.now c.in-Some.from_type.now c.in-Some.class c.in-Some.ensures
      (sym c.is.ensures ∙ c.if-is.true) c.part.result.now c.in-Ok.rest.now c.in-Ok.ensures c.part.ensures,
)

pub returns-in-Err : goal.returns-in-Err
returns-in-Err c =
    arrow_sticks c.args.trees.now c.in-Some.from_type.now c.in-Some.class c.in-Some.ensures
    (sym c.is.ensures ∙ c.if-is.true) c.in-Err.left.now c.in-Err.ensures

pub returns-else-is : goal.returns-else-is
returns-else-is c = (
  no_arrow c.args.trees.now c.in-Some.from_type.now c.in-Some.class c.in-Some.ensures
      (sym c.is.ensures ∙ c.if-is.false),
  no_return c.args.trees.now _ refl,
)

pub returns-in-None : goal.returns-in-None
returns-in-None c = (no_arrow_left c.args.trees.now c.in-None.ensures, no_return c.args.trees.now _ refl)
