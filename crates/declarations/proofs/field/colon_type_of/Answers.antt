use Rattle.std.proofs.Common.{◌∙◌, sym}
use Rattle.declarations.proofs.FieldLemmas.{colon_fails, colon_finds, colon_has, colon_none, no_colon}
use Rattle.declarations.proofs.field.colon_type_of.Goals as goal

pub returns-in-Ok : goal.returns-in-Ok
returns-in-Ok c =
    let is = sym c.is.ensures ∙ c.if-is.true in (
      colon_finds c.args.trees.now c.in-Some.from_type.now c.in-Some.class c.in-Some.ensures is c.in-Ok.rest.now
          c.in-Ok.ensures,
      colon_has c.args.trees.now c.in-Some.from_type.now c.in-Some.class c.in-Some.ensures is c.part.result.now
          c.in-Ok.rest.now c.in-Ok.ensures c.part.ensures,
    )

pub returns-in-Err : goal.returns-in-Err
returns-in-Err c =
    colon_fails c.args.trees.now c.in-Some.from_type.now c.in-Some.class c.in-Some.ensures
    (sym c.is.ensures ∙ c.if-is.true) c.in-Err.left.now c.in-Err.ensures

pub returns-else-is : goal.returns-else-is
returns-else-is c =
    no_colon c.args.trees.now c.in-Some.from_type.now c.in-Some.class c.in-Some.ensures
    (sym c.is.ensures ∙ c.if-is.false)

pub returns-in-None : goal.returns-in-None
returns-in-None c = colon_none c.args.trees.now c.in-None.ensures
