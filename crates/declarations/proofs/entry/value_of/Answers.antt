use Rattle.std.proofs.Common.{◌∙◌, refl, sym}
use Rattle.declarations.proofs.EntryLemmas.{no_args, other_args, value_args, value_args_stick, value_has}
use Rattle.declarations.proofs.entry.value_of.Goals as goal

pub returns-in-Err : goal.returns-in-Err
returns-in-Err c =
    value_args_stick c.args.trees.now c.in-Some.from_value.now c.in-Err.left.now c.requires c.in-Some.class
    c.in-Some.ensures (sym c.is.ensures ∙ c.if-is.true) c.in-Err.ensures

pub part-requires : goal.part-requires
part-requires c = c.in-Ok.ensures.remains

pub returns-in-Ok : goal.returns-in-Ok
returns-in-Ok c =
    let is = sym c.is.ensures ∙ c.if-is.true in (
      value_args c.args.trees.now c.in-Some.from_value.now c.in-Ok.rest.now c.requires c.in-Some.class
          c.in-Some.ensures is c.in-Ok.ensures,
      value_has c.args.trees.now c.in-Some.from_value.now c.part.result.now c.in-Ok.rest.now c.in-Some.class
          c.in-Some.ensures is c.in-Ok.ensures c.part.ensures,
    )

pub returns-else-is : goal.returns-else-is
returns-else-is c = (
  other_args c.args.trees.now c.in-Some.from_value.now c.in-Some.class c.requires c.in-Some.ensures
      (sym c.is.ensures ∙ c.if-is.false),
  refl,
)

pub returns-in-None : goal.returns-in-None
returns-in-None c = (no_args c.args.trees.now c.in-None.ensures, refl)
