use Rattle.std.proofs.Common.{◌∙◌, sym}
use Rattle.declarations.proofs.ItemLemmas.{semicolon_finds, semicolon_has, semicolon_none, semicolon_sticks}
use Rattle.declarations.proofs.ReaderLemmas.{remains_sign}
use Rattle.declarations.proofs.item.semicolon_of.Goals as goal

pub part-requires : goal.part-requires
part-requires c = remains_sign c.args.trees.now c.in-Some.rest.now c.in-Some.class c.in-Some.ensures

pub returns-then-is : goal.returns-then-is
returns-then-is c =
    let is = sym c.is.ensures ∙ c.if-is.true in (
      semicolon_finds c.args.trees.now c.in-Some.rest.now c.in-Some.class c.in-Some.ensures is,
      semicolon_has c.args.trees.now c.part.result.now c.in-Some.rest.now c.in-Some.class c.in-Some.ensures is
          c.part.ensures,
    )

pub returns-else-is : goal.returns-else-is
returns-else-is c =
    semicolon_sticks c.args.trees.now c.in-Some.rest.now c.in-Some.class c.in-Some.ensures
    (sym c.is.ensures ∙ c.if-is.false)

pub returns-in-None : goal.returns-in-None
returns-in-None c = semicolon_none c.args.trees.now c.in-None.ensures
