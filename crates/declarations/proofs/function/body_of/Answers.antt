use Rattle.std.proofs.Common.{◌∙◌, sym}
use Rattle.declarations.proofs.FunctionPartLemmas.{body_ends, body_finds, body_sticks, semicolon_finds, semicolon_has}
use Rattle.declarations.proofs.function.body_of.Goals as goal

pub returns-in-Some : goal.returns-in-Some
returns-in-Some c = (
  body_finds c.args.trees.now c.in-Some.rest.now c.in-Some.body.now c.in-Some.ensures.found.0
      c.in-Some.ensures.found.1,
  c.in-Some.ensures.found,
)

pub returns-then-is : goal.returns-then-is
returns-then-is c =
    let is = sym c.is.ensures ∙ c.if-is.true in (
      semicolon_finds c.args.trees.now c.in_default.ensures.none c.in-Some-first_sign.rest.now
          c.in-Some-first_sign.class c.in-Some-first_sign.ensures is,
      semicolon_has c.args.trees.now c.in-Some-first_sign.rest.now c.in-Some-first_sign.class
          c.in-Some-first_sign.ensures is,
    )

pub returns-else-is : goal.returns-else-is
returns-else-is c =
    body_sticks c.args.trees.now c.in_default.ensures.none c.in-Some-first_sign.rest.now c.in-Some-first_sign.class
    c.in-Some-first_sign.ensures (sym c.is.ensures ∙ c.if-is.false)

pub returns-in-None : goal.returns-in-None
returns-in-None c = body_ends c.args.trees.now c.in_default.ensures.none c.in-None.ensures
