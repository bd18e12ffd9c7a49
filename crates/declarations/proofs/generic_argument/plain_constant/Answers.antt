use Rattle.std.proofs.Common.{◌∙◌, sym}
use Rattle.declarations.specs.rules.Paths.{is_constant}
use Rattle.declarations.proofs.ReaderLemmas.{sign_ends, sign_finds, sign_sticks}
use Rattle.declarations.proofs.generic_argument.plain_constant.Goals as goal

pub returns-then-is_constant : goal.returns-then-is_constant
returns-then-is_constant c =
    sign_finds is_constant c.args.trees.now c.in-Some.rest.now c.in-Some.found c.in-Some.ensures
    (sym c.is_constant.ensures ∙ c.if-is_constant.true)

pub returns-else-is_constant : goal.returns-else-is_constant
returns-else-is_constant c =
    sign_sticks is_constant c.args.trees.now c.in-Some.rest.now c.in-Some.found c.in-Some.ensures
    (sym c.is_constant.ensures ∙ c.if-is_constant.false)

pub returns-in-None : goal.returns-in-None
returns-in-None c = sign_ends is_constant c.args.trees.now c.in-None.ensures
