use Rattle.std.proofs.Common.{◌∙◌, sym}
use Rattle.declarations.proofs.ReaderLemmas.{sign_ends, sign_finds, sign_sticks}
use Rattle.item_tables.specs.Classes.{is}
use Rattle.declarations.proofs.reader.past.Goals as goal

pub returns-then-is : goal.returns-then-is
returns-then-is c =
    sign_finds (is c.args.class) c.args.trees.now c.in-Some.rest.now c.in-Some.found c.in-Some.ensures
    (sym c.is.ensures ∙ c.if-is.true)

pub returns-else-is : goal.returns-else-is
returns-else-is c =
    sign_sticks (is c.args.class) c.args.trees.now c.in-Some.rest.now c.in-Some.found c.in-Some.ensures
    (sym c.is.ensures ∙ c.if-is.false)

pub returns-in-None : goal.returns-in-None
returns-in-None c = sign_ends (is c.args.class) c.args.trees.now c.in-None.ensures
