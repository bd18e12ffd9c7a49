use Rattle.std.proofs.Common.{◌∙◌, sym}
use Rattle.declarations.specs.rules.Entries.{is_literal}
use Rattle.declarations.proofs.ReaderLemmas.{sign_ends, sign_finds, sign_sticks}
use Rattle.declarations.proofs.entry.plain_literal.Goals as goal

pub returns-then-is_literal : goal.returns-then-is_literal
returns-then-is_literal c =
    sign_finds is_literal c.args.trees.now c.in-Some.rest.now c.in-Some.found c.in-Some.ensures
    (sym c.is_literal.ensures ∙ c.if-is_literal.true)

pub returns-else-is_literal : goal.returns-else-is_literal
returns-else-is_literal c =
    sign_sticks is_literal c.args.trees.now c.in-Some.rest.now c.in-Some.found c.in-Some.ensures
    (sym c.is_literal.ensures ∙ c.if-is_literal.false)

pub returns-in-None : goal.returns-in-None
returns-in-None c = sign_ends is_literal c.args.trees.now c.in-None.ensures
