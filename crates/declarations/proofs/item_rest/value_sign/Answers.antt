use Rattle.std.proofs.Common.{◌∙◌, sym}
use Rattle.declarations.specs.rules.Bodies.{not_semicolon}
use Rattle.declarations.proofs.ReaderLemmas.{heads_sign}
use Rattle.declarations.proofs.item_rest.value_sign.Goals as goal

pub returns-then-goes_on-clause-begins : goal.returns-then-goes_on-clause-begins
returns-then-goes_on-clause-begins c =
    heads_sign not_semicolon c.args.trees.now c.in-Some.rest.now c.in-Some.class c.in-Some.ensures
    ∙ (sym c.goes_on.ensures ∙ c.if-goes_on.true)

pub returns-else-goes_on-clause-none : goal.returns-else-goes_on-clause-none
returns-else-goes_on-clause-none c =
    heads_sign not_semicolon c.args.trees.now c.in-Some.rest.now c.in-Some.class c.in-Some.ensures
    ∙ (sym c.goes_on.ensures ∙ c.if-goes_on.false)
