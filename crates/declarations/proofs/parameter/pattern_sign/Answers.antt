use Rattle.std.proofs.Common.{◌∙◌, sym}
use Rattle.declarations.specs.rules.Parameters as rule
use Rattle.declarations.proofs.ReaderLemmas.{heads_none, heads_sign, sign_finds}
use Rattle.declarations.proofs.parameter.pattern_sign.Goals as goal

pub returns-then-continues-clause-found : goal.returns-then-continues-clause-found
returns-then-continues-clause-found c =
    sign_finds rule.continues c.args.trees.now c.in-Some.rest.now c.in-Some.class c.in-Some.ensures
    (sym c.continues.ensures ∙ c.if-continues.true)

pub returns-then-continues-clause-begins : goal.returns-then-continues-clause-begins
returns-then-continues-clause-begins c =
    heads_sign rule.pattern_sign c.args.trees.now c.in-Some.rest.now c.in-Some.class c.in-Some.ensures
    ∙ (sym c.continues.ensures ∙ c.if-continues.true)

pub returns-else-continues-clause-none : goal.returns-else-continues-clause-none
returns-else-continues-clause-none c =
    heads_sign rule.pattern_sign c.args.trees.now c.in-Some.rest.now c.in-Some.class c.in-Some.ensures
    ∙ (sym c.continues.ensures ∙ c.if-continues.false)

pub returns-in-None-clause-none : goal.returns-in-None-clause-none
returns-in-None-clause-none c = heads_none rule.pattern_sign c.args.trees.now c.in-None.ensures
