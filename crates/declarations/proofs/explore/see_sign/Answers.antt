use Rattle.std.proofs.Common.{◌∙◌, sym}
use Rattle.grammars.specs.Grammar.{Sign}
use Rattle.declarations.specs.Syntax.{test_of}
use Rattle.declarations.proofs.ExploreLemmas.{none_seen, sign_seen}
use Rattle.declarations.proofs.ReaderLemmas.{heads_none, heads_sign}
use Rattle.declarations.proofs.explore.see_sign.Goals as goal

pub returns-then-passes : goal.returns-then-passes
returns-then-passes c =
    sign_seen (test_of c.args.test) c.args.trees.now c.in-Some.rest.now c.in-Some.class c.seen_nothing.result
    c.in-Some.ensures (sym c.passes.ensures ∙ c.if-passes.true) c.seen_nothing.ensures.left
    c.seen_nothing.ensures.next

pub returns-else-passes : goal.returns-else-passes
returns-else-passes c =
    none_seen (Sign (test_of c.args.test)) c.args.trees.now c.no_sign.result
    (heads_sign (Sign (test_of c.args.test)) c.args.trees.now c.in-Some.rest.now c.in-Some.class c.in-Some.ensures
    ∙ (sym c.passes.ensures ∙ c.if-passes.false)) c.no_sign.ensures.left c.no_sign.ensures.next

pub returns-in-None : goal.returns-in-None
returns-in-None c =
    none_seen (Sign (test_of c.args.test)) c.args.trees.now c.no_sign-in-None.result
    (heads_none (Sign (test_of c.args.test)) c.args.trees.now c.in-None.ensures) c.no_sign-in-None.ensures.left
    c.no_sign-in-None.ensures.next
