use Rattle.std.proofs.Common.{◌≡◌, ◌∙◌, length, refl, rules, sym}
use Rattle.highlight.proofs.NestingLemmas.{closed_step, no_match}
use Rattle.highlight.proofs.nesting.Nesting.take_match.Goals as goal

pub returns-then-not-has-clause-styles : goal.returns-then-not-has-clause-styles
returns-then-not-has-clause-styles c =
    rw (no_match c.args.closer _ _ c.requires.closer c.requires.awaited (sym c.has.ensures ∙ c.if-not-has.true)) refl

pub returns-then-not-has-clause-waiting : goal.returns-then-not-has-clause-waiting
returns-then-not-has-clause-waiting c =
    rw (no_match c.args.closer _ _ c.requires.closer c.requires.awaited (sym c.has.ensures ∙ c.if-not-has.true)) refl

pub returns-then-opener-closer-clause-styles : goal.returns-then-opener-closer-clause-styles
returns-then-opener-closer-clause-styles c =
    let depth : c.len.result ≡ length c.pop.new.self.items = search rules in
    closed_step _ _ _ _ _ _ _ _ _ c.in-Some.ensures.items
    c.if-opener-closer.true c.loop-opener.invariant.same c.loop-opener.invariant.styles depth c.set_style.ensures
