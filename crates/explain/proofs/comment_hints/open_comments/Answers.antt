use Rattle.std.proofs.Common.{◌∙◌, rules, subst}
use Rattle.explain.specs.HintWalk.{IsSign}
use Rattle.explain.proofs.OpenCommentLemmas.{walk_begins, walk_closes, walk_ends, walk_has_open, walk_opens}
use Rattle.explain.proofs.OpenCommentLemmas.{walk_passes}
use Rattle.explain.proofs.comment_hints.open_comments.Goals as goal

pub loop-sign-init : goal.loop-sign-init
loop-sign-init c = walk_begins c.args.start _ c.new-opened.ensures.items

pub unreachable-requires : goal.unreachable-requires
unreachable-requires c =
    walk_has_open c.args.start c.requires.opens.0 c.requires.opens.1 c.loop-sign.at c.in-Some.after
    c.loop-sign.opened.items c.loop-sign.closed c.loop-sign.invariant
    (subst (λ s. IsSign s c.loop-sign.at c.in-Some.after) c.in-Closes.is c.in-Some.ensures) (search rules)

pub loop-sign-preserved-in_ok-push-in-Opens : goal.loop-sign-preserved-in_ok-push-in-Opens
loop-sign-preserved-in_ok-push-in-Opens c =
    walk_opens c.args.start c.loop-sign.at c.in-Some.after c.loop-sign.opened.items c.push.new.self.items
    c.loop-sign.closed c.loop-sign.invariant
    (subst (λ s. IsSign s c.loop-sign.at c.in-Some.after) c.in-Opens.is c.in-Some.ensures)
    c.in_ok-push-in-Opens.ensures.items

pub loop-sign-preserved-in-Some-pop : goal.loop-sign-preserved-in-Some-pop
loop-sign-preserved-in-Some-pop c =
    walk_closes c.args.start c.requires.opens.0 c.requires.opens.1 c.requires.none c.loop-sign.at c.in-Some.after
    c.in-Some-pop.from c.loop-sign.opened.items c.pop.new.self.items c.loop-sign.closed c.loop-sign.invariant
    (subst (λ s. IsSign s c.loop-sign.at c.in-Some.after) c.in-Closes.is c.in-Some.ensures)
    c.in-Some-pop.ensures.items

pub loop-sign-preserved : goal.loop-sign-preserved
loop-sign-preserved c =
    walk_passes c.args.start c.requires.opens.0 c.requires.opens.1 c.loop-sign.at c.in-Some.after
    c.loop-sign.opened.items c.loop-sign.closed c.loop-sign.invariant
    (subst (λ s. IsSign s c.loop-sign.at c.in-Some.after) c.in-Other.is c.in-Some.ensures)

pub returns : goal.returns
returns c =
    walk_ends c.args.start c.loop-sign.at c.loop-sign.opened.items c.len.result c.loop-sign.closed
    c.loop-sign.invariant c.in_default.ensures (c.len.ensures ∙ c.loop-sign.opened.ok.0)
