use Rattle.std.proofs.Common.{◌∙◌, sym}
use Rattle.declarations.specs.rules.Paths.{generic_arguments}
use Rattle.declarations.proofs.ExplorePathLemmas.{angle_goes, closing, closing_end, closing_unread}
use Rattle.declarations.proofs.explore_path.see_angle.Goals as goal

pub returns-then-not-has_end : goal.returns-then-not-has_end
returns-then-not-has_end c =
    c.stopped.ensures generic_arguments closing c.args.trees.now c.explore-inside.ensures
    (sym c.has_end.ensures ∙ c.if-not-has_end.true)

pub returns-then-is : goal.returns-then-is
returns-then-is c =
    angle_goes c.args.trees.now c.in-Some.rest.now c.explore-inside.result c.in-Some.class c.explore-inside.ensures
    (sym c.has_end.ensures ∙ c.if-not-has_end.false) c.in-Some.ensures (sym c.is.ensures ∙ c.if-is.true)

pub returns-else-is : goal.returns-else-is
returns-else-is c =
    c.joined.ensures generic_arguments closing c.args.trees.now c.explore-inside.ensures
    (sym c.has_end.ensures ∙ c.if-not-has_end.false)
    (closing_unread c.explore-inside.result.left.now c.no_sign-closing.result c.no_sign-closing.ensures.left
    c.no_sign-closing.ensures.next c.in-Some.rest.now c.in-Some.class c.in-Some.ensures
    (sym c.is.ensures ∙ c.if-is.false))

pub returns-in-None : goal.returns-in-None
returns-in-None c =
    c.joined-in-None.ensures generic_arguments closing c.args.trees.now c.explore-inside.ensures
    (sym c.has_end.ensures ∙ c.if-not-has_end.false)
    (closing_end c.explore-inside.result.left.now c.no_sign-closing.result c.no_sign-closing.ensures.left
    c.no_sign-closing.ensures.next c.in-None.ensures)
