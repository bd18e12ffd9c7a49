use Rattle.std.proofs.Common.{◌∙◌, sym}
use Rattle.declarations.proofs.ExplorePathLemmas.{segment_end, segment_goes, segment_unread}
use Rattle.declarations.proofs.explore_path.see_segment.Goals as goal

pub returns-then-is_segment : goal.returns-then-is_segment
returns-then-is_segment c =
    segment_goes c.args.trees.now c.in-Some.rest.now c.in-Some.class c.in-Some.ensures
    (sym c.is_segment.ensures ∙ c.if-is_segment.true)

pub returns-else-is_segment : goal.returns-else-is_segment
returns-else-is_segment c =
    segment_unread c.args.trees.now c.no_sign.result c.no_sign.ensures.left c.no_sign.ensures.next
    c.in-Some.rest.now c.in-Some.class c.in-Some.ensures (sym c.is_segment.ensures ∙ c.if-is_segment.false)

pub returns-in-None : goal.returns-in-None
returns-in-None c =
    segment_end c.args.trees.now c.no_sign-in-None.result c.no_sign-in-None.ensures.left
    c.no_sign-in-None.ensures.next
    c.in-None.ensures
