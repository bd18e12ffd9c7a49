use Rattle.std.proofs.Common.{◌∙◌, sym}
use Rattle.declarations.specs.rules.Paths.{segment, type_path}
use Rattle.declarations.proofs.ExplorePathLemmas.{goes_turns, path_end, path_name, path_separator, path_unread}
use Rattle.declarations.proofs.explore_path.see_first.Goals as goal

pub returns-then-is : goal.returns-then-is
returns-then-is c =
    goes_turns type_path segment c.args.trees.now c.in-Some.rest.now c.see_segment.result
    (path_separator c.args.trees.now c.in-Some.rest.now c.in-Some.class c.in-Some.ensures (sym c.is.ensures ∙
    c.if-is.true)) c.see_segment.ensures

pub returns-then-is_segment : goal.returns-then-is_segment
returns-then-is_segment c =
    path_name c.args.trees.now c.in-Some.rest.now c.in-Some.class c.in-Some.ensures (sym c.is.ensures ∙ c.if-is.false)
    (sym c.is_segment.ensures ∙ c.if-is_segment.true)

pub returns-else-is_segment : goal.returns-else-is_segment
returns-else-is_segment c =
    path_unread c.args.trees.now c.unread-none.result c.unread-none.ensures.left c.unread-none.ensures.next
    c.in-Some.rest.now c.in-Some.class c.in-Some.ensures (sym c.is.ensures ∙ c.if-is.false)
    (sym c.is_segment.ensures ∙ c.if-is_segment.false)

pub returns-in-None : goal.returns-in-None
returns-in-None c =
    path_end c.args.trees.now c.unread-none.result c.unread-none.ensures.left c.unread-none.ensures.next
    c.in-None.ensures
