use Rattle.std.proofs.Common.{◌∙◌, sym}
use Rattle.declarations.specs.rules.Names.{AfterSeparator}
use Rattle.declarations.specs.rules.Paths.{angle_rest, path, round_rest}
use Rattle.declarations.proofs.ExplorePathLemmas.{goes_turns, separator_end, separator_name, separator_opens}
use Rattle.declarations.proofs.ExplorePathLemmas.{separator_round, separator_unread}
use Rattle.declarations.proofs.explore_path.after_separator.Goals as goal

pub returns-then-opens : goal.returns-then-opens
returns-then-opens c =
    goes_turns (path AfterSeparator) angle_rest c.args.trees.now c.in-Some.rest.now c.see_angle.result
    (separator_opens c.args.trees.now c.in-Some.rest.now c.in-Some.class c.in-Some.ensures (sym c.opens.ensures ∙
    c.if-opens.true))
    c.see_angle.ensures

pub returns-then-is_round : goal.returns-then-is_round
returns-then-is_round c =
    goes_turns (path AfterSeparator) round_rest c.args.trees.now c.in-Some.rest.now c.see_round.result
    (separator_round c.args.trees.now c.in-Some.rest.now c.in-Some.class c.in-Some.ensures
    (sym c.opens.ensures ∙ c.if-opens.false) (sym c.is_round.ensures ∙ c.if-is_round.true)) c.see_round.ensures

pub returns-then-is_segment : goal.returns-then-is_segment
returns-then-is_segment c =
    separator_name c.args.trees.now c.in-Some.rest.now c.in-Some.class c.in-Some.ensures (sym c.opens.ensures ∙
    c.if-opens.false)
    (sym c.is_round.ensures ∙ c.if-is_round.false) (sym c.is_segment.ensures ∙ c.if-is_segment.true)

pub returns-else-is_segment : goal.returns-else-is_segment
returns-else-is_segment c =
    separator_unread c.args.trees.now c.unread-none.result c.unread-none.ensures.left c.unread-none.ensures.next
    c.in-Some.rest.now c.in-Some.class c.in-Some.ensures (sym c.opens.ensures ∙ c.if-opens.false)
    (sym c.is_round.ensures ∙ c.if-is_round.false) (sym c.is_segment.ensures ∙ c.if-is_segment.false)

pub returns-in-None : goal.returns-in-None
returns-in-None c =
    separator_end c.args.trees.now c.unread-none.result c.unread-none.ensures.left c.unread-none.ensures.next
    c.in-None.ensures
