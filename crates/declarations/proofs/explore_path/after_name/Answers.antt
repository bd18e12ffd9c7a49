use Rattle.std.proofs.Common.{◌∙◌, sym}
use Rattle.declarations.specs.rules.Names.{AfterName}
use Rattle.declarations.specs.rules.Paths.{angle_rest, path, round_rest}
use Rattle.declarations.proofs.ExplorePathLemmas.{goes_turns, name_end, name_opens, name_round, name_separator}
use Rattle.declarations.proofs.ExplorePathLemmas.{name_unread}
use Rattle.declarations.proofs.explore_path.after_name.Goals as goal

pub returns-then-opens : goal.returns-then-opens
returns-then-opens c =
    goes_turns (path AfterName) angle_rest c.args.trees.now c.in-Some.rest.now c.see_angle.result
    (name_opens c.args.trees.now c.in-Some.rest.now c.in-Some.class c.in-Some.ensures (sym c.opens.ensures ∙
    c.if-opens.true)) c.see_angle.ensures

pub returns-then-is_round : goal.returns-then-is_round
returns-then-is_round c =
    goes_turns (path AfterName) round_rest c.args.trees.now c.in-Some.rest.now c.see_round.result
    (name_round c.args.trees.now c.in-Some.rest.now c.in-Some.class c.in-Some.ensures (sym c.opens.ensures ∙
    c.if-opens.false)
    (sym c.is_round.ensures ∙ c.if-is_round.true)) c.see_round.ensures

pub returns-then-is : goal.returns-then-is
returns-then-is c =
    name_separator c.args.trees.now c.in-Some.rest.now c.in-Some.class c.in-Some.ensures (sym c.is.ensures ∙
    c.if-is.true)

pub returns-else-is : goal.returns-else-is
returns-else-is c =
    name_unread c.args.trees.now c.unread-none.result c.unread-none.ensures.left c.unread-none.ensures.next
    c.in-Some.rest.now c.in-Some.class c.in-Some.ensures (sym c.opens.ensures ∙ c.if-opens.false)
    (sym c.is_round.ensures ∙ c.if-is_round.false) (sym c.is.ensures ∙ c.if-is.false)

pub returns-in-None : goal.returns-in-None
returns-in-None c =
    name_end c.args.trees.now c.unread-none.result c.unread-none.ensures.left c.unread-none.ensures.next
    c.in-None.ensures
