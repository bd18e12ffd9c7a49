use Rattle.std.proofs.Common.{◌∙◌, sym}
use Rattle.grammars.specs.Grammar.{Mark, Then}
use Rattle.declarations.specs.rules.Names.{Returns}
use Rattle.declarations.specs.rules.Paths.{round_rest, segment}
use Rattle.declarations.specs.rules.Types.{type}
use Rattle.declarations.proofs.ExplorePathLemmas.{goes_sees, goes_turns, round_arrow, round_end, round_separator}
use Rattle.declarations.proofs.ExplorePathLemmas.{round_unread}
use Rattle.declarations.proofs.explore_path.see_round.Goals as goal

pub returns-then-is : goal.returns-then-is
returns-then-is c =
    goes_sees round_rest (Then (Mark Returns) type) c.args.trees.now c.in-Some.rest.now c.explore.result
    (round_arrow c.args.trees.now c.in-Some.rest.now c.in-Some.class c.in-Some.ensures (sym c.is.ensures ∙
    c.if-is.true)) c.explore.ensures

pub returns-then-is-2 : goal.returns-then-is-2
returns-then-is-2 c =
    goes_turns round_rest segment c.args.trees.now c.in-Some.rest.now c.see_segment.result
    (round_separator c.args.trees.now c.in-Some.rest.now c.in-Some.class c.in-Some.ensures (sym c.is-else-is.ensures
    ∙ c.if-is-2.true))
    c.see_segment.ensures

pub returns-else-is-2 : goal.returns-else-is-2
returns-else-is-2 c =
    round_unread c.args.trees.now c.unread-none.result c.unread-none.ensures.left c.unread-none.ensures.next
    c.in-Some.rest.now c.in-Some.class c.in-Some.ensures (sym c.is.ensures ∙ c.if-is.false)
    (sym c.is-else-is.ensures ∙ c.if-is-2.false)

pub returns-in-None : goal.returns-in-None
returns-in-None c =
    round_end c.args.trees.now c.unread-none.result c.unread-none.ensures.left c.unread-none.ensures.next
    c.in-None.ensures
