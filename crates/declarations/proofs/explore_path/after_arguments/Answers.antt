use Rattle.std.proofs.Common.{◌∙◌, sym}
use Rattle.declarations.proofs.ExplorePathLemmas.{arguments_end, arguments_separator, arguments_unread, goes_turns}
use Rattle.declarations.specs.rules.Names.{AfterArguments}
use Rattle.declarations.specs.rules.Paths.{path, segment}
use Rattle.declarations.proofs.explore_path.after_arguments.Goals as goal

pub returns-then-is : goal.returns-then-is
returns-then-is c =
    goes_turns (path AfterArguments) segment c.args.trees.now c.in-Some.rest.now c.see_segment.result
    (arguments_separator c.args.trees.now c.in-Some.rest.now c.in-Some.class c.in-Some.ensures
    (sym c.is.ensures ∙ c.if-is.true)) c.see_segment.ensures

pub returns-else-is : goal.returns-else-is
returns-else-is c =
    arguments_unread c.args.trees.now c.unread-none.result c.unread-none.ensures.left c.unread-none.ensures.next
    c.in-Some.rest.now c.in-Some.class c.in-Some.ensures (sym c.is.ensures ∙ c.if-is.false)

pub returns-in-None : goal.returns-in-None
returns-in-None c =
    arguments_end c.args.trees.now c.unread-none.result c.unread-none.ensures.left c.unread-none.ensures.next
    c.in-None.ensures
