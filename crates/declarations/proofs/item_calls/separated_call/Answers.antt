use Rattle.declarations.proofs.ItemCallLemmas.{separated_begins, separated_leads, separated_none, separated_not}
use Rattle.declarations.proofs.item_calls.separated_call.Goals as goal

pub call_item-requires-clause-leads : goal.call_item-requires-clause-leads
call_item-requires-clause-leads c =
    separated_leads c.args.trees.now c.args.rest.now c.in-Some.next.now c.in-Some.class c.is_segment.result c.requires
    c.in-Some.ensures c.is_segment.ensures c.if-is_segment.true

pub call_item-requires-clause-path : goal.call_item-requires-clause-path
call_item-requires-clause-path c =
    separated_begins c.args.trees.now c.args.rest.now c.in-Some.next.now c.in-Some.class c.is_segment.result c.requires
    c.in-Some.ensures c.is_segment.ensures c.if-is_segment.true

pub returns-else-is_segment : goal.returns-else-is_segment
returns-else-is_segment c =
    separated_not c.args.trees.now c.args.rest.now c.in-Some.next.now c.in-Some.class c.is_segment.result c.requires
    c.in-Some.ensures c.is_segment.ensures c.if-is_segment.false

pub returns-in-None : goal.returns-in-None
returns-in-None c = separated_none c.args.trees.now c.args.rest.now c.requires c.in-None.ensures
