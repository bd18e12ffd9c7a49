use Rattle.declarations.proofs.PrivateItemLemmas.{call_begins, call_leads, group_item, private_declaration}
use Rattle.declarations.proofs.PrivateItemLemmas.{separator_at}
use Rattle.declarations.proofs.item_kinds.past_private.Goals as goal

pub returns-then-is : goal.returns-then-is
returns-then-is c =
    group_item c.args.trees.now c.in-Some.rest.now c.in-Some.class c.is.result c.in-Some.ensures c.is.ensures
    c.if-is.true

pub separated_call-requires : goal.separated_call-requires
separated_call-requires c =
    separator_at c.args.trees.now c.in-Some.rest.now c.in-Some.class c.is-else-is.result c.in-Some.ensures
    c.is-else-is.ensures
    c.if-is-2.true

pub call_item-requires-clause-leads : goal.call_item-requires-clause-leads
call_item-requires-clause-leads c =
    call_leads c.args.trees.now c.in-Some.rest.now c.in-Some.class c.is_call.result c.in-Some.ensures c.is_call.ensures
    c.if-is_call.true

pub call_item-requires-clause-path : goal.call_item-requires-clause-path
call_item-requires-clause-path c =
    call_begins c.args.trees.now c.in-Some.rest.now c.in-Some.class c.is_call.result c.in-Some.ensures
    c.is_call.ensures c.if-is_call.true

pub returns-else-is_call : goal.returns-else-is_call
returns-else-is_call c =
    private_declaration c.args.trees.now c.in-Some.rest.now c.in-Some.class c.is.result c.is-else-is.result
    c.is_call.result
    c.past_declaration.result c.in-Some.ensures c.is.ensures c.if-is.false c.is-else-is.ensures c.if-is-2.false
    c.is_call.ensures c.if-is_call.false c.past_declaration.ensures
