use Rattle.declarations.proofs.ItemCallLemmas.{call_found, call_no_mark, call_no_name}
use Rattle.declarations.proofs.item_calls.past_call.Goals as goal

pub returns-in-Ok-past_call_name : goal.returns-in-Ok-past_call_name
returns-in-Ok-past_call_name c =
    call_found c.args.trees.now c.in-Ok.from_mark.now c.in-Ok-past.named.now c.in-Ok-past_call_name.rest.now
    c.in-Ok.ensures c.in-Ok-past.ensures c.in-Ok-past_call_name.ensures

pub returns-in-Err-past_call_name : goal.returns-in-Err-past_call_name
returns-in-Err-past_call_name c =
    call_no_name c.args.trees.now c.in-Ok.from_mark.now c.in-Ok-past.named.now c.in-Err-past_call_name.left.now
    c.in-Ok.ensures c.in-Ok-past.ensures c.in-Err-past_call_name.ensures

pub returns-in-Err-past : goal.returns-in-Err-past
returns-in-Err-past c =
    call_no_mark c.args.trees.now c.in-Ok.from_mark.now c.in-Err-past.left.now c.in-Ok.ensures c.in-Err-past.ensures
