use Rattle.declarations.proofs.ItemCallLemmas.{call_reads}
use Rattle.declarations.proofs.item_calls.call_item.Goals as goal

pub returns : goal.returns
returns c =
    call_reads c.args.trees.now c.args.rest.now c.past_call.result c.requires.leads c.requires.path c.past_call.ensures
