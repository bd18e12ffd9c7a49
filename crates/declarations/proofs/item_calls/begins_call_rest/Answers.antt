use Rattle.declarations.specs.rules.Items.{call}
use Rattle.declarations.proofs.ReaderLemmas.{test_heads}
use Rattle.declarations.proofs.item_calls.begins_call_rest.Goals as goal

pub returns-in-Some : goal.returns-in-Some
returns-in-Some c =
    test_heads call c.args.trees.now c.in-Some.field-0-1.now c.in-Some.class c.goes_on_call.result c.in-Some.ensures
    c.goes_on_call.ensures
