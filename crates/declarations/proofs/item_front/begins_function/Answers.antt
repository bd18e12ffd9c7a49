use Rattle.declarations.specs.rules.Fronts.{function_front}
use Rattle.declarations.proofs.ReaderLemmas.{test_heads}
use Rattle.declarations.proofs.item_front.begins_function.Goals as goal

pub returns-in-Some : goal.returns-in-Some
returns-in-Some c =
    test_heads function_front c.args.trees.now c.in-Some.field-0-1.now c.in-Some.class c.begins_fn.result
    c.in-Some.ensures c.begins_fn.ensures
