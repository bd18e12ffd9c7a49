use Rattle.declarations.specs.rules.Fronts.{gen_front}
use Rattle.declarations.proofs.ReaderLemmas.{test_heads}
use Rattle.declarations.proofs.item_front.begins_gen.Goals as goal

pub returns-in-Some : goal.returns-in-Some
returns-in-Some c =
    test_heads gen_front c.args.trees.now c.in-Some.field-0-1.now c.in-Some.class c.begins_after_gen.result
    c.in-Some.ensures c.begins_after_gen.ensures
