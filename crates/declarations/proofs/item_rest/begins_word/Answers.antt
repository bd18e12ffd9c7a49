use Rattle.declarations.specs.rules.Names.{word}
use Rattle.declarations.proofs.ReaderLemmas.{test_heads}
use Rattle.declarations.proofs.item_rest.begins_word.Goals as goal

pub returns-in-Some : goal.returns-in-Some
returns-in-Some c =
    test_heads word c.args.trees.now c.in-Some.field-0-1.now c.in-Some.class c.is_name.result c.in-Some.ensures
    c.is_name.ensures
