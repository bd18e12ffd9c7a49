use Rattle.declarations.specs.rules.Bodies.{where_and_body}
use Rattle.declarations.proofs.ReaderLemmas.{test_heads}
use Rattle.declarations.proofs.implementation.has_end.Goals as goal

pub returns-in-Some : goal.returns-in-Some
returns-in-Some c =
    test_heads where_and_body c.args.trees.now c.in-Some.field-0-1.now c.in-Some.class c.begins_end.result
    c.in-Some.ensures
    c.begins_end.ensures
