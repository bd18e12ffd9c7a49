use Rattle.declarations.specs.rules.Paths.{constant}
use Rattle.declarations.proofs.ReaderLemmas.{test_heads}
use Rattle.declarations.proofs.generic_argument.heads_constant.Goals as goal

pub returns-in-Some : goal.returns-in-Some
returns-in-Some c =
    test_heads constant c.args.trees.now c.in-Some.field-0-1.now c.in-Some.class c.begins_constant.result
    c.in-Some.ensures
    c.begins_constant.ensures
