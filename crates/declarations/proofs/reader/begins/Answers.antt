use Rattle.declarations.proofs.ReaderLemmas.{test_heads}
use Rattle.declarations.specs.rules.Names.{one}
use Rattle.declarations.proofs.reader.begins.Goals as goal

pub returns-in-Some : goal.returns-in-Some
returns-in-Some c =
    test_heads (one c.args.class) c.args.trees.now c.in-Some.field-0-1.now c.in-Some.found c.is.result c.in-Some.ensures
    c.is.ensures
