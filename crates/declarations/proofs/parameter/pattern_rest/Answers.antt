use Rattle.grammars.specs.Grammar.{perhaps}
use Rattle.declarations.specs.rules.Parameters as rule
use Rattle.declarations.proofs.ReaderLemmas.{then_reads}
use Rattle.declarations.proofs.parameter.pattern_rest.Goals as goal

pub returns : goal.returns
returns c =
    then_reads rule.pattern_signs (perhaps rule.pattern_angle) c.args.trees.now c.pattern_signs.result.now
    c.perhaps_angle.result c.pattern_signs.ensures c.perhaps_angle.ensures
