use Rattle.declarations.proofs.ParameterLemmas.{pattern_dotted, pattern_plain}
use Rattle.declarations.proofs.parameter.past_pattern.Goals as goal

pub returns-then-begins : goal.returns-then-begins
returns-then-begins c =
    pattern_dotted c.args.trees.now c.begins.result c.dotted_pattern.result c.begins.ensures c.if-begins.true
    c.dotted_pattern.ensures

pub returns-else-begins : goal.returns-else-begins
returns-else-begins c =
    pattern_plain c.args.trees.now c.begins.result c.plain_pattern.result c.begins.ensures c.if-begins.false
    c.plain_pattern.ensures
