use Rattle.declarations.proofs.ParameterLemmas.{rest_dotted, rest_named}
use Rattle.declarations.proofs.parameter.rest_of.Goals as goal

pub returns-then-begins : goal.returns-then-begins
returns-then-begins c =
    rest_dotted c.args.trees.now c.begins.result c.dotted_of.result c.begins.ensures c.if-begins.true
    c.dotted_of.ensures

pub returns-else-begins : goal.returns-else-begins
returns-else-begins c =
    rest_named c.args.trees.now c.begins.result c.named_of.result c.begins.ensures c.if-begins.false
    c.named_of.ensures
