use Rattle.declarations.specs.Syntax.{grammar_of}
use Rattle.declarations.proofs.RuleExpectsLemmas.{whole_expects}
use Rattle.declarations.proofs.explore.expected_by.Goals as goal

pub returns : goal.returns
returns c =
    whole_expects (grammar_of c.args.syntax.now) c.args.trees.now c.explore.result.left.now c.explore.result.next
    c.explore.ensures
