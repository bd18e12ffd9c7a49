use Rattle.declarations.specs.rules.Paths.{type_path}
use Rattle.declarations.proofs.RuleExpectsLemmas.{whole_expects}
use Rattle.declarations.proofs.explore_path.expected_in_path.Goals as goal

pub returns : goal.returns
returns c =
    whole_expects type_path c.args.trees.now c.see_path.result.left.now c.see_path.result.next c.see_path.ensures
