use Rattle.declarations.proofs.SignLemmas.{unseen_other}
use Rattle.declarations.proofs.signs.unseen_class.Goals as goal

pub returns : goal.returns
returns c =
    unseen_other c.args.inside.now c.innermost-held.result.now c.trees.result.now c.is_visibility.result
    c.innermost-held.ensures c.trees.ensures.value c.is_visibility.ensures c.if-is_visibility.false
    c.held_class.result c.held_class.ensures
