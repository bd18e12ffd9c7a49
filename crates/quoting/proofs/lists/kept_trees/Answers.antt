use Rattle.std.proofs.Common.{◌∙◌, ap}
use Rattle.proc_macro2.specs.Building.{split}
use Rattle.quoting.specs.Items.{One, and_last}
use Rattle.quoting.proofs.ItemLemmas.{each_more}
use Rattle.quoting.proofs.lists.kept_trees.Goals as goal

pub loop-tree-preserved : goal.loop-tree-preserved
loop-tree-preserved c =
    c.in_ok-put.ensures.ok
    ∙ (ap (λ t. and_last c.loop-tree.values (One (split t))) c.in_ok-clone.ensures.cases
    ∙ each_more (λ tree. One (split tree)) c.args.trees.now c.loop-tree.tree-index
    c.tree-item.result c.tree-item.result c.loop-tree.values
    c.loop-tree-test.true c.tree-item.is c.loop-tree.invariant)
