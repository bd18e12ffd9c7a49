use Rattle.std.proofs.Common.{sym}
use Rattle.pm_stream.proofs.BuildingLemmas.{joined_nil}
use Rattle.write_getters.proofs.CopiesLemmas.{copied_more}
use Rattle.write_getters.proofs.copies.put_copies.Goals as goal

pub loop-tree-init : goal.loop-tree-init
loop-tree-init c = sym (joined_nil _)

pub loop-tree-preserved : goal.loop-tree-preserved
loop-tree-preserved c =
    copied_more c.args.trees.now c.loop-tree.tree-index _ _ _ _ _ c.loop-tree-test.true c.tree-item.is
    c.in_ok-clone.ensures.cases c.loop-tree.invariant c.in_ok-put.ensures
