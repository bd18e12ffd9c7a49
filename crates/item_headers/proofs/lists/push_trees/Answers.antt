use Rattle.item_headers.proofs.ListLemmas.{put_done, put_step}
use Rattle.item_headers.proofs.lists.push_trees.Goals as goal

pub loop-tree-preserved : goal.loop-tree-preserved
loop-tree-preserved c =
    put_step c.args.quote.now c.loop-tree.quote c.push.new.self c.args.trees.now c.loop-tree.left.now
    c.in-Some.tree.now c.in_ok-copy.copy c.in-Some.rest.now c.in-Some.ensures.cases.0 c.in_ok-copy.ensures.cases
    c.in_ok-push.ensures.ok c.loop-tree.invariant

pub returns : goal.returns
returns c =
    put_done c.args.quote.now c.loop-tree.quote c.args.trees.now c.loop-tree.left.now c.in_default.ensures.cases
    c.loop-tree.invariant
