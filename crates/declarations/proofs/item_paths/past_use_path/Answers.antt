use Rattle.declarations.proofs.ItemRestLemmas.{import_on, import_reads, import_start}
use Rattle.declarations.proofs.item_paths.past_use_path.Goals as goal

pub loop-next-init : goal.loop-next-init
loop-next-init c = import_start c.args.trees.now

pub loop-next-preserved : goal.loop-next-preserved
loop-next-preserved c =
    import_on c.args.trees.now c.loop-next.left.now c.in-Ok.next.now c.loop-next.invariant c.in-Ok.ensures.0

pub loop-next-smaller : goal.loop-next-smaller
loop-next-smaller c = c.in-Ok.ensures.1

pub returns-in-Err : goal.returns-in-Err
returns-in-Err c =
    import_reads c.args.trees.now c.loop-next.left.now c.in-Err.end c.loop-next.invariant c.in-Err.ensures
