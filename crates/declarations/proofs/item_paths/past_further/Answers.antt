use Rattle.std.proofs.lemmas.Result.{err_from_is_err_and}
use Rattle.declarations.proofs.ReaderLemmas.{then_reads, then_sticks}
use Rattle.declarations.proofs.item_paths.past_further.Goals as goal

pub returns-in_err-from_segment : goal.returns-in_err-from_segment
returns-in_err-from_segment c =
    let p = err_from_is_err_and c.from_residual.result c.from_residual.ensures.1 in
    rw (p.1, p.2) (then_sticks _ _ c.args.trees.now c.in_err-from_segment.field-0.0.now c.in_err-from_segment.ensures)

pub returns : goal.returns
returns c =
    then_reads _ _ c.args.trees.now c.in_ok-from_segment.from_segment.now c.past_segment.result
    c.in_ok-from_segment.ensures c.past_segment.ensures
