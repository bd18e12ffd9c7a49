use Rattle.std.proofs.lemmas.Result.{err_from_is_err_and}
use Rattle.declarations.specs.rules.Bodies.{name}
use Rattle.declarations.specs.rules.Items.{call_end}
use Rattle.declarations.proofs.ReaderLemmas.{then_reads, then_sticks}
use Rattle.declarations.proofs.item_paths.past_named_call.Goals as goal

pub returns-in_err-from_group : goal.returns-in_err-from_group
returns-in_err-from_group c =
    let p = err_from_is_err_and c.from_residual.result c.from_residual.ensures.1 in
    rw (p.1, p.2) (then_sticks name call_end c.args.trees.now c.in_err-from_group.field-0.0.now
    c.in_err-from_group.ensures)

pub returns : goal.returns
returns c =
    then_reads name call_end c.args.trees.now c.in_ok-from_group.from_group.now c.past_call_end.result
    c.in_ok-from_group.ensures c.past_call_end.ensures
