use Rattle.declarations.proofs.EntryLemmas.{named_fails, named_parts}
use Rattle.declarations.proofs.ReaderLemmas.{mark_finds, mark_sticks, then_finds, then_sticks}
use Rattle.declarations.proofs.entry.named_of.Goals as goal

pub returns-in-Err-args_of : goal.returns-in-Err-args_of
returns-in-Err-args_of c =
    named_fails c.args.trees.now c.in-Ok.from_args.now c.in-Err-args_of.left.now c.in-Ok.ensures
    c.in-Err-args_of.ensures

pub returns-in-Ok-args_of : goal.returns-in-Ok-args_of
returns-in-Ok-args_of c = (
  mark_finds _ _ c.args.trees.now c.in-Ok-args_of.rest.now (then_finds _ _ c.args.trees.now c.in-Ok.from_args.now
      c.in-Ok-args_of.rest.now c.in-Ok.ensures c.in-Ok-args_of.ensures.0),
  named_parts c.args.trees.now
      c.part-path.result.now c.in-Ok.from_args.now c.in-Ok-args_of.rest.now _ c.in-Ok.ensures c.part-path.ensures
      c.in-Ok-args_of.ensures.1,
)

pub returns-in-Err : goal.returns-in-Err
returns-in-Err c =
    mark_sticks _ _ c.args.trees.now c.in-Err.left.now (then_sticks _ _ c.args.trees.now c.in-Err.left.now
    c.in-Err.ensures)

pub part-path-requires : goal.part-path-requires
part-path-requires c = c.in-Ok.ensures.remains
