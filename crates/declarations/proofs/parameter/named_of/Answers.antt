use Rattle.declarations.proofs.ParameterLemmas.{named_finds, named_kind, named_sticks}
use Rattle.declarations.proofs.parameter.named_of.Goals as goal

pub part-pattern-requires : goal.part-pattern-requires
part-pattern-requires c = c.in-Ok.ensures.1.remains

pub returns-in-Ok-end_of : goal.returns-in-Ok-end_of
returns-in-Ok-end_of c =
    let shape = c.in-Ok.shape in (
      named_finds shape c.args.trees.now c.in-Ok.from_end.now c.in-Ok-end_of.rest.now c.in-Ok.ensures.0
          c.in-Ok-end_of.ensures.0,
      named_kind shape c.in-Ok-end_of.kind c.args.trees.now c.part-pattern.result.now c.in-Ok.from_end.now
          c.in-Ok-end_of.rest.now c.in-Ok.ensures.1 c.part-pattern.ensures c.in-Ok-end_of.ensures.1,
    )

pub returns-in-Err-end_of : goal.returns-in-Err-end_of
returns-in-Err-end_of c =
    named_sticks c.in-Ok.shape c.args.trees.now c.in-Ok.from_end.now c.in-Err-end_of.left.now c.in-Ok.ensures.0
    c.in-Err-end_of.ensures

pub returns-in-Err : goal.returns-in-Err
returns-in-Err c = c.in-Err.ensures
