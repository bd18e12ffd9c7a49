use Rattle.declarations.proofs.ParameterLemmas.{
  dots_read,
  end_dots,
  end_dots_sticks,
  end_type,
  end_type_sticks,
  type_read,
}
use Rattle.declarations.proofs.parameter.typed_end.Goals as goal

pub part-requires : goal.part-requires
part-requires c = c.in-Ok-past_type.ensures.remains

pub returns-in-Ok : goal.returns-in-Ok
returns-in-Ok c = (
  end_dots c.args.trees.now c.in-Ok.rest.now c.begins.result c.begins.ensures c.if-begins.true c.in-Ok.ensures,
  dots_read c.args.trees.now c.in-Ok.rest.now c.in-Ok.ensures,
)

pub returns-in-Err : goal.returns-in-Err
returns-in-Err c =
    end_dots_sticks c.args.trees.now c.in-Err.left.now c.begins.result c.begins.ensures c.if-begins.true
    c.in-Err.ensures

pub returns-in-Ok-past_type : goal.returns-in-Ok-past_type
returns-in-Ok-past_type c = (
  end_type c.args.trees.now c.in-Ok-past_type.rest.now c.begins.result c.begins.ensures c.if-begins.false
      c.in-Ok-past_type.ensures,
  type_read c.args.trees.now c.part.result.now c.in-Ok-past_type.rest.now c.in-Ok-past_type.ensures c.part.ensures,
)

pub returns-in-Err-past_type : goal.returns-in-Err-past_type
returns-in-Err-past_type c =
    end_type_sticks c.args.trees.now c.in-Err-past_type.left.now c.begins.result c.begins.ensures c.if-begins.false
    c.in-Err-past_type.ensures
