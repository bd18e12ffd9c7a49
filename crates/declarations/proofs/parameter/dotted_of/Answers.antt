use Rattle.std.proofs.Common.{[], refl}
use Rattle.declarations.proofs.ParameterLemmas.{dots_finds, dots_kind, dots_sticks, dotted_begins, dotted_fails}
use Rattle.declarations.proofs.ParameterLemmas.{dotted_finds, dotted_kind, dotted_remains, dotted_sticks}
use Rattle.declarations.proofs.parameter.dotted_of.Goals as goal

pub returns-in-Ok-past : goal.returns-in-Ok-past
returns-in-Ok-past c = (
  dots_finds c.args.trees.now c.in-Ok.after.now c.in-Ok.ensures c.in-Ok-past.rest.now c.in-Ok-past.ensures,
  dots_kind c.args.trees.now c.in-Ok.after.now c.in-Ok.ensures [] c.in-Ok-past.rest.now refl c.in-Ok-past.ensures,
)

pub returns-in-Err-past : goal.returns-in-Err-past
returns-in-Err-past c =
    dots_sticks c.args.trees.now c.in-Ok.after.now c.in-Ok.ensures c.in-Err-past.left.now c.begins.result
    c.begins.ensures c.if-begins.true c.in-Err-past.ensures

pub returns-in-Err-pattern_parameter : goal.returns-in-Err-pattern_parameter
returns-in-Err-pattern_parameter c =
    dotted_fails c.args.trees.now c.in-Ok.after.now c.in-Ok.ensures c.begins.result c.begins.ensures
    c.if-begins.false c.in-Ok-pattern_rest.from_end.now c.in-Err-pattern_parameter.left.now
    c.in-Ok-pattern_rest.ensures c.in-Err-pattern_parameter.ensures

pub returns-in-Err-pattern_rest : goal.returns-in-Err-pattern_rest
returns-in-Err-pattern_rest c =
    dotted_sticks c.args.trees.now c.in-Ok.after.now c.in-Ok.ensures c.begins.result c.begins.ensures
    c.if-begins.false c.in-Err-pattern_rest.left.now c.in-Err-pattern_rest.ensures

pub returns-in-Ok-pattern_parameter : goal.returns-in-Ok-pattern_parameter
returns-in-Ok-pattern_parameter c = (
  dotted_finds c.args.trees.now c.in-Ok.after.now c.in-Ok.ensures c.begins.result c.begins.ensures
      c.if-begins.false c.in-Ok-pattern_rest.from_end.now c.in-Ok-pattern_parameter.rest.now
      c.in-Ok-pattern_rest.ensures c.in-Ok-pattern_parameter.ensures.0,
  dotted_kind c.args.trees.now c.in-Ok.after.now
      c.in-Ok.ensures c.part-pattern.result.now c.in-Ok-pattern_rest.from_end.now c.in-Ok-pattern_parameter.rest.now _
      c.in-Ok-pattern_rest.ensures c.part-pattern.ensures c.in-Ok-pattern_parameter.ensures.1,
)

pub returns-in-Err : goal.returns-in-Err
returns-in-Err c = dotted_begins c.args.trees.now c.in-Err.left.now c.in-Err.ensures

pub part-pattern-requires : goal.part-pattern-requires
part-pattern-requires c =
    dotted_remains c.args.trees.now c.in-Ok.after.now c.in-Ok.ensures c.in-Ok-pattern_rest.from_end.now
    c.in-Ok-pattern_rest.ensures
