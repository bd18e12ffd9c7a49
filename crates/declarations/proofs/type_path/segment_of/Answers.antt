use Rattle.std.proofs.Common.{refl}
use Rattle.declarations.proofs.TypePathLemmas.{no_ident, no_segment, segment_at}
use Rattle.declarations.proofs.type_path.segment_of.Goals as goal

pub returns-then-is_segment : goal.returns-then-is_segment
returns-then-is_segment c = (
  refl,
  segment_at c.args.trees.now c.in-Ok.rest.now c.in-Ok.name.now c.name_class.result c.is_segment.result
      c.in-Ok.ensures.found c.name_class.ensures c.is_segment.ensures c.if-is_segment.true,
)

pub returns-else-is_segment : goal.returns-else-is_segment
returns-else-is_segment c = (
  refl,
  no_segment c.args.trees.now c.in-Ok.rest.now c.in-Ok.name.now c.name_class.result c.is_segment.result
      c.in-Ok.ensures.found c.name_class.ensures c.is_segment.ensures c.if-is_segment.false,
)

pub returns-in-Err : goal.returns-in-Err
returns-in-Err c = (refl, no_ident c.args.trees.now c.in-Err.ensures.fault)
