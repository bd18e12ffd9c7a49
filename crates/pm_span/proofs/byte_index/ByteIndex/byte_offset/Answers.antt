use Rattle.std.proofs.Common.{arith}
use Rattle.pm_span.proofs.ByteOffsetLemmas.{known_order, narrow_between}
use Rattle.pm_span.proofs.byte_index.ByteIndex.byte_offset.Goals as goal

pub overflow_sub-end : goal.overflow_sub-end
overflow_sub-end c =
    let start = c.block_start-start.ensures in
    let end = c.block_end-end.ensures in
    known_order start.value end.value (omega (arith, start.before, end.after))

pub returns-then-end-start : goal.returns-then-end-start
returns-then-end-start c =
    let start = c.block_start-start.ensures in
    let end = c.block_end-end.ensures in
    narrow_between start.value end.value start.before end.after c.if-end-start.true

pub count_from-requires-clause-known : goal.count_from-requires-clause-known
count_from-requires-clause-known c =
    c.nearer-nearest.ensures c.args.self.now c.requires.known
    (c.nearer.ensures c.args.self.now c.block_start-start.ensures.value c.block_end-end.ensures.value)
