use Rattle.std.proofs.Common.{◌≡◌, ◌*◌, ◌<◌, ◌≤◌, ◌^◌, length}
use Rattle.pm_span.specs.LineIndex.{AreBlocks, AreUpTo}
use Rattle.pm_span.proofs.line_index.count_by_blocks.Given as goal

-- the counts so far are right, and `lines` is the count for the last block
abbrev pub invariant-loop : goal.invariant-loop
invariant-loop l = record {
  blocks : AreBlocks l.block l.starts l.blocks.items;
  count : length l.blocks.items ≡ l.counter;
  lines : AreUpTo l.starts l.lines l.block_start;
  start : l.block_start ≤ l.counter * l.block;
  fits : l.block_start < 2 ^ 32;
}
