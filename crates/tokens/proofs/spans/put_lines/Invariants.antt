-- The lines of the trees after the rest are at the end of the buffer, and there is room for the others.
use Rattle.std.proofs.Common.{◌≡◌, ◌*◌, ◌≤◌, ◌++◌, length, drop, flat_map}
use Rattle.tokens.specs.Spans.{tree_line}
use Rattle.tokens.proofs.spans.put_lines.Given as goal

abbrev pub invariant-loop-tree : goal.invariant-loop-tree
invariant-loop-tree l = record {
  room : length l.rest * 64 ≤ l.start;
  within : l.start ≤ length l.buffer;
  written : flat_map tree_line l.rest ++ drop l.start l.buffer ≡ flat_map tree_line l.initial.rest;
}

abbrev pub decreases-loop-tree : goal.decreases-loop-tree
decreases-loop-tree l = length l.rest
