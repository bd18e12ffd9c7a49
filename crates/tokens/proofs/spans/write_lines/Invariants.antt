-- The sink has taken the lines of the trees before the rest.
use Rattle.std.proofs.Common.{◌≡◌, length, ℕ, List, ◌++◌, flat_map}
use Rattle.std.specs.Io.KnownBytes.{Appends}
use Rattle.tokens.specs.Spans.{tree_line}
use Rattle.tokens.proofs.spans.write_lines.Given as goal

abbrev pub invariant-loop-rest : goal.invariant-loop-rest
invariant-loop-rest g l = record {
  front : List ℕ;
  whole : flat_map tree_line l.initial.rest ≡ front ++ flat_map tree_line l.rest;
  appends : Appends (g.W.ByteSink.held l.initial.writer) (g.W.ByteSink.held l.writer) front;
  flag : g.W.ByteSink.has_failed l.writer ≡ g.W.ByteSink.has_failed l.initial.writer;
}

abbrev pub decreases-loop-rest : goal.decreases-loop-rest
decreases-loop-rest g l = length l.rest
