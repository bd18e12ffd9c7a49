-- The sink has taken what precedes the rest, and each further write takes at least one byte.
use Rattle.std.proofs.Common.{◌≡◌, length, ℕ, List, ◌++◌}
use Rattle.std.specs.Io.KnownBytes.{Appends}
use Rattle.tokens.proofs.writing.write_all.Given as goal

abbrev pub invariant-loop-rest : goal.invariant-loop-rest
invariant-loop-rest g l = record {
  front : List ℕ;
  whole : l.initial.rest ≡ front ++ l.rest;
  appends : Appends (g.W.ByteSink.held l.initial.writer) (g.W.ByteSink.held l.writer) front;
  flag : g.W.ByteSink.has_failed l.writer ≡ g.W.ByteSink.has_failed l.initial.writer;
}

abbrev pub decreases-loop-rest : goal.decreases-loop-rest
decreases-loop-rest g l = length l.rest
