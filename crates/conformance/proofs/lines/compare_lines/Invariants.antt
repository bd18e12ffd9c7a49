use Rattle.std.specs.Io.Iter.{lines_known_bytes}
use Rattle.conformance.specs.Comparison.{IsComparison}
use Rattle.conformance.proofs.lines.compare_lines.Given as goal

abbrev pub invariant-loop-line : goal.invariant-loop-line
invariant-loop-line g l =
    IsComparison (g.R.Read.remaining l.fn.reader) (lines_known_bytes g.R.Read.remaining l.line-iterator) l.tally
    (g.W.Write.contents l.fn.writer) (g.W.Write.contents l.writer)
