use Rattle.std.proofs.Common.{length}
use Rattle.pretty_printer.proofs.reading.push_list.Given as goal

abbrev pub decreases-loop-first : goal.decreases-loop-first
decreases-loop-first l = length l.left
