use Rattle.std.proofs.Common.{length}
use Rattle.write_getters.proofs.AnswerLemmas.{Goes}
use Rattle.write_getters.proofs.answer.print_file.Given as goal

abbrev pub invariant-loop-left : goal.invariant-loop-left
invariant-loop-left g l =
    Goes l.templates l.initial.left (g.W.Write.contents l.fn.writer) l.left (g.W.Write.contents l.writer)

abbrev pub decreases-loop-left : goal.decreases-loop-left
decreases-loop-left g l = length l.left
