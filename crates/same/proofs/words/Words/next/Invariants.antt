use Rattle.std.proofs.Common.{length}
use Rattle.same.proofs.WordLemmas.{Follows}
use Rattle.same.proofs.words.Words.next.Given as goal

abbrev pub invariant-loop-source_word : goal.invariant-loop-source_word
invariant-loop-source_word l = Follows l.fn.self l.self

abbrev pub decreases-loop-source_word : goal.decreases-loop-source_word
decreases-loop-source_word l = length l.self.walk.rest.now
