use Rattle.std.proofs.Common.{length}
use Rattle.std.specs.Str.{chars}
use Rattle.lexical.specs.Bytes.{is_in}
use Rattle.lexical.proofs.RunLemmas.{GoesOn}
use Rattle.lexical.proofs.bytes.skip.Given as goal

abbrev pub invariant-loop-after : goal.invariant-loop-after
invariant-loop-after l = GoesOn (is_in l.class) l.at l.end

abbrev pub decreases-loop-after : goal.decreases-loop-after
decreases-loop-after l = length (chars l.end.rest.now)
