use Rattle.std.proofs.Common.{length}
use denote.Text.{Utf8}
use denote.Shadow.{shadow}
use Rattle.indent.proofs.tests.choices.Given as goal

abbrev pub invariant-loop-next : goal.invariant-loop-next
invariant-loop-next l = shadow (Utf8 l.here)

abbrev pub decreases-loop-next : goal.decreases-loop-next
decreases-loop-next l = length l.walk.rest.now
