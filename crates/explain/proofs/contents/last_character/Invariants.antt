use Rattle.std.proofs.Common.{length}
use Rattle.std.specs.Str.{chars}
use Rattle.explain.proofs.PlaceLemmas.{IsOnWay}
use Rattle.explain.proofs.contents.last_character.Given as goal

abbrev pub invariant-loop-last : goal.invariant-loop-last
invariant-loop-last l = IsOnWay l.at l.last l.end

abbrev pub decreases-loop-last : goal.decreases-loop-last
decreases-loop-last l = length (chars l.last.rest.now)
