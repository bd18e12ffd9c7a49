use Rattle.std.proofs.Common.{length}
use Rattle.std.specs.Str.{chars}
use Rattle.explain.proofs.NearestLemmas.{Sought}
use Rattle.explain.proofs.quote_hints.nearest.Given as goal

abbrev pub invariant-loop-after : goal.invariant-loop-after
invariant-loop-after l = Sought l.inside l.quote l.best

abbrev pub decreases-loop-after : goal.decreases-loop-after
decreases-loop-after l = length (chars l.quote.rest.now)
