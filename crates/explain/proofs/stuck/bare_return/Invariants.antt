use Rattle.std.proofs.Common.{length}
use Rattle.std.specs.Str.{chars}
use Rattle.explain.proofs.BareReturnLemmas.{AtReturn}
use Rattle.explain.proofs.stuck.bare_return.Given as goal

abbrev pub invariant-loop-after : goal.invariant-loop-after
invariant-loop-after l = AtReturn l.inside l.at

abbrev pub decreases-loop-after : goal.decreases-loop-after
decreases-loop-after l = length (chars l.at.rest.now)
