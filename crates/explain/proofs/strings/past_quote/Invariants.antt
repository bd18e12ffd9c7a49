use Rattle.std.proofs.Common.{length}
use Rattle.std.specs.Str.{chars}
use Rattle.lexical.specs.RuleMatch.{Leads}
use Rattle.explain.specs.Shapes.{closed_body}
use Rattle.explain.proofs.strings.past_quote.Given as goal

abbrev pub invariant-loop-after : goal.invariant-loop-after
invariant-loop-after l = Leads closed_body l.inside closed_body l.end

abbrev pub decreases-loop-after : goal.decreases-loop-after
decreases-loop-after l = length (chars l.end.rest.now)
