use Rattle.std.proofs.Common.{length}
use Rattle.std.specs.Str.{chars}
use Rattle.lexical.specs.RuleMatch.{Leads}
use Rattle.explain.specs.Shapes.{closed_raw_body}
use Rattle.explain.proofs.strings.past_raw_quote.Given as goal

abbrev pub invariant-loop-after : goal.invariant-loop-after
invariant-loop-after l = Leads (closed_raw_body l.hashes) l.inside (closed_raw_body l.hashes) l.end

abbrev pub decreases-loop-after : goal.decreases-loop-after
decreases-loop-after l = length (chars l.end.rest.now)
