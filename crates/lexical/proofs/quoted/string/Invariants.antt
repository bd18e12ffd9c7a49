use Rattle.std.proofs.Common.{codes, length}
use Rattle.std.specs.Str.{chars}
use Rattle.lexical.specs.Quoted.{body, unit}
use Rattle.lexical.specs.Rule.{Exactly, Then}
use Rattle.lexical.specs.RuleMatch.{Leads}
use Rattle.lexical.proofs.quoted.string.Given as goal

abbrev pub invariant-loop-after : goal.invariant-loop-after
invariant-loop-after l =
    let rest = body (unit l.kind) (codes "\"") in
    Leads (Then (Exactly l.front) rest) l.at rest l.end

abbrev pub decreases-loop-after : goal.decreases-loop-after
decreases-loop-after l = length (chars l.end.rest.now)
