use Rattle.std.proofs.Common.{codes, length}
use Rattle.std.specs.Str.{chars}
use Rattle.lexical.specs.Rule.{Exactly, UpTo}
use Rattle.lexical.specs.RuleMatch.{Leads}
use Rattle.explain.specs.Shapes.{single_pair}
use Rattle.explain.proofs.quotes.past_single_pairs.Given as goal

abbrev pub invariant-loop-after : goal.invariant-loop-after
invariant-loop-after l =
    let body = UpTo single_pair (Exactly (codes "'")) in
    Leads body l.inside body l.end

abbrev pub decreases-loop-after : goal.decreases-loop-after
decreases-loop-after l = length (chars l.end.rest.now)
