use Rattle.std.proofs.Common.{ℕ, List, ◌∷◌, length}
use Rattle.std.specs.Str.{chars}
use Rattle.lexical.specs.Quoted.{body}
use Rattle.lexical.specs.RawString.{may_stand_raw, raw, raw_unit}
use Rattle.lexical.specs.RuleMatch.{Leads}
use Rattle.lexical.proofs.raw_strings.raw_string.Given as goal

abbrev pub invariant-loop-after : goal.invariant-loop-after
invariant-loop-after l =
    let close : List ℕ = 34 ∷ l.hashes in
    Leads (raw l.front (may_stand_raw l.kind)) l.at (body (raw_unit (may_stand_raw l.kind) close) close) l.end

abbrev pub decreases-loop-after : goal.decreases-loop-after
decreases-loop-after l = length (chars l.end.rest.now)
