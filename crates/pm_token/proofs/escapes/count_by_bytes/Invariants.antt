use Rattle.std.proofs.Common.{◌≡◌, ◌≤◌, ◌+◌, ◌-◌, length, drop}
use Rattle.lexical.specs.Finder.{while_front}
use Rattle.pm_token.specs.Escaped.{is_plain_ascii}
use Rattle.pm_token.proofs.escapes.count_by_bytes.Given as goal

abbrev pub invariant-loop-count : goal.invariant-loop-count
invariant-loop-count l = (l.count ≤ length l.bytes)
    × (l.count + length (while_front (is_plain_ascii l.quote) (drop l.count l.bytes))
    ≡ length (while_front (is_plain_ascii l.quote) l.bytes))

abbrev pub decreases-loop-count : goal.decreases-loop-count
decreases-loop-count l = length l.bytes - l.count
