use Rattle.std.proofs.Common.{◌≡◌, ◌≤◌, ◌+◌, ◌-◌, length, drop}
use Rattle.lexical.specs.Finder.{while_front}
use Rattle.pm_token.specs.Escaped.{is_plain_ascii}
use Rattle.pm_token.proofs.escapes.words.count_in_string.Given as goal

abbrev pub invariant-loop-word : goal.invariant-loop-word
invariant-loop-word l = (l.count ≤ length l.bytes)
    × (l.count + length (while_front (is_plain_ascii 34) (drop l.count l.bytes))
    ≡ length (while_front (is_plain_ascii 34) l.bytes))

abbrev pub decreases-loop-word : goal.decreases-loop-word
decreases-loop-word l = length l.bytes - l.count
