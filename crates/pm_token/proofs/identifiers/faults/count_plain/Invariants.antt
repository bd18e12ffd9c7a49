use Rattle.std.proofs.Common.{◌≡◌, ◌≤◌, ◌+◌, ◌-◌, length, drop}
use Rattle.lexical.specs.Finder.{while_front}
use Rattle.pm_token.specs.IdentFault.{is_plain_continue}
use Rattle.pm_token.proofs.identifiers.faults.count_plain.Given as goal

abbrev pub invariant-loop-count : goal.invariant-loop-count
invariant-loop-count l = (l.count ≤ length l.bytes)
    × (l.count + length (while_front is_plain_continue (drop l.count l.bytes))
    ≡ length (while_front is_plain_continue l.bytes))

abbrev pub decreases-loop-count : goal.decreases-loop-count
decreases-loop-count l = length l.bytes - l.count
