use Rattle.std.proofs.Common.{◌≡◌, ◌≤◌, ◌+◌, ◌-◌, length, drop}
use Rattle.std.specs.List.{prefix_len}
use Rattle.pm_span.specs.Plain.{is_plain}
use Rattle.pm_span.proofs.plain.count_by_bytes.Given as goal

abbrev pub invariant-loop-count : goal.invariant-loop-count
invariant-loop-count l = (l.count ≤ length l.bytes)
    × (l.count + prefix_len is_plain (drop l.count l.bytes) ≡ prefix_len is_plain l.bytes)

abbrev pub decreases-loop-count : goal.decreases-loop-count
decreases-loop-count l = length l.bytes - l.count
