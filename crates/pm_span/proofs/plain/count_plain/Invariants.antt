use Rattle.std.proofs.Common.{◌≡◌, ◌+◌, length}
use Rattle.std.specs.List.{prefix_len}
use Rattle.pm_span.specs.Plain.{is_plain}
use Rattle.pm_span.proofs.plain.count_plain.Given as goal

-- all bytes so far are plain, and the rest follows them
abbrev pub invariant-loop-word : goal.invariant-loop-word
invariant-loop-word l = record {
  size : l.count + length l.rest ≡ length l.bytes;
  plain : l.count + prefix_len is_plain l.rest ≡ prefix_len is_plain l.bytes;
}

abbrev pub decreases-loop-word : goal.decreases-loop-word
decreases-loop-word l = length l.rest
