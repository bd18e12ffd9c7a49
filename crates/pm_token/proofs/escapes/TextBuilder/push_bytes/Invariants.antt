use Rattle.std.proofs.Common.{◌≡◌, ◌++◌, length}
use Rattle.pm_token.specs.Escaped.{content, written_byte}
use Rattle.pm_token.proofs.escapes.TextBuilder.push_bytes.Given as goal

-- the text so far and that of the remaining bytes make up the result
abbrev pub invariant-loop-byte : goal.invariant-loop-byte
invariant-loop-byte l = record {
  same : l.self ++ content l.quote written_byte l.left ≡ l.initial.self ++ content l.quote written_byte l.initial.left;
}

abbrev pub decreases-loop-byte : goal.decreases-loop-byte
decreases-loop-byte l = length l.left
