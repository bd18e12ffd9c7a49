-- The bytes that are filled so far are those that the source gave, and each further read adds at least one.
use Rattle.std.proofs.Common.{◌≡◌, ◌-◌, ◌^◌, ◌≤◌, take, vec_len}
use Rattle.std.specs.Io.KnownBytes.{Consumes}
use Rattle.tokens.proofs.reading.read_to_end.Given as goal

abbrev pub invariant-loop-bytes : goal.invariant-loop-bytes
invariant-loop-bytes g l = record {
  within : l.filled ≤ vec_len l.bytes;
  consumed : Consumes (g.R.ByteSource.left l.initial.reader) (g.R.ByteSource.left l.reader)
      (take l.filled l.bytes.items);
  flag : g.R.ByteSource.has_failed l.reader ≡ g.R.ByteSource.has_failed l.initial.reader;
}

abbrev pub decreases-loop-bytes : goal.decreases-loop-bytes
decreases-loop-bytes g l = 2 ^ 64 - l.filled
