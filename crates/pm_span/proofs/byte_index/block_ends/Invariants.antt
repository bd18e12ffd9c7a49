use Rattle.std.proofs.Common.{◌≡◌, ◌+◌, ◌*◌, ◌<◌, ℕ, length, drop, get_or}
use denote.Shadow.{shadow}
use denote.Text.{Utf8}
use Rattle.std.specs.Str.{chars}
use Rattle.pm_span.specs.ByteIndex.{IsByteOffset}
use Rattle.pm_span.proofs.byte_index.block_ends.Given as goal

-- the ends of the blocks so far are right, and the rest is the text after them
abbrev pub invariant-loop : goal.invariant-loop
invariant-loop l = record {
  utf8 : shadow (Utf8 l.rest);
  left : chars l.rest ≡ drop (64 * l.counter) (chars l.text);
  count : length l.ends.items ≡ l.counter;
  each : (block : ℕ) → block < length l.ends.items
      → IsByteOffset (chars l.text) (64 * (block + 1)) (get_or l.ends.items block 0);
}
