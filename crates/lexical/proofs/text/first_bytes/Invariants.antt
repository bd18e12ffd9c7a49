use Rattle.std.proofs.Common.{◌≡◌, ◌≤◌, take}
use Rattle.std.specs.List.{count_by}
use Rattle.lexical.specs.Text.{is_first_byte}
use Rattle.lexical.proofs.text.first_bytes.Given as goal

abbrev pub invariant-loop-byte : goal.invariant-loop-byte
invariant-loop-byte l = (l.count ≤ l.byte-index) × (l.count ≡ count_by is_first_byte (take l.byte-index l.bytes))
