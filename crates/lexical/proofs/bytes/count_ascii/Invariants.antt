use Rattle.std.proofs.Common.{◌≡◌, ◌≤◌, ◌+◌, ◌-◌, length, drop}
use Rattle.lexical.specs.Bytes.{ascii_in}
use Rattle.lexical.specs.Finder.{while_front}
use Rattle.lexical.proofs.bytes.count_ascii.Given as goal

abbrev pub invariant-loop-count : goal.invariant-loop-count
invariant-loop-count l = (l.count ≤ length l.bytes)
    × (l.count + length (while_front (ascii_in l.class) (drop l.count l.bytes))
    ≡ length (while_front (ascii_in l.class) l.bytes))

abbrev pub decreases-loop-count : goal.decreases-loop-count
decreases-loop-count l = length l.bytes - l.count
