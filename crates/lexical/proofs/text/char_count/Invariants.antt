use Rattle.std.proofs.Common.{◌≡◌, ◌≤◌, ◌+◌, length}
use Rattle.std.specs.List.{count_by}
use Rattle.lexical.specs.Text.{is_first_byte}
use Rattle.lexical.proofs.text.char_count.Given as goal

abbrev pub invariant-loop-rest : goal.invariant-loop-rest
invariant-loop-rest l =
    (l.count + length l.rest ≤ length l.text)
    × (l.count + count_by is_first_byte l.rest ≡ count_by is_first_byte l.text)

abbrev pub decreases-loop-rest : goal.decreases-loop-rest
decreases-loop-rest l = length l.rest
