use Rattle.std.proofs.Common.{◌≡◌, ◌≤◌, ◌+◌, ◌-◌, length, drop}
use Rattle.lexical.specs.Finder.{while_front}
use Rattle.lexical.specs.MachineWord.{is_plain_ascii}
use Rattle.lexical.proofs.words.count_plain.Given as goal

abbrev pub invariant-loop-word : goal.invariant-loop-word
invariant-loop-word l = (l.size ≤ length l.bytes)
    × (l.size + length (while_front is_plain_ascii (drop l.size l.bytes))
    ≡ length (while_front is_plain_ascii l.bytes))

abbrev pub decreases-loop-word : goal.decreases-loop-word
decreases-loop-word l = length l.bytes - l.size
