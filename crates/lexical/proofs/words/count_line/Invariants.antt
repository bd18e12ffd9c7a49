use Rattle.std.proofs.Common.{◌≡◌, ◌≤◌, ◌+◌, ◌-◌, length, drop}
use Rattle.lexical.specs.Finder.{while_front}
use Rattle.lexical.specs.MachineWord.{is_line_ascii}
use Rattle.lexical.proofs.words.count_line.Given as goal

abbrev pub invariant-loop-word : goal.invariant-loop-word
invariant-loop-word l = (l.end ≤ length l.bytes)
    × (l.end + length (while_front is_line_ascii (drop l.end l.bytes))
    ≡ length (while_front is_line_ascii l.bytes))

abbrev pub decreases-loop-word : goal.decreases-loop-word
decreases-loop-word l = length l.bytes - l.end
