use Rattle.std.proofs.Common.{◌≡◌, ◌≤◌, ◌+◌, ◌-◌, length, drop}
use Rattle.lexical.specs.Bytes.{ascii_in}
use Rattle.lexical.specs.Finder.{while_front}
use Rattle.lexical.specs.declared.bytes.Class.TheVariants.{IdentifierContinue}
use Rattle.lexical.proofs.words.count_name.Given as goal

abbrev pub invariant-loop-word : goal.invariant-loop-word
invariant-loop-word l = (l.count ≤ length l.bytes)
    × (l.count + length (while_front (ascii_in IdentifierContinue) (drop l.count l.bytes))
    ≡ length (while_front (ascii_in IdentifierContinue) l.bytes))

abbrev pub decreases-loop-word : goal.decreases-loop-word
decreases-loop-word l = length l.bytes - l.count
