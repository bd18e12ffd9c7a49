use Rattle.std.proofs.Common.{length}
use Rattle.declarations.proofs.FileLemmas.{ReadUpTo}
use Rattle.declarations.proofs.file.parse_file.Given as goal

-- items are read up to the left trees
abbrev pub invariant-loop-left : goal.invariant-loop-left
invariant-loop-left l = ReadUpTo l.trees l.items l.left

abbrev pub decreases-loop-left : goal.decreases-loop-left
decreases-loop-left l = length l.left
