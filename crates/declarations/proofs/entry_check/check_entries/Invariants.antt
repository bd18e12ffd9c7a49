use Rattle.std.proofs.Common.{length}
use Rattle.declarations.proofs.EntryCheckLemmas.{Checked}
use Rattle.declarations.proofs.entry_check.check_entries.Given as goal

abbrev pub invariant-loop-left : goal.invariant-loop-left
invariant-loop-left l = Checked l.known l.list l.left l.seen

abbrev pub decreases-loop-left : goal.decreases-loop-left
decreases-loop-left l = length l.left
