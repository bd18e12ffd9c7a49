use Rattle.std.proofs.Common.{length}
use Rattle.item_headers.proofs.ListLemmas.{PutParams}
use Rattle.item_headers.proofs.params.push_generics.Given as goal

abbrev pub invariant-loop-left : goal.invariant-loop-left
invariant-loop-left l = PutParams l.lead l.form l.initial.left l.left l.fn.quote l.quote l.any

abbrev pub decreases-loop-left : goal.decreases-loop-left
decreases-loop-left l = length l.left
