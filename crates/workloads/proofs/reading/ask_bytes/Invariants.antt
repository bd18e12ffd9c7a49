use Rattle.std.proofs.Common.{length, ◌≡◌}
use Rattle.std.specs.Prelude.{All}
use Rattle.proc_macro2.specs.Files.{Holds}
use Rattle.proc_macro2.specs.TreeSpan.{extent_of}
use Rattle.workloads.proofs.reading.ask_bytes.Given as goal

-- The map stays as it is, and holds the span of each tree that is left.
abbrev pub invariant-loop-walk : goal.invariant-loop-walk
invariant-loop-walk l = (l.map ≡ l.fn.map) × All (λ tree. Holds l.map (extent_of tree)) l.walk

abbrev pub decreases-loop-walk : goal.decreases-loop-walk
decreases-loop-walk l = length l.walk
