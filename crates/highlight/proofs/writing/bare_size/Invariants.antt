use Rattle.std.proofs.Common.{ℕ, ◌-◌, ◌<◌, ◌≤◌, get_or, length}
use Rattle.highlight.specs.Page.{IsBare}
use Rattle.highlight.proofs.writing.bare_size.Given as goal

abbrev pub invariant-loop-size : goal.invariant-loop-size
invariant-loop-size l = record {
  within : l.size ≤ length l.bytes;
  bare : (k : ℕ) → k < l.size → IsBare (get_or l.bytes k 0);
}

abbrev pub decreases-loop-size : goal.decreases-loop-size
decreases-loop-size l = length l.bytes - l.size
