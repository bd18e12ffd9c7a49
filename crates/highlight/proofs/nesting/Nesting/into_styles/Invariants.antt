use Rattle.std.proofs.Common.{◌≡◌, length}
use Rattle.highlight.specs.Delimiters.{spare}
use Rattle.highlight.specs.Nesting.{waiting_of}
use Rattle.highlight.proofs.nesting.Nesting.into_styles.Given as goal

abbrev pub invariant-loop-opener : goal.invariant-loop-opener
invariant-loop-opener l = spare l.styles.items (waiting_of l.openers.items)
    ≡ spare l.initial.styles.items (waiting_of l.initial.openers.items)

abbrev pub decreases-loop-opener : goal.decreases-loop-opener
decreases-loop-opener l = length l.openers.items
