use Rattle.std.proofs.Common.{◌≡◌, true, length}
use Rattle.highlight.specs.Delimiters.{from_match}
use Rattle.highlight.specs.Nesting.{IsAwaited, flag, waiting_of}
use Rattle.highlight.proofs.nesting.Nesting.take_match.Given as goal

-- the openers that were removed wait for other closers
abbrev pub invariant-loop-opener : goal.invariant-loop-opener
invariant-loop-opener l = record {
  awaited : IsAwaited l.self.awaited l.self.openers.items;
  waits : flag l.closer l.self.awaited ≡ true;
  same : from_match l.closer (waiting_of l.self.openers.items)
      ≡ from_match l.closer (waiting_of l.initial.self.openers.items);
  styles : l.self.styles.items ≡ l.initial.self.styles.items;
}

abbrev pub decreases-loop-opener : goal.decreases-loop-opener
decreases-loop-opener l = length l.self.openers.items
