use Rattle.std.proofs.Common.{◌≡◌, ◌↔◌, length}
use Rattle.token_buffer.specs.Entries.{AreWithin}
use Rattle.token_buffer.proofs.PartLemmas.{bare_events}
use Rattle.token_buffer.proofs.compared.CursorPartialEq.eq.Given as goal

-- all contents are the same exactly if the remaining ones are
abbrev pub invariant-loop-entry : goal.invariant-loop-entry
invariant-loop-entry l = record {
  same : (bare_events l.fn.self.text.now l.fn.self.entries.now ≡ bare_events l.fn.other.text.now l.fn.other.entries.now)
      ↔ (bare_events l.fn.self.text.now l.entries ≡ bare_events l.fn.other.text.now l.others);
  within : AreWithin l.fn.self.text.now l.entries;
  other : AreWithin l.fn.other.text.now l.others;
}

abbrev pub decreases-loop-entry : goal.decreases-loop-entry
decreases-loop-entry l = length l.entries
