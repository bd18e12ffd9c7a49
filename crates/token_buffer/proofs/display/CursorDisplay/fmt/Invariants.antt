use Rattle.std.proofs.Common.{◌≡◌, ℕ, false, List, ◌++◌, length}
use Rattle.std.specs.Fmt.{HasWritten, IsPlainFormatter}
use Rattle.std.specs.Str.{encode_utf8_all}
use Rattle.pm_stream.specs.PrintedEvents.{events_text}
use Rattle.token_buffer.specs.Entries.{events_of, AreWithin}
use Rattle.token_buffer.proofs.display.CursorDisplay.fmt.Given as goal

-- the text so far and that of the remaining entries make up the result
abbrev pub invariant-loop-entry : goal.invariant-loop-entry
invariant-loop-entry g l = record {
  written :
      IsPlainFormatter l.fn.f
      → (done : List ℕ)
      × HasWritten g.W.Write.write_str_gives l.fn.f (encode_utf8_all done) l.f
      × (done ++ events_text l.gap (events_of l.fn.self.text.now l.entries)
      ≡ events_text false (events_of l.fn.self.text.now l.fn.self.entries.now));
  within : AreWithin l.fn.self.text.now l.entries;
}

abbrev pub decreases-loop-entry : goal.decreases-loop-entry
decreases-loop-entry g l = length l.entries
