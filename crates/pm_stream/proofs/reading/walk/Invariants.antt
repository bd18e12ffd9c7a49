use Rattle.std.proofs.Common.{◌≡◌, ◌==◌, ◌+◌, length}
use Rattle.std.specs.Str.{chars}
use denote.Shadow.{shadow}
use denote.Text.{Utf8}
use Rattle.pm_stream.specs.Reading.{ReadsTo}
use Rattle.pm_stream.proofs.reading.walk.Given as goal

abbrev pub invariant-loop-piece : goal.invariant-loop-piece
invariant-loop-piece g l = record {
  utf8 : shadow (Utf8 l.rest);
  left : l.at + length (chars l.rest) ≡ l.base + length (chars l.text);
  reads : ReadsTo g.S.TokenSink.opens g.S.TokenSink.took l.base (chars l.text) (chars l.rest) l.at
      (length l.rest == length l.text) l.sink l.opened.items;
}

abbrev pub decreases-loop-piece : goal.decreases-loop-piece
decreases-loop-piece g l = length (chars l.rest)
