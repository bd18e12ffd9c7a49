use Rattle.std.proofs.Common.{◌≡◌, ◌+◌, ◌++◌, length}
use denote.Shadow.{shadow}
use denote.Text.{Utf8}
use Rattle.std.specs.Str.{chars}
use Rattle.pm_span.specs.LineIndex.{after_line_feeds_from, after_line_feeds}
use Rattle.pm_span.proofs.text_lines.find_lines.Given as goal

-- the lines that were found end where the rest of the text begins
abbrev pub invariant-loop-after : goal.invariant-loop-after
invariant-loop-after l = record {
  utf8 : shadow (Utf8 l.rest);
  count : l.start + length (chars l.rest) ≡ length (chars l.text);
  starts : l.starts.items ++ after_line_feeds_from l.start (chars l.rest) ≡ after_line_feeds (chars l.text);
}

abbrev pub decreases-loop-after : goal.decreases-loop-after
decreases-loop-after l = length (chars l.rest)
