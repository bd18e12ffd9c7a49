use Rattle.std.proofs.Common.{◌≡◌, ◌+◌, ◌<◌, ◌^◌, length}
use Rattle.std.specs.Str.{chars, IsUtf8}
use Rattle.std.specs.Str.Iter.{chars_rest}
use Rattle.pm_stream.specs.Places.{moved_past}
use Rattle.pm_stream.proofs.placing.past.Given as goal

-- the line and column after the characters that are left are those after the text
abbrev pub invariant-loop-c : goal.invariant-loop-c
invariant-loop-c l = record {
  utf8 : IsUtf8 (chars_rest l.c-iterator);
  left : moved_past l.place (chars (chars_rest l.c-iterator)) ≡ moved_past l.initial.place (chars l.text);
  lines : l.place.line + length (chars (chars_rest l.c-iterator)) < 2 ^ 32;
  columns : l.place.column + length (chars (chars_rest l.c-iterator)) < 2 ^ 32;
}
