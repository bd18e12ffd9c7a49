use Rattle.std.proofs.Common.{◌≡◌, drop}
use Rattle.std.specs.Str.{chars, IsUtf8}
use Rattle.pm_span.proofs.text.skip_chars.Given as goal

-- `rest` is the text after the characters so far
abbrev pub invariant-loop : goal.invariant-loop
invariant-loop l = record {
  utf8 : IsUtf8 l.rest.rest.now;
  left : chars l.rest.rest.now ≡ drop l.counter (chars l.text);
}
