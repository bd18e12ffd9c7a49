use Rattle.std.proofs.Common.{◌≡◌, ◌++◌, ◌≤◌}
use Rattle.std.specs.Char.Iter.{escape_rest, escape_end}
use Rattle.pm_token.proofs.escapes.TextBuilder.push_unicode.Given as goal

-- the text so far and the rest of the escape make up the result
abbrev pub invariant-loop-unit : goal.invariant-loop-unit
invariant-loop-unit l = record {
  same : l.self ++ escape_rest l.unit-iterator ≡ l.initial.self ++ escape_rest l.initial.unit-iterator;
  bound : escape_end l.unit-iterator ≤ 10;
}
