use Rattle.std.proofs.Common.{◌≡◌, ◌↔◌, ◌≤◌, ℕ, List, ◌++◌}
use Rattle.std.specs.Char.Iter.{escape_rest, escape_end}
use Rattle.std.specs.Str.{chars}
use denote.Shadow.{shadow}
use denote.Text.{Utf8}
use Rattle.token_buffer.proofs.string.after_unicode.Given as goal

-- the text begins with the escape exactly if its rest begins with the rest of the escape
abbrev pub invariant-loop-unit : goal.invariant-loop-unit
invariant-loop-unit l = record {
  same : (more : List ℕ)
      → (chars l.fn.text ≡ escape_rest l.initial.unit-iterator ++ more)
      ↔ (chars l.rest ≡ escape_rest l.unit-iterator ++ more);
  bound : escape_end l.unit-iterator ≤ 10;
  utf8 : shadow (Utf8 l.rest);
}
