use Rattle.std.proofs.Common.{◌≡◌, ◌↔◌, ◌++◌, codes, length}
use Rattle.std.specs.Str.{chars, IsUtf8}
use denote.Shadow.{shadow}
use denote.Text.{Utf8}
use Rattle.pm_token.specs.Escaped.{content, string_text, written_char}
use Rattle.token_buffer.proofs.string.is_string_of.Given as goal

-- the literal is that of the text exactly if its rest is how the remaining characters are written
abbrev pub invariant-loop-c : goal.invariant-loop-c
invariant-loop-c l = record {
  same : (chars l.fn.literal ≡ string_text (chars l.fn.text))
      ↔ (chars l.left ≡ content 34 written_char (chars l.rest.rest.now) ++ codes "\"");
  left : shadow (Utf8 l.left);
  utf8 : IsUtf8 l.rest.rest.now;
}

abbrev pub decreases-loop-c : goal.decreases-loop-c
decreases-loop-c l = length (chars l.rest.rest.now)
