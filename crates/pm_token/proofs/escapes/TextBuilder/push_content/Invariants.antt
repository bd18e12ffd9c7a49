use Rattle.std.proofs.Common.{◌≡◌, ◌++◌, length}
use Rattle.std.specs.Str.{chars, IsUtf8}
use Rattle.pm_token.specs.Escaped.{written_char, content}
use Rattle.pm_token.proofs.escapes.TextBuilder.push_content.Given as goal

-- the text so far and that of the remaining characters make up the result
abbrev pub invariant-loop-c : goal.invariant-loop-c
invariant-loop-c l = record {
  same : l.self ++ content l.quote written_char (chars l.rest.rest.now)
      ≡ l.fn.self ++ content l.quote written_char (chars l.fn.text);
  utf8 : IsUtf8 l.rest.rest.now;
}

abbrev pub decreases-loop-c : goal.decreases-loop-c
decreases-loop-c l = length (chars l.rest.rest.now)
