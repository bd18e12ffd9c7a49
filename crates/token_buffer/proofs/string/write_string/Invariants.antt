use Rattle.std.proofs.Common.{◌≡◌, ℕ, List, ◌++◌, codes, length}
use Rattle.std.specs.Fmt.{HasWritten, IsPlainFormatter}
use Rattle.std.specs.Str.{chars, encode_utf8_all, IsUtf8}
use Rattle.pm_token.specs.Escaped.{content, string_text, written_char}
use Rattle.token_buffer.proofs.string.write_string.Given as goal

-- the text so far and that of the remaining characters make up the result
abbrev pub invariant-loop-c : goal.invariant-loop-c
invariant-loop-c g l = record {
  written :
      IsPlainFormatter l.fn.f
      → (done : List ℕ)
      × HasWritten g.W.Write.write_str_gives l.fn.f (encode_utf8_all done) l.f
      × (done ++ (content 34 written_char (chars l.rest.rest.now) ++ codes "\"") ≡ string_text (chars l.fn.text));
  utf8 : IsUtf8 l.rest.rest.now;
}

abbrev pub decreases-loop-c : goal.decreases-loop-c
decreases-loop-c g l = length (chars l.rest.rest.now)
