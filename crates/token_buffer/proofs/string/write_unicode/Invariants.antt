use Rattle.std.proofs.Common.{◌≡◌, ◌≤◌, ℕ, List, ◌++◌}
use Rattle.std.specs.Char.Iter.{escape_rest, escape_end}
use Rattle.std.specs.Fmt.{HasWritten, IsPlainFormatter}
use Rattle.std.specs.Str.{encode_utf8_all}
use Rattle.token_buffer.proofs.string.write_unicode.Given as goal

-- the text so far and the rest of the escape make up the result
abbrev pub invariant-loop-unit : goal.invariant-loop-unit
invariant-loop-unit g l = record {
  written :
      IsPlainFormatter l.fn.f
      → (done : List ℕ)
      × HasWritten g.W.Write.write_str_gives l.fn.f (encode_utf8_all done) l.f
      × (done ++ escape_rest l.unit-iterator ≡ escape_rest l.initial.unit-iterator);
  bound : escape_end l.unit-iterator ≤ 10;
}
