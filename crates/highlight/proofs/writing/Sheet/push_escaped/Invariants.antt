use Rattle.std.proofs.Common.{◌≡◌, ◌++◌, length, string_bytes}
use Rattle.std.specs.Str.Iter.{chars_rest}
use Rattle.highlight.specs.Page.{escape_text, line_after}
use Rattle.highlight.proofs.writing.Sheet.push_escaped.Given as goal

-- what is written so far, and the rest escaped, make the whole escaped text
abbrev pub invariant-loop-c : goal.invariant-loop-c
invariant-loop-c l = record {
  shown : string_bytes l.self.out ++ escape_text l.self.line (chars_rest l.rest)
      ≡ string_bytes l.fn.self.out ++ escape_text l.fn.self.line l.text;
  line : line_after l.self.line (chars_rest l.rest) ≡ line_after l.fn.self.line l.text;
  kept : l.self.format ≡ l.fn.self.format;
}

abbrev pub decreases-loop-c : goal.decreases-loop-c
decreases-loop-c l = length (chars_rest l.rest)
