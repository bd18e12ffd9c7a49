use Rattle.std.proofs.Common.{List, Option, ℕ, drop, map, string_bytes}
use Rattle.std.specs.Io.KnownBytes.{Appends}
use Rattle.outline.specs.Tags.{lines_text}
use Rattle.outline.proofs.tags.print_all.Given as goal

-- if the lines that are left are written next, then all lines are written
abbrev pub invariant-loop-line : goal.invariant-loop-line
invariant-loop-line g l =
    let bytes = g.W.Write.contents in
    (new : Option (List ℕ)) → Appends (bytes l.writer) new (lines_text (map string_bytes (drop l.line-index l.lines)))
    → Appends (bytes l.initial.writer) new (lines_text (map string_bytes l.lines))
