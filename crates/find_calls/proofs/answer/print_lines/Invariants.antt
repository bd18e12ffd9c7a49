use Rattle.std.proofs.Common.{ℕ, List, Option, drop}
use Rattle.std.specs.Io.KnownBytes.{Appends}
use Rattle.std.specs.List.{AllByRecursion as Each}
use Rattle.pm_span.specs.Files.{Holds}
use Rattle.find_calls.specs.Answer.{StartsIn, lines}
use Rattle.find_calls.proofs.answer.print_lines.Given as goal

-- the map holds the spans that are left, and who writes their lines has written all lines
abbrev pub invariant-loop-span : goal.invariant-loop-span
invariant-loop-span g l =
    let bytes = g.W.Write.contents in
    Each (Holds l.map) (drop l.span-index l.spans)
    × ((text : List ℕ) → Each (StartsIn l.map text) l.spans
    → Each (StartsIn l.map text) (drop l.span-index l.spans)
    × ((new : Option (List ℕ)) → Appends (bytes l.to) new (lines l.path text (drop l.span-index l.spans))
    → Appends (bytes l.initial.to) new (lines l.path text l.spans)))
