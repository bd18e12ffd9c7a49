use Rattle.std.proofs.Common.{◌≡◌, ◌++◌, List, ℕ, drop, map, string_bytes}
use Rattle.pm_span.specs.Files.{new_map, with_file}
use Rattle.outline.specs.Answer.{lines_of}
use Rattle.outline.specs.Outline.{entry_of_value}
use Rattle.outline.proofs.answer.all_lines.Given as goal

-- the lines so far, with those of the entries that are left, are all lines
abbrev pub invariant-loop-entry : goal.invariant-loop-entry
invariant-loop-entry l =
    (text : List ℕ) → l.map ≡ with_file new_map text
    → map string_bytes l.lines.items ++ lines_of l.form l.path text (map entry_of_value (drop l.entry-index l.entries))
    ≡ lines_of l.form l.path text (map entry_of_value l.entries)
