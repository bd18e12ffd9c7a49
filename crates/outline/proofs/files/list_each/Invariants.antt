use Rattle.std.proofs.Common.{◌≡◌, ℕ, List, Option, drop, map, max, string_bytes}
use Rattle.std.specs.Io.KnownBytes.{Appends}
use Rattle.outline.specs.Files.{AreOf, Outcome, all_lines, worst}
use Rattle.outline.specs.Tags.{lines_text}
use Rattle.outline.proofs.files.list_each.Given as goal

-- what is written so far, with the lines of the files that are left, is all output. The worst status is found alike
abbrev pub invariant-loop-path : goal.invariant-loop-path
invariant-loop-path g l =
    let bytes = g.W.Write.contents in
    (more : List Outcome) (new : Option (List ℕ)) → AreOf l.form (map string_bytes (drop l.path-index l.paths)) more
    → Appends (bytes l.writer) new (lines_text (all_lines more))
    → (all : List Outcome) × AreOf l.form (map string_bytes l.paths) all
    × Appends (bytes l.initial.writer) new (lines_text (all_lines all)) × (max l.worst (worst more) ≡ worst all)
