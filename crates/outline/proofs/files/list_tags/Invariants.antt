use Rattle.std.proofs.Common.{◌≡◌, ◌++◌, List, drop, map, max, string_bytes}
use Rattle.outline.specs.Files.{AreOf, Outcome, all_lines, worst}
use Rattle.outline.specs.declared.options.Form.TheVariants.{Ctags}
use Rattle.outline.proofs.files.list_tags.Given as goal

-- the lines so far, with those of the files that are left, are all lines. The worst status is found alike
abbrev pub invariant-loop-path : goal.invariant-loop-path
invariant-loop-path g l =
    (more : List Outcome) → AreOf Ctags (map string_bytes (drop l.path-index l.paths)) more
    → (all : List Outcome) × AreOf Ctags (map string_bytes l.paths) all
    × (map string_bytes l.tags.items ++ all_lines more ≡ all_lines all) × (max l.worst (worst more) ≡ worst all)
