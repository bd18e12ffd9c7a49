use Rattle.std.proofs.Common.{◌≡◌, ℕ, List, map, string_bytes}
use Rattle.pm_span.specs.Files.{new_map, with_file}
use Rattle.outline.specs.Levels.{level_left, trees_left}
use Rattle.outline.proofs.LevelLemmas.{CompletesLines}
use Rattle.outline.proofs.OnlyLemmas.{Requires}
use Rattle.outline.proofs.OutlineLemmas.{stack}
use Rattle.outline.proofs.levels.lines_in.Given as goal

-- the lines so far and those of the open levels are all lines. An outline of the file gives outlines of these levels
abbrev pub invariant-walk : goal.invariant-walk
invariant-walk l = record {
  all : (text : List ℕ) → l.map ≡ with_file new_map text → CompletesLines l.form l.path text (trees_left l.file)
      (map string_bytes l.lines.items) (stack level_left l.levels.items);
  only : Requires (trees_left l.file) (stack level_left l.levels.items);
}
