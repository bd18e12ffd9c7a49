use Rattle.std.proofs.Common.{◌≡◌, drop}
use Rattle.outline.specs.Levels.{trees_left}
use Rattle.outline.proofs.levels.past.Given as goal

abbrev pub invariant-loop : goal.invariant-loop
invariant-loop l = trees_left l.here ≡ drop l.counter (trees_left l.cursor)
