use Rattle.std.proofs.Common.{map}
use Rattle.outline.specs.Outline.{entry_of_value}
use Rattle.outline.proofs.OnlyLemmas.{Requires}
use Rattle.outline.proofs.OutlineLemmas.{Completes, items_left, stack}
use Rattle.outline.proofs.entries.entries.Given as goal

-- the declarations so far and those of the open levels are all. An outline of the file gives outlines of these levels
abbrev pub invariant-walk : goal.invariant-walk
invariant-walk l = record {
  all : Completes l.trees (map entry_of_value l.entries.items) (stack items_left l.levels.items);
  only : Requires l.trees (stack items_left l.levels.items);
}
