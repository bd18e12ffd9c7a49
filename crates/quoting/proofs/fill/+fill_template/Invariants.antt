use Rattle.std.proofs.Common.{◌+◌, ◌*◌, Ok, length}
use Rattle.proc_macro2.specs.Trees.{forest}
use Rattle.quoting.specs.Filled.{then_outcome, turns_from}
use Rattle.quoting.specs.Given.{gives, separator_of}
use Rattle.quoting.proofs.TurnLemmas.{TurnsOn, turn_of}
use Rattle.quoting.proofs.FillLemmas.{IsUpTo}
use Rattle.quoting.proofs.fill.+fill_template.Given as goal

abbrev pub decreases-fill_template : goal.decreases-fill_template
decreases-fill_template l = 3 * l.depth + 2

abbrev pub decreases-fill_onto : goal.decreases-fill_onto
decreases-fill_onto l = 3 * l.depth + 1

abbrev pub decreases-fill_turn : goal.decreases-fill_turn
decreases-fill_turn l = 3 * l.depth + 2

abbrev pub decreases-filled_inside : goal.decreases-filled_inside
decreases-filled_inside l = 3 * l.depth

abbrev pub decreases-repeat_onto : goal.decreases-repeat_onto
decreases-repeat_onto l = 3 * l.depth

abbrev pub invariant-fill_onto-loop-tree : goal.invariant-fill_onto-loop-tree
invariant-fill_onto-loop-tree l =
    IsUpTo (gives l.holes l.turns) l.depth l.fn.out (forest l.fn.template) l.out l.left

abbrev pub decreases-fill_onto-loop-tree : goal.decreases-fill_onto-loop-tree
decreases-fill_onto-loop-tree l = length l.left

abbrev pub invariant-repeat_onto-loop-turn : goal.invariant-repeat_onto-loop-turn
invariant-repeat_onto-loop-turn l =
    let given = turn_of l.holes l.turns l.inner (forest l.trees) in
    let between = separator_of l.repetition.separator in
    TurnsOn given between (then_outcome (Ok l.fn.out) (turns_from given between 0 l.count)) l.out l.turn l.count
