use Rattle.std.proofs.Common.{[], ◌+◌, ◌*◌, ◌-◌, take, length}
use Rattle.proc_macro2.specs.Forest.{nil}
use Rattle.proc_macro2.specs.Trees.{forest}
use Rattle.quoting.specs.Given.{gives}
use Rattle.quoting.proofs.InPlaceLemmas.{IsAt}
use Rattle.quoting.proofs.owned.+filled_in_place.Given as goal

abbrev pub decreases-filled_in_place : goal.decreases-filled_in_place
decreases-filled_in_place l = 5 * l.depth + 4

abbrev pub decreases-fill_rest : goal.decreases-fill_rest
decreases-fill_rest l = 5 * l.depth + 3

abbrev pub decreases-settle : goal.decreases-settle
decreases-settle l = 5 * l.depth + 2

abbrev pub decreases-change : goal.decreases-change
decreases-change l = 5 * l.depth + 1

abbrev pub decreases-fill_group : goal.decreases-fill_group
decreases-fill_group l = 5 * l.depth

abbrev pub invariant-filled_in_place-loop-tree : goal.invariant-filled_in_place-loop-tree
invariant-filled_in_place-loop-tree l =
    IsAt (gives l.holes []) l.depth nil l.fn.template (forest (take l.done l.list.items)) l.done l.list.items

abbrev pub decreases-filled_in_place-loop-tree : goal.decreases-filled_in_place-loop-tree
decreases-filled_in_place-loop-tree l = length l.list.items - l.done

abbrev pub invariant-fill_rest-loop-tree : goal.invariant-fill_rest-loop-tree
invariant-fill_rest-loop-tree l =
    IsAt (gives l.holes []) l.depth l.fn.out (forest l.fn.rest.items) l.out l.done l.list.items

abbrev pub decreases-fill_rest-loop-tree : goal.decreases-fill_rest-loop-tree
decreases-fill_rest-loop-tree l = length l.list.items - l.done
