use Rattle.std.proofs.Common.{length}
use Rattle.declarations.specs.Explore.{Sees}
use Rattle.declarations.specs.ExplorePath.{path_at}
use Rattle.declarations.specs.declared.explore.Seen.{Seen}
use Rattle.declarations.proofs.explore_path.see_rest.Given as goal

-- what is seen from here on is seen from the start
abbrev pub invariant-loop-next : goal.invariant-loop-next
invariant-loop-next l =
    (seen : Seen) → Sees (path_at l.at) l.left seen → Sees (path_at l.fn.place) l.trees seen

abbrev pub decreases-loop-next : goal.decreases-loop-next
decreases-loop-next l = length l.left
