use Rattle.std.proofs.Common.{drop}
use Rattle.quoting.specs.Visited.{join_visited}
use Rattle.quoting.proofs.JoinLemmas.{IsJoining}
use Rattle.quoting.proofs.join.join_marks.Given as goal

abbrev pub invariant-loop-visit : goal.invariant-loop-visit
invariant-loop-visit l =
    IsJoining (join_visited 0 0 l.fn.stream l.fn.visits) l.here l.outer.items (drop l.visit-index l.visits)
