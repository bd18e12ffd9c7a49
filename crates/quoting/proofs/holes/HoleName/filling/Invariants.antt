use Rattle.std.proofs.Common.{◌≡◌, Some, drop}
use Rattle.quoting.specs.Given.{filling_by, in_turns, text_of}
use Rattle.quoting.specs.Holes.{filling_of}
use Rattle.quoting.proofs.ItemLemmas.{after}
use Rattle.quoting.proofs.holes.HoleName.filling.Given as goal

-- the filling in all turns is the current filling in the turns that are left
abbrev pub invariant-loop-turn : goal.invariant-loop-turn
invariant-loop-turn l =
    Some (after (drop l.turn-index l.turns) (filling_by l.filling))
    ≡ filling_of (in_turns l.holes l.turns) (text_of l.self)
