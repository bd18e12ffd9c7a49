-- The trees of a list of events, read from its end.
use Rattle.std.specs.Prelude.{ℕ, List, [], ◌∷◌}
use Rattle.pm_token.specs.declared.delimiters.Delimiter.{Delimiter}
use Rattle.pm_stream.specs.Events.{Event, One, Opens, Closes}
use Rattle.pm_stream.specs.Forest.{Forest, nil, leaf, group}

-- the trees up to the first closer without an opener; and for each such closer, where it ends and the trees after
-- it
abbrev pub Levels : Type 0
Levels = Forest × List (ℕ × Forest)

-- the trees and levels with an opener before them
abbrev pub with_opener : Delimiter → ℕ → Levels → Levels
with_opener d lo (inside, []) = (nil, [])
with_opener d lo (inside, (end ∷ outer)) = (group d lo end.0 inside end.1, outer)

abbrev pub levels : List Event → Levels
levels [] = (nil, [])
levels (One token lo hi ∷ events) = let after = levels events in (leaf token lo hi after.0, after.1)
levels (Opens d lo ∷ events) = with_opener d lo (levels events)
levels (Closes d hi ∷ events) = let after = levels events in (nil, ((hi, after.0) ∷ after.1))

-- the trees of the events
abbrev pub trees_of_events : List Event → Forest
trees_of_events events = (levels events).0
