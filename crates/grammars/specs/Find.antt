-- What a grammar finds at the start of some signs.
use Rattle.std.specs.Prelude.{List, [], ◌∷◌, ◌++◌, Some, None, if◌then◌else◌}
use Rattle.grammars.specs.Grammar.{Grammar, Event}
use Rattle.grammars.specs.Machine.{step, ends, closing}

-- what is found at the start of some signs
pub data Found (C L : Type 0) : Type 0 where
  -- the events that were read, and the signs after them
  Past : List (Event C L) → List C → Found C L
  -- an error: the signs from there on
  Stuck : List C → Found C L

-- what is found, with the given events put before it
abbrev pub front : {C L : Type 0} → List (Event C L) → Found C L → Found C L
front events (Past more rest) = Past (events ++ more) rest
front events (Stuck left) = Stuck left

-- what is found, and then what `f` finds in the signs after it
abbrev pub and_then : {C L : Type 0} → Found C L → (List C → Found C L) → Found C L
and_then (Past events rest) f = front events (f rest)
and_then (Stuck left) f = Stuck left

-- what a stack of grammars finds. It takes a step at each sign as long as there is one. It is an error if the signs may
-- not end there
abbrev pub scan : {C N L : Type 0} → (N → Grammar C N L) → List (Grammar C N L) → List C → Found C L
scan rules k [] = if ends k then Past (closing k) [] else Stuck []
scan rules k (c ∷ signs) =
    elim (step rules k c) [
      | None ↦ if ends k then Past (closing k) (c ∷ signs) else Stuck (c ∷ signs)
      | Some taken ↦ front taken.0 (scan rules taken.1 signs)
    ]

-- what a grammar finds at the start of the signs
unfoldable pub find : {C N L : Type 0} → (N → Grammar C N L) → Grammar C N L → List C → Found C L
find rules g signs = scan rules (g ∷ []) signs
