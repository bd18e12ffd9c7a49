-- Readings of signs, and where an error is.
use Rattle.std.specs.Prelude.{◌≡◌, List, [], ◌∷◌, ◌++◌}
use Rattle.grammars.specs.Grammar.{Grammar, Event, signs_of, Reads}

module _ {C N L : Type 0} (rules : N → Grammar C N L) (k : List (Grammar C N L)) where
  -- whether some signs can follow `front` so that all of them can be read
  abbrev pub GoesOn : List C → Type 0
  GoesOn front =
      (events : List (Event C L)) × (more : List C) × Reads rules k events × (signs_of events ≡ front ++ more)

  -- whether the signs cannot be read, and the error is after `front`: the longest prefix that can go on to a reading
  pub record FaultAt (signs front left : List C) : Type 0 where
    pub whole : signs ≡ front ++ left
    pub goes_on : GoesOn front
    pub longest : (c : C) (more : List C) → left ≡ c ∷ more → GoesOn (front ++ c ∷ []) → ⊥
    pub nothing : (events : List (Event C L)) → Reads rules k events → signs_of events ≡ signs → ⊥

  -- whether the events are the only reading of the signs, and contain all of them
  pub record IsReading (signs : List C) (events : List (Event C L)) : Type 0 where
    pub reads : Reads rules k events
    pub whole : signs_of events ≡ signs
    pub only : (other : List (Event C L)) → Reads rules k other → signs_of other ≡ signs → other ≡ events

  -- whether the piece has exactly one reading, and cannot go on with the first of the signs after it
  pub record IsPiece (piece rest : List C) : Type 0 where
    pub events : List (Event C L)
    pub reading : IsReading piece events
    pub longest : (c : C) (more : List C) → rest ≡ c ∷ more → GoesOn (piece ++ c ∷ []) → ⊥
