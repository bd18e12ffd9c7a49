-- Laws for all grammars over some signs, names of rules and labels of parts.
use Rattle.std.specs.Prelude.{◌≡◌, ◌↔◌, Bool, true, List, [], ◌∷◌, ◌++◌, Some, None}
use Rattle.grammars.specs.Grammar.{Grammar, Event, Derives, Listed, Reads, signs_of}
use Rattle.grammars.specs.Machine.{run}
use Rattle.grammars.specs.Deterministic.{Deterministic, AllDeterministic, Productive, IsWellFormed, IsStart}
use Rattle.grammars.specs.Find.{Past, Stuck, scan}
use Rattle.grammars.specs.Lists.{list_grammar}
use Rattle.grammars.specs.Next.{may_end, may_follow}
use Rattle.grammars.specs.Reading.{FaultAt, GoesOn, IsReading}
use Rattle.grammars.specs.Tests.{IsEvery, IsAny, is_deterministic, is_productive}

module _ (C N L : Type 0) where
  -- ---- the machine

  -- if the machine reads events, the grammars derive them, and their signs are the signs that were read
  abbrev pub RunIsSound : Type 0
  RunIsSound = (rules : N → Grammar C N L) (k : List (Grammar C N L)) (signs : List C) (events : List (Event C L))
      → run rules k signs ≡ Some events → Reads rules k events × (signs_of events ≡ signs)

  -- the machine reads everything that deterministic grammars derive
  abbrev pub RunIsComplete : Type 0
  RunIsComplete = (rules : N → Grammar C N L) (follows : N → C → Bool)
      → ((n : N) → Deterministic follows (rules n) (follows n))
      → (k : List (Grammar C N L)) (events : List (Event C L)) → AllDeterministic follows k → Reads rules k events
      → run rules k (signs_of events) ≡ Some events

  -- ---- one reading or one error

  -- the machine reads events from signs exactly if they are the only reading of the signs
  abbrev pub OneReading : Type 0
  OneReading = (rules : N → Grammar C N L) (follows : N → C → Bool) → IsWellFormed rules follows
      → (k : List (Grammar C N L)) → IsStart rules follows k → (signs : List C) (events : List (Event C L))
      → run rules k signs ≡ Some events ↔ IsReading rules k signs events

  -- if the machine cannot read the signs, they have an error
  abbrev pub ReadsOrFails : Type 0
  ReadsOrFails = (rules : N → Grammar C N L) (follows : N → C → Bool) → IsWellFormed rules follows
      → (k : List (Grammar C N L)) → IsStart rules follows k → (signs : List C) → run rules k signs ≡ None
      → (front left : List C) × FaultAt rules k signs front left

  -- signs have at most one error, for any grammars
  abbrev pub OneFault : Type 0
  OneFault = (rules : N → Grammar C N L) (k : List (Grammar C N L)) (signs front left other rest : List C)
      → FaultAt rules k signs front left → FaultAt rules k signs other rest → (front ≡ other) × (left ≡ rest)

  -- ---- readers that stop at the first sign with no step

  -- if all signs are read, what is found is their only reading
  abbrev pub FoundIsReading : Type 0
  FoundIsReading = (rules : N → Grammar C N L) (follows : N → C → Bool) → IsWellFormed rules follows
      → (k : List (Grammar C N L)) → IsStart rules follows k → (signs : List C) (events : List (Event C L))
      → scan rules k signs ≡ Past events []
      → IsReading rules k signs events

  -- if signs are left over, the error is before them
  abbrev pub LeftIsFault : Type 0
  LeftIsFault = (rules : N → Grammar C N L) (follows : N → C → Bool) → IsWellFormed rules follows
      → (k : List (Grammar C N L)) → IsStart rules follows k → (signs left : List C) (events : List (Event C L))
      → scan rules k signs ≡ Past events left → (left ≡ [] → ⊥)
      → (front : List C) × FaultAt rules k signs front left

  -- if an error is found, it is before the signs from there on
  abbrev pub StuckIsFault : Type 0
  StuckIsFault = (rules : N → Grammar C N L) (follows : N → C → Bool) → IsWellFormed rules follows
      → (k : List (Grammar C N L)) → IsStart rules follows k → (signs left : List C)
      → scan rules k signs ≡ Stuck left
      → (front : List C) × FaultAt rules k signs front left

  -- ---- what can come next

  -- a sign is in the first set of what is left to read after `front` exactly if `front` can go on with it
  abbrev pub NextGoesOn : Type 0
  NextGoesOn = (rules : N → Grammar C N L) (follows : N → C → Bool) → IsWellFormed rules follows
      → (k : List (Grammar C N L)) → IsStart rules follows k → (front : List C) (c : C)
      → may_follow rules k front c ≡ true ↔ GoesOn rules k (front ++ c ∷ [])

  -- nothing need be read after `front` exactly if `front` has a reading
  abbrev pub EndIsReading : Type 0
  EndIsReading = (rules : N → Grammar C N L) (follows : N → C → Bool) → IsWellFormed rules follows
      → (k : List (Grammar C N L)) → IsStart rules follows k → (front : List C)
      → may_end rules k front ≡ true ↔ ((events : List (Event C L)) × IsReading rules k front events)

  -- ---- tests and lists

  -- a grammar that passes the test is deterministic
  abbrev pub TestIsDeterministic : Type 0
  TestIsDeterministic = (every : (C → Bool) → Bool) → IsEvery every
      → (follows : N → C → Bool) (g : Grammar C N L) (follow : C → Bool)
      → is_deterministic every follows g follow ≡ true
      → Deterministic follows g follow

  -- a grammar that passes the test is productive
  abbrev pub TestIsProductive : Type 0
  TestIsProductive = (any : (C → Bool) → Bool) → IsAny any → (g : Grammar C N L) → is_productive any g ≡ true
      → Productive g

  -- `Listed a s` derives the same events as `( a ( s a )* s? )?`
  abbrev pub ListIsWritten : Type 0
  ListIsWritten = (rules : N → Grammar C N L) (a s : Grammar C N L) (events : List (Event C L))
      → Derives rules (Listed a s) events ↔ Derives rules (list_grammar a s) events
