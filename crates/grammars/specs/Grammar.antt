-- Grammars over signs as data, and what they derive.
use Rattle.std.specs.Prelude.{◌≡◌, Bool, true, List, [], ◌∷◌, ◌++◌}

-- a grammar over the signs C, whose rules have the names N, and which marks parts by the labels L
pub data Grammar (C N L : Type 0) : Type 0 where
  -- no sign
  Nothing : Grammar C N L
  -- one sign that passes a test
  Sign : (C → Bool) → Grammar C N L
  -- one sign that passes a test, and then the rule with this name. No other constructor refers to a rule
  To : (C → Bool) → N → Grammar C N L
  -- no sign, but a mark among the events: a part begins or ends here, or is of this kind
  Mark : L → Grammar C N L
  -- the first grammar, and then the second
  Then : Grammar C N L → Grammar C N L → Grammar C N L
  -- one of the two grammars
  Either : Grammar C N L → Grammar C N L → Grammar C N L
  -- the grammar any number of times
  Many : Grammar C N L → Grammar C N L
  -- the first grammar any number of times, with the second between two of them and possibly after the last
  Listed : Grammar C N L → Grammar C N L → Grammar C N L

-- a part of a reading: a sign, or a mark between signs
pub data Event (C L : Type 0) : Type 0 where
  -- a sign
  One : C → Event C L
  -- a mark
  Marked : L → Event C L

-- the grammar, or no sign
abbrev pub perhaps : {C N L : Type 0} → Grammar C N L → Grammar C N L
perhaps a = Either a Nothing

-- what may follow an element of a list: nothing, or a separator and the rest of the list
abbrev pub further : {C N L : Type 0} → Grammar C N L → Grammar C N L → Grammar C N L
further a s = perhaps (Then s (Listed a s))

-- the signs among the events
abbrev pub signs_of : {C L : Type 0} → List (Event C L) → List C
signs_of [] = []
signs_of (One c ∷ events) = c ∷ signs_of events
signs_of (Marked l ∷ events) = signs_of events

-- the events that a grammar derives. `rules` gives the grammar of each name
pub data Derives {C N L : Type 0} (rules : N → Grammar C N L) : Grammar C N L → List (Event C L) → Type 0 where
  nothing : Derives rules Nothing []
  sign : {passes : C → Bool} (c : C) → passes c ≡ true → Derives rules (Sign passes) (One c ∷ [])
  to : {passes : C → Bool} {n : N} (c : C) {events : List (Event C L)} → passes c ≡ true
      → Derives rules (rules n) events
      → Derives rules (To passes n) (One c ∷ events)
  mark : (l : L) → Derives rules (Mark l) (Marked l ∷ [])
  both : {a b : Grammar C N L} {front back : List (Event C L)} → Derives rules a front → Derives rules b back
      → Derives rules (Then a b) (front ++ back)
  first : {a b : Grammar C N L} {events : List (Event C L)} → Derives rules a events
      → Derives rules (Either a b) events
  second : {a b : Grammar C N L} {events : List (Event C L)} → Derives rules b events
      → Derives rules (Either a b) events
  none : {a : Grammar C N L} → Derives rules (Many a) []
  more : {a : Grammar C N L} {front back : List (Event C L)} → Derives rules a front → Derives rules (Many a) back
      → Derives rules (Many a) (front ++ back)
  empty : {a s : Grammar C N L} → Derives rules (Listed a s) []
  last : {a s : Grammar C N L} {events : List (Event C L)} → Derives rules a events → Derives rules (Listed a s) events
  element : {a s : Grammar C N L} {front mid back : List (Event C L)} → Derives rules a front → Derives rules s mid
      → Derives rules (Listed a s) back
      → Derives rules (Listed a s) (front ++ (mid ++ back))

-- whether a stack of grammars derives the events, one grammar after another
abbrev pub Reads : {C N L : Type 0} → (N → Grammar C N L) → List (Grammar C N L) → List (Event C L) → Type 0
Reads rules [] events = events ≡ []
Reads {C = C} {L = L} rules (g ∷ k) events =
    (front back : List (Event C L)) × (events ≡ front ++ back) × Derives rules g front × Reads rules k back
