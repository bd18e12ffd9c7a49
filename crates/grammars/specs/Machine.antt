-- The machine that reads signs by a grammar. Its state is a stack of grammars, which are still to be read.
use Rattle.std.specs.Prelude.{Bool, true, false, ◌&&◌, ◌||◌, List, [], ◌∷◌, ◌++◌, Option, Some, None}
use Rattle.std.specs.Prelude.{if◌then◌else◌}
use Rattle.grammars.specs.Grammar.{Grammar, Nothing, Sign, To, Mark, Then, Either, Many, Listed, Event, One, Marked}
use Rattle.grammars.specs.Grammar.{further}

-- whether the grammar derives the empty list of signs
abbrev pub is_nullable : {C N L : Type 0} → Grammar C N L → Bool
is_nullable Nothing = true
is_nullable (Sign passes) = false
is_nullable (To passes n) = false
is_nullable (Mark l) = true
is_nullable (Then a b) = is_nullable a && is_nullable b
is_nullable (Either a b) = is_nullable a || is_nullable b
is_nullable (Many a) = true
is_nullable (Listed a s) = true

-- the marks that the grammar derives without a sign, if it can
abbrev pub marks_of_nothing : {C N L : Type 0} → Grammar C N L → List (Event C L)
marks_of_nothing Nothing = []
marks_of_nothing (Sign passes) = []
marks_of_nothing (To passes n) = []
marks_of_nothing (Mark l) = Marked l ∷ []
marks_of_nothing (Then a b) = marks_of_nothing a ++ marks_of_nothing b
marks_of_nothing (Either a b) = if is_nullable a then marks_of_nothing a else marks_of_nothing b
marks_of_nothing (Many a) = []
marks_of_nothing (Listed a s) = []

-- the events of a step and the stack after it, if there is a step
abbrev pub Transition : Type 0 → Type 0 → Type 0 → Type 0
Transition C N L = Option (List (Event C L) × List (Grammar C N L))

-- the first value if there is one, and otherwise the second
abbrev pub or_else : {T : Type 0} → Option T → Option T → Option T
or_else None other = other
or_else (Some x) other = Some x

-- the step, with the given events put before its own
abbrev pub prepend_events : {C N L : Type 0} → List (Event C L) → Transition C N L → Transition C N L
prepend_events events None = None
prepend_events events (Some step) = Some (events ++ step.0, step.1)

-- the value if the test holds, and otherwise none
abbrev pub only : {T : Type 0} → Bool → Option T → Option T
only true x = x
only false x = None

-- the step into a grammar at a sign. `k` is to be read after the grammar
abbrev pub into : {C N L : Type 0} → (N → Grammar C N L) → Grammar C N L → List (Grammar C N L) → C → Transition C N L
into rules Nothing k c = None
into rules (Sign passes) k c = only (passes c) (Some (One c ∷ [], k))
into rules (To passes n) k c = only (passes c) (Some (One c ∷ [], rules n ∷ k))
into rules (Mark l) k c = None
into rules (Then a b) k c =
    or_else (into rules a (b ∷ k) c) (only (is_nullable a) (prepend_events (marks_of_nothing a) (into rules b k c)))
into rules (Either a b) k c = or_else (into rules a k c) (into rules b k c)
into rules (Many a) k c = into rules a (Many a ∷ k) c
into rules (Listed a s) k c = into rules a (further a s ∷ k) c

-- the step of the stack at a sign
abbrev pub step : {C N L : Type 0} → (N → Grammar C N L) → List (Grammar C N L) → C → Transition C N L
step rules [] c = None
step rules (g ∷ k) c = or_else (into rules g k c)
    (only (is_nullable g) (prepend_events (marks_of_nothing g) (step rules k c)))

-- whether the signs may end when this stack is left
abbrev pub ends : {C N L : Type 0} → List (Grammar C N L) → Bool
ends [] = true
ends (g ∷ k) = is_nullable g && ends k

-- the marks that are still to come if the signs end here
abbrev pub closing : {C N L : Type 0} → List (Grammar C N L) → List (Event C L)
closing [] = []
closing (g ∷ k) = marks_of_nothing g ++ closing k

-- the second events, if there are any, with the first ones put before them
abbrev pub ahead : {C L : Type 0} → List (Event C L) → Option (List (Event C L)) → Option (List (Event C L))
ahead events None = None
ahead events (Some more) = Some (events ++ more)

-- the events that are read from all the signs, or none if they cannot be read
abbrev pub run : {C N L : Type 0} → (N → Grammar C N L) → List (Grammar C N L) → List C → Option (List (Event C L))
run rules k [] = only (ends k) (Some (closing k))
run rules k (c ∷ signs) =
    elim (step rules k c) [ None ↦ None | Some taken ↦ ahead taken.0 (run rules taken.1 signs) ]

-- the events of some signs and the stack after them, if there is a step at each sign
abbrev pub walk : {C N L : Type 0} → (N → Grammar C N L) → List (Grammar C N L) → List C → Transition C N L
walk rules k [] = Some ([], k)
walk rules k (c ∷ signs) =
    elim (step rules k c) [ None ↦ None | Some taken ↦ prepend_events taken.0 (walk rules taken.1 signs) ]
