-- Grammars for which at most one step is possible at each sign, and grammars of which each part derives something.
use Rattle.std.specs.Prelude.{◌≡◌, Bool, true, false, List, [], ◌∷◌}
use Rattle.grammars.specs.Grammar.{Grammar, Nothing, Sign, To, Mark, Then, Either, Many, Listed, further}
use Rattle.grammars.specs.Grammar.{Event, Derives}
use Rattle.grammars.specs.Machine.{is_nullable}
use Rattle.grammars.specs.First.{may_begin, begins, starts}

-- whether no sign passes both tests
abbrev pub Apart : {C : Type 0} → (C → Bool) → (C → Bool) → Type 0
Apart {C = C} p q = (c : C) → p c ≡ true → q c ≡ true → ⊥

-- whether each sign that passes the first test passes the second
abbrev pub Within : {C : Type 0} → (C → Bool) → (C → Bool) → Type 0
Within {C = C} p q = (c : C) → p c ≡ true → q c ≡ true

-- whether one sign decides at each choice of the grammar: of two choices, at most one begins with the sign, and at most
-- one derives no sign. Every sign that may come after the grammar passes `follow`, and `follows` has such a test for
-- each rule
abbrev pub Deterministic : {C N L : Type 0} → (N → C → Bool) → Grammar C N L → (C → Bool) → Type 0
Deterministic follows Nothing follow = Unit {0}
Deterministic follows (Sign passes) follow = Unit {0}
Deterministic follows (To passes n) follow = Within follow (follows n)
Deterministic follows (Mark l) follow = Unit {0}
Deterministic follows (Then a b) follow = Deterministic follows a (begins b follow) × Deterministic follows b follow
Deterministic follows (Either a b) follow =
    Deterministic follows a follow × Deterministic follows b follow × Apart (begins a follow) (begins b follow)
    × (is_nullable a ≡ true → is_nullable b ≡ true → ⊥)
Deterministic follows (Many a) follow =
    Deterministic follows a (begins (Many a) follow) × (is_nullable a ≡ false) × Apart (may_begin a) follow
Deterministic follows (Listed a s) follow =
    Deterministic follows a (begins (further a s) follow) × Deterministic follows s (begins (Listed a s) follow)
    × (is_nullable a ≡ false) × (is_nullable s ≡ false) × Apart (may_begin a) follow × Apart (may_begin s) follow

-- whether one sign decides at each choice of a stack of grammars
abbrev pub AllDeterministic : {C N L : Type 0} → (N → C → Bool) → List (Grammar C N L) → Type 0
AllDeterministic follows [] = Unit {0}
AllDeterministic follows (g ∷ k) = Deterministic follows g (starts k) × AllDeterministic follows k

-- whether some sign passes the test
abbrev pub Passes : {C : Type 0} → (C → Bool) → Type 0
Passes {C = C} passes = (c : C) × (passes c ≡ true)

-- whether each part of the grammar derives something, if each rule does
abbrev pub Productive : {C N L : Type 0} → Grammar C N L → Type 0
Productive Nothing = Unit {0}
Productive (Sign passes) = Passes passes
Productive (To passes n) = Passes passes
Productive (Mark l) = Unit {0}
Productive (Then a b) = Productive a × Productive b
Productive (Either a b) = Productive a × Productive b
Productive (Many a) = Productive a
Productive (Listed a s) = Productive a × Productive s

-- whether each part of each of these grammars derives something, if each rule does
abbrev pub AllProductive : {C N L : Type 0} → List (Grammar C N L) → Type 0
AllProductive [] = Unit {0}
AllProductive (g ∷ k) = Productive g × AllProductive k

module _ {C N L : Type 0} (rules : N → Grammar C N L) (follows : N → C → Bool) where
  -- whether one sign decides at each choice of each rule, and each rule derives something
  pub record IsWellFormed : Type 0 where
    pub deterministic : (n : N) → Deterministic follows (rules n) (follows n)
    pub productive : (n : N) → Productive (rules n)
    pub samples : (n : N) → (events : List (Event C L)) × Derives rules (rules n) events

  -- whether a reading may begin with the stack: one sign decides at each choice, and each part derives something
  pub record IsStart (k : List (Grammar C N L)) : Type 0 where
    pub deterministic : AllDeterministic follows k
    pub productive : AllProductive k
