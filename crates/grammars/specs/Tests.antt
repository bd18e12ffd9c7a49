-- Tests of grammars that can be computed, if a test of signs can be tried on every sign.
use Rattle.std.specs.Prelude.{◌≡◌, Bool, true, ◌&&◌, ◌||◌, not}
use Rattle.grammars.specs.Grammar.{Grammar, Nothing, Sign, To, Mark, Then, Either, Many, Listed, further}
use Rattle.grammars.specs.Machine.{is_nullable}
use Rattle.grammars.specs.First.{may_begin, begins}
use Rattle.grammars.specs.Deterministic.{Passes}

-- whether every sign passes a test for which `every` returns true
abbrev pub IsEvery : {C : Type 0} → ((C → Bool) → Bool) → Type 0
IsEvery {C = C} every = (p : C → Bool) → every p ≡ true → (c : C) → p c ≡ true

-- whether some sign passes a test for which `any` returns true
abbrev pub IsAny : {C : Type 0} → ((C → Bool) → Bool) → Type 0
IsAny {C = C} any = (p : C → Bool) → any p ≡ true → Passes p

-- whether no sign passes both tests
abbrev pub apart : {C : Type 0} → ((C → Bool) → Bool) → (C → Bool) → (C → Bool) → Bool
apart every p q = every (λ c. not (p c && q c))

-- whether each sign that passes the first test passes the second
abbrev pub within : {C : Type 0} → ((C → Bool) → Bool) → (C → Bool) → (C → Bool) → Bool
within every p q = every (λ c. not (p c) || q c)

-- whether one sign decides at each choice of the grammar, as `Deterministic` says
abbrev pub is_deterministic : {C N L : Type 0} → ((C → Bool) → Bool) → (N → C → Bool) → Grammar C N L → (C → Bool)
    → Bool
is_deterministic every follows Nothing follow = true
is_deterministic every follows (Sign passes) follow = true
is_deterministic every follows (To passes n) follow = within every follow (follows n)
is_deterministic every follows (Mark l) follow = true
is_deterministic every follows (Then a b) follow =
    is_deterministic every follows a (begins b follow) && is_deterministic every follows b follow
is_deterministic every follows (Either a b) follow =
    is_deterministic every follows a follow
    && (is_deterministic every follows b follow
    && (apart every (begins a follow) (begins b follow) && not (is_nullable a && is_nullable b)))
is_deterministic every follows (Many a) follow =
    is_deterministic every follows a (begins (Many a) follow)
    && (not (is_nullable a) && apart every (may_begin a) follow)
is_deterministic every follows (Listed a s) follow =
    is_deterministic every follows a (begins (further a s) follow)
    && (is_deterministic every follows s (begins (Listed a s) follow)
    && ((not (is_nullable a) && not (is_nullable s))
    && (apart every (may_begin a) follow && apart every (may_begin s) follow)))

-- whether each part of the grammar derives something, as `Productive` says
abbrev pub is_productive : {C N L : Type 0} → ((C → Bool) → Bool) → Grammar C N L → Bool
is_productive any Nothing = true
is_productive any (Sign passes) = any passes
is_productive any (To passes n) = any passes
is_productive any (Mark l) = true
is_productive any (Then a b) = is_productive any a && is_productive any b
is_productive any (Either a b) = is_productive any a && is_productive any b
is_productive any (Many a) = is_productive any a
is_productive any (Listed a s) = is_productive any a && is_productive any s
