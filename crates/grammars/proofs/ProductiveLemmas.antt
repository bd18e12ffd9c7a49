-- From each stack that the machine reaches, some signs lead to an end.
use Rattle.std.proofs.Common.{refl, Bool, true, false, List, [], ◌∷◌}
use Rattle.std.proofs.Common.{◌++◌, Some, None, IfSome}
use Rattle.grammars.specs.Grammar.{Grammar, Nothing, Sign, To, Mark, Then, Either, Many, Listed, Event, One, Marked}
use Rattle.grammars.specs.Grammar.{Derives, nothing, sign, to, mark, both, first, none, empty}
use Rattle.grammars.specs.Grammar.{further, Reads}
use Rattle.grammars.specs.Machine.{is_nullable, marks_of_nothing, Transition, prepend_events, only, into, step}
use Rattle.grammars.specs.Deterministic.{Productive, AllProductive}
use Rattle.grammars.proofs.SoundLemmas.{or_holds}

module _ {C N L : Type 0} (rules : N → Grammar C N L) where
  only_alive : (b : Bool) (x : Transition C N L) → IfSome x (λ t. AllProductive t.1)
      → IfSome (only b x) (λ t. AllProductive t.1)
  only_alive true x h = h
  only_alive false x h = tt

  prepend_events_alive : (pre : List (Event C L)) (x : Transition C N L) → IfSome x (λ t. AllProductive t.1)
      → IfSome (prepend_events pre x) (λ t. AllProductive t.1)
  prepend_events_alive pre None h = tt
  prepend_events_alive pre (Some x) h = h

  module _ (rules_alive : (n : N) → Productive (rules n)) where
    pub into_alive : (g : Grammar C N L) (k : List (Grammar C N L)) (c : C) → Productive g → AllProductive k
        → IfSome (into rules g k c) (λ t. AllProductive t.1)
    into_alive Nothing k c h l = tt
    into_alive (Sign passes) k c h l = only_alive (passes c) _ l
    into_alive (To passes n) k c h l = only_alive (passes c) _ (rules_alive n, l)
    into_alive (Mark m) k c h l = tt
    into_alive (Then a b) k c h l =
        or_holds (λ t. AllProductive t.1) (into rules a (b ∷ k) c) _ (into_alive a (b ∷ k) c h.0 (h.1, l))
        (only_alive (is_nullable a) _ (prepend_events_alive (marks_of_nothing a) _ (into_alive b k c h.1 l)))
    into_alive (Either a b) k c h l =
        or_holds (λ t. AllProductive t.1) (into rules a k c) _ (into_alive a k c h.0 l) (into_alive b k c h.1 l)
    into_alive (Many a) k c h l = into_alive a (Many a ∷ k) c h (h, l)
    into_alive (Listed a s) k c h l = into_alive a (further a s ∷ k) c h.0 (((h.1, h), tt), l)

    pub step_alive : (k : List (Grammar C N L)) (c : C) → AllProductive k
        → IfSome (step rules k c) (λ t. AllProductive t.1)
    step_alive [] c l = tt
    step_alive (g ∷ k) c l =
        or_holds (λ t. AllProductive t.1) (into rules g k c) _ (into_alive g k c l.0 l.1)
        (only_alive (is_nullable g) _ (prepend_events_alive (marks_of_nothing g) _ (step_alive k c l.1)))

  module _ (samples : (n : N) → (events : List (Event C L)) × Derives rules (rules n) events) where
    pub sample : (g : Grammar C N L) → Productive g → (events : List (Event C L)) × Derives rules g events
    sample Nothing h = ([], nothing)
    sample (Sign passes) h = (One h.0 ∷ [], sign h.0 h.1)
    sample (To passes n) h = let s = samples n in (One h.0 ∷ s.0, to h.0 h.1 s.1)
    sample (Mark l) h = (Marked l ∷ [], mark l)
    sample (Then a b) h = let x = sample a h.0 in let y = sample b h.1 in (x.0 ++ y.0, both x.1 y.1)
    sample (Either a b) h = let x = sample a h.0 in (x.0, first x.1)
    sample (Many a) h = ([], none)
    sample (Listed a s) h = ([], empty)

    pub samples_all : (k : List (Grammar C N L)) → AllProductive k → (events : List (Event C L)) × Reads rules k events
    samples_all [] h = ([], refl)
    samples_all (g ∷ k) h =
        let x = sample g h.0 in let y = samples_all k h.1 in (x.0 ++ y.0, (x.0, y.0, refl, x.1, y.1))
