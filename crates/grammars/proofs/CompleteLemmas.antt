-- The machine reads everything that a deterministic grammar derives.
use Rattle.std.proofs.Common.{◌≡◌, refl, ◌∙◌, ap, subst, Bool, false, List, [], ◌∷◌}
use Rattle.std.proofs.Common.{◌++◌, inl, inr, Some, append_assoc}
use Rattle.std.proofs.lemmas.Bool.{both_ways, and_parts, or_cases, or_right}
use Rattle.grammars.specs.Grammar.{Grammar, Nothing, Sign, To, Mark, Then, Either, Many, Listed, Event, One, Marked}
use Rattle.grammars.specs.Grammar.{Derives, nothing, sign, to, mark, both, first, second, none, more, empty, last}
use Rattle.grammars.specs.Grammar.{element, further, signs_of, Reads}
use Rattle.grammars.specs.Machine.{is_nullable, marks_of_nothing, ahead, run}
use Rattle.grammars.specs.First.{may_begin, starts}
use Rattle.grammars.specs.Deterministic.{Apart, Deterministic, AllDeterministic}
use Rattle.grammars.proofs.SoundLemmas.{signs_append}
use Rattle.grammars.proofs.StepLemmas.{clear_less, Extends, run_step, runs, skip_extends, both_extends, first_extends}
use Rattle.grammars.proofs.StepLemmas.{second_extends, enter_extends, further_into}

module _ {C N L : Type 0} (rules : N → Grammar C N L) where
  -- ---- what is derived is read

  module _ (follows : N → C → Bool) (rules_clear : (n : N) → Deterministic follows (rules n) (follows n)) where
    abbrev pub IsRead : Grammar C N L → List (Event C L) → Type 0
    IsRead g front =
        (k : List (Grammar C N L)) (signs : List C) (back : List (Event C L)) → Deterministic follows g (starts k)
        → run rules k signs ≡ Some back
        → run rules (g ∷ k) (signs_of front ++ signs) ≡ Some (front ++ back)

    further_skips : (a s : Grammar C N L) (k : List (Grammar C N L)) → is_nullable s ≡ false
        → Apart (may_begin s) (starts k)
        → Extends rules [] k (further a s ∷ k)
    further_skips a s k h away =
        subst (λ x. Extends rules x k (further a s ∷ k)) nothing_skipped
        (skip_extends rules (further a s) k (or_right _ _ refl) begins)
      where
        nothing_skipped : marks_of_nothing (further a s) ≡ []
        nothing_skipped = rw h refl

        begins : Apart (may_begin (further a s)) (starts k)
        begins c x y = away c (elim (or_cases _ _ x) [
          | inl z ↦ elim (or_cases _ _ z) [
            | inl w ↦ w
            | inr w ↦ absurd
                (both_ways _ h (and_parts (is_nullable s) (may_begin (Listed a s) c) w).0)
          ]
          | inr z ↦ absurd (both_ways false refl z)
        ]) y

    pub complete : (g : Grammar C N L) (front : List (Event C L)) → Derives rules g front → IsRead g front
    complete _ _ nothing k signs back clear e =
        runs rules [] k (Nothing ∷ k) (skip_extends rules Nothing k refl (λ c x y. both_ways _ refl x)) signs back e
    complete _ _ (sign {passes = passes} c h) k signs back clear e =
        run_step rules (Sign passes ∷ k) c signs (One c ∷ [], k) (rw h refl) ∙ ap (ahead (One c ∷ [])) e
    complete _ _ (to {passes = passes} {n = n} c {events = events} h d) k signs back clear e =
        run_step rules (To passes n ∷ k) c (signs_of events ++ signs) (One c ∷ [], rules n ∷ k) (rw h refl)
        ∙ ap (ahead (One c ∷ []))
        (complete _ _ d k signs back (clear_less follows (rules n) (starts k) (follows n) clear (rules_clear n)) e)
    complete _ _ (mark l) k signs back clear e =
        runs rules (Marked l ∷ []) k (Mark l ∷ k)
        (skip_extends rules (Mark l) k refl (λ c x y. both_ways _ refl x)) signs back e
    complete _ _ (both {a = a} {b = b} {front = f} {back = g} d1 d2) k signs back clear e =
        let rest = complete _ _ d2 k signs back clear.1 e in
        let all = complete _ _ d1 (b ∷ k) (signs_of g ++ signs) (g ++ back) clear.0 rest in
        rw (signs_append f g, append_assoc, append_assoc)
        (runs rules [] (a ∷ b ∷ k) (Then a b ∷ k) (both_extends rules a b k) _ _ all)
    complete _ _ (first {a = a} {b = b} {events = f} d) k signs back clear e =
        runs rules [] (a ∷ k) (Either a b ∷ k) (first_extends rules a b k clear.2) _ _
        (complete _ _ d k signs back clear.0 e)
    complete _ _ (second {a = a} {b = b} {events = f} d) k signs back clear e =
        runs rules [] (b ∷ k) (Either a b ∷ k) (second_extends rules a b k clear.2 clear.3) _ _
        (complete _ _ d k signs back clear.1 e)
    complete _ _ (none {a = a}) k signs back clear e =
        runs rules [] k (Many a ∷ k) (skip_extends rules (Many a) k refl clear.2) signs back e
    complete _ _ (more {a = a} {front = f} {back = g} d1 d2) k signs back clear e =
        let rest = complete _ _ d2 k signs back clear e in
        let all = complete _ _ d1 (Many a ∷ k) (signs_of g ++ signs) (g ++ back) clear.0 rest in
        rw (signs_append f g, append_assoc, append_assoc)
        (runs rules [] (a ∷ Many a ∷ k) (Many a ∷ k)
        (enter_extends rules a (Many a) (Many a ∷ k) k clear.1 (λ c. refl)) _ _ all)
    complete _ _ (empty {a = a} {s = s}) k signs back clear e =
        runs rules [] k (Listed a s ∷ k) (skip_extends rules (Listed a s) k refl clear.4) signs back e
    complete _ _ (last {a = a} {s = s} {events = f} d) k signs back clear e =
        let rest = runs rules [] k (further a s ∷ k) (further_skips a s k clear.3 clear.5) signs back e in
        let all = complete _ _ d (further a s ∷ k) signs back clear.0 rest in
        runs rules [] (a ∷ further a s ∷ k) (Listed a s ∷ k)
        (enter_extends rules a (Listed a s) (further a s ∷ k) k clear.2 (λ c. refl)) _ _ all
    complete _ _ (element {a = a} {s = s} {front = f} {mid = m} {back = g} d1 d2 d3) k signs back clear e =
        let rest = complete _ _ d3 k signs back clear e in
        let mid = complete _ _ d2 (Listed a s ∷ k) (signs_of g ++ signs) (g ++ back) clear.1 rest in
        let mid2 = runs rules [] (s ∷ Listed a s ∷ k) (further a s ∷ k)
        (enter_extends rules s (further a s) (Listed a s ∷ k) k clear.3
        (λ c. further_into rules a s k c clear.3)) _ _ mid in
        let all = complete _ _ d1 (further a s ∷ k) _ _ clear.0 mid2 in
        rw (signs_append f (m ++ g), signs_append m g, append_assoc, append_assoc, append_assoc, append_assoc)
        (runs rules [] (a ∷ further a s ∷ k) (Listed a s ∷ k)
        (enter_extends rules a (Listed a s) (further a s ∷ k) k clear.2 (λ c. refl)) _ _ all)

    pub run_complete : (k : List (Grammar C N L)) (events : List (Event C L)) → AllDeterministic follows k
        → Reads rules k events
        → run rules k (signs_of events) ≡ Some events
    run_complete [] events clear r = rw r refl
    run_complete (g ∷ k) events clear r =
        rw (r.2, signs_append r.0 r.1)
        (complete g r.0 r.3 k (signs_of r.1) r.1 clear.0 (run_complete k r.1 clear.1 r.4))
