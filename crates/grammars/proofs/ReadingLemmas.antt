-- The machine reads exactly what the grammar derives, in one way. It stops exactly where no reading goes on.
use Rattle.std.proofs.Common.{◌≡◌, refl, sym, ◌∙◌, ap, subst, Bool, false, List, [], ◌∷◌}
use Rattle.std.proofs.Common.{◌++◌, Option, Some, None, IfSome, append_assoc, append-nil}
use Rattle.grammars.specs.Grammar.{Grammar, Event, signs_of, Reads}
use Rattle.grammars.specs.Machine.{Transition, prepend_events, step, ends, ahead, run, walk}
use Rattle.grammars.specs.Reading.{GoesOn, FaultAt, IsReading}
use Rattle.grammars.proofs.SoundLemmas.{signs_append, Taken, step_sound, ReadsOf, run_sound}
use Rattle.grammars.specs.Deterministic.{AllDeterministic, Productive, AllProductive, IsWellFormed}
use Rattle.grammars.proofs.CompleteLemmas.{run_complete}
use Rattle.grammars.proofs.StepLemmas.{run_step, if_some}
use Rattle.grammars.proofs.ProductiveLemmas.{step_alive, samples_all}

module _ {C N L : Type 0} (rules : N → Grammar C N L) where
  -- ---- walks

  pub walk_step : (k : List (Grammar C N L)) (c : C) (signs : List C) (taken : List (Event C L) × List (Grammar C N L))
      → step rules k c ≡ Some taken
      → walk rules k (c ∷ signs) ≡ prepend_events taken.0 (walk rules taken.1 signs)
  walk_step k c signs taken e =
      subst (λ s. (elim s as (λ y. Transition C N L) [
        | None ↦ None
        | Some t ↦ prepend_events t.0 (walk rules t.1 signs)
      ]) ≡ prepend_events taken.0 (walk rules taken.1 signs)) (sym e) refl

  -- whether the events of a walk have exactly its signs, and lead from what the stack after it reads to what `k` reads
  abbrev pub Comes : List (Grammar C N L) → List C → List (Event C L) × List (Grammar C N L) → Type 0
  Comes k front taken =
      (signs_of taken.0 ≡ front)
      × ((events : List (Event C L)) → Reads rules taken.1 events → Reads rules k (taken.0 ++ events))
      × ((signs : List C) → run rules k (front ++ signs) ≡ ahead taken.0 (run rules taken.1 signs))

  ahead_ahead : (a b : List (Event C L)) (o : Option (List (Event C L))) → ahead a (ahead b o) ≡ ahead (a ++ b) o
  ahead_ahead a b None = refl
  ahead_ahead a b (Some v) = ap Some (sym (append_assoc a b v))

  ahead_nothing : (o : Option (List (Event C L))) → o ≡ ahead [] o
  ahead_nothing None = refl
  ahead_nothing (Some v) = refl

  pub walk_comes : (k : List (Grammar C N L)) (front : List C) → IfSome (walk rules k front) (Comes k front)
  walk_comes k [] = (refl, λ events r. r, λ signs. ahead_nothing (run rules k signs))
  walk_comes k (c ∷ front) =
      go (step rules k c) refl (step_sound rules k c) (λ j. walk_comes j front)
    where
      later : (t : List (Event C L) × List (Grammar C N L)) → step rules k c ≡ Some t → Taken rules k c t
          → (x : Transition C N L) → IfSome x (Comes t.1 front)
          → IfSome (prepend_events t.0 x) (Comes k (c ∷ front))
      later t e s None f = tt
      later t e s (Some x) f = (
        signs_append t.0 x.0 ∙ (ap (λ y. y ++ signs_of x.0) s.0 ∙ ap (λ y. c ∷ y) f.0),
        λ events r. subst (Reads rules k) (sym (append_assoc t.0 x.0 events)) (s.1 _ (f.1 events r)),
        λ signs. run_step rules k c (front ++ signs) t e ∙ (ap (ahead t.0) (f.2 signs) ∙ ahead_ahead t.0 x.0 _),
      )

      go : (s : Transition C N L) → step rules k c ≡ s → IfSome s (Taken rules k c)
          → ((j : List (Grammar C N L)) → IfSome (walk rules j front) (Comes j front))
          → IfSome (elim s as (λ y. Transition C N L) [
            | None ↦ None
            | Some t ↦ prepend_events t.0 (walk rules t.1 front)
          ]) (Comes k (c ∷ front))
      go None e t f = tt
      go (Some t) e s f = later t e s (walk rules t.1 front) (f t.1)

  pub walk_alive : (rules_alive : (n : N) → Productive (rules n)) (k : List (Grammar C N L)) (front : List C)
      → AllProductive k
      → IfSome (walk rules k front) (λ t. AllProductive t.1)
  walk_alive all k [] l = l
  walk_alive all k (c ∷ front) l = go (step rules k c) (step_alive rules all k c l) (λ j h. walk_alive all j front h)
    where
      later : (pre : List (Event C L)) (x : Transition C N L) → IfSome x (λ t. AllProductive t.1)
          → IfSome (prepend_events pre x) (λ t. AllProductive t.1)
      later pre None h = tt
      later pre (Some x) h = h

      go : (s : Transition C N L) → IfSome s (λ t. AllProductive t.1)
          → ((j : List (Grammar C N L)) → AllProductive j → IfSome (walk rules j front) (λ t. AllProductive t.1))
          → IfSome (elim s as (λ y. Transition C N L) [
            | None ↦ None
            | Some t ↦ prepend_events t.0 (walk rules t.1 front)
          ]) (λ t. AllProductive t.1)
      go None h f = tt
      go (Some t) h f = later t.0 (walk rules t.1 front) (f t.1 h)

  -- ---- the theorem

  module _ (follows : N → C → Bool) (good : IsWellFormed rules follows) (k : List (Grammar C N L))
      (clear : AllDeterministic follows k)
      (alive : AllProductive k) where
    -- what the machine reads is the only reading of the signs
    pub reading : (signs : List C) (events : List (Event C L)) → run rules k signs ≡ Some events
        → IsReading rules k signs events
    reading signs events e =
        let s = if_some (run rules k signs) events (ReadsOf rules k signs) e (run_sound rules k signs) in
        record {
          reads = s.0;
          whole = s.1;
          only = λ other r w.
              let again : Some other ≡ Some events =
              sym (run_complete rules follows good.deterministic k other clear r) ∙ (ap (run rules k) w ∙ e) in
              cc;
        }

    pub found : (signs : List C) (events : List (Event C L)) → Reads rules k events → signs_of events ≡ signs
        → run rules k signs ≡ Some events
    found signs events r w =
        subst (λ s. run rules k s ≡ Some events) w (run_complete rules follows good.deterministic k events clear r)

    pub goes_on : (front : List C) (taken : List (Event C L) × List (Grammar C N L))
        → walk rules k front ≡ Some taken
        → GoesOn rules k front
    goes_on front taken e =
        let comes = if_some (walk rules k front) taken (Comes k front) e (walk_comes k front) in
        let lives = if_some (walk rules k front) taken (λ t. AllProductive t.1) e
        (walk_alive good.productive k front alive) in
        let rest = samples_all rules good.samples taken.1 lives in (
          taken.0 ++ rest.0,
          signs_of rest.0,
          comes.1 rest.0 rest.1,
          signs_append taken.0 rest.0 ∙ ap (λ x. x ++ signs_of rest.0) comes.0,
        )

    stops : (front : List C) (taken : List (Event C L) × List (Grammar C N L)) (c : C) (more : List C)
        → walk rules k front ≡ Some taken → step rules taken.1 c ≡ None → (events : List (Event C L))
        → Reads rules k events → signs_of events ≡ front ++ c ∷ more
        → ⊥
    stops front taken c more e stop events r w =
        let comes = if_some (walk rules k front) taken (Comes k front) e (walk_comes k front) in
        let ran = found (front ++ c ∷ more) events r w in
        let stuck : run rules taken.1 (c ∷ more) ≡ None =
        subst (λ s. (elim s as (λ y. Option (List (Event C L))) [
          | None ↦ None
          | Some t ↦ ahead t.0 (run rules t.1 more)
        ]) ≡ None) (sym stop) refl in
        let none : run rules k (front ++ c ∷ more) ≡ None = comes.2 (c ∷ more) ∙ ap (ahead taken.0) stuck in
        let both : Some events ≡ None = sym ran ∙ none in
        cc

    -- if a walk has no step at the next sign, the error is there
    pub fault : (front : List C) (taken : List (Event C L) × List (Grammar C N L)) (c : C) (more : List C)
        → walk rules k front ≡ Some taken → step rules taken.1 c ≡ None
        → FaultAt rules k (front ++ c ∷ more) front (c ∷ more)
    fault front taken c more e stop = record {
      whole = refl;
      goes_on = goes_on front taken e;
      longest = λ d rest same on.
          let first : c ≡ d = cc in
          stops front taken c on.1 e stop on.0 on.2
          (on.3 ∙ (append_assoc front (d ∷ []) on.1 ∙ ap (λ x. front ++ x ∷ on.1) (sym first)));
      nothing = λ events r w. stops front taken c more e stop events r w;
    }

    -- if the signs may not end after a walk over all of them, the error is at the end
    pub fault_end : (front : List C) (taken : List (Event C L) × List (Grammar C N L))
        → walk rules k front ≡ Some taken → ends taken.1 ≡ false
        → FaultAt rules k front front []
    fault_end front taken e no_end = record {
      whole = sym (append-nil front);
      goes_on = goes_on front taken e;
      longest = λ d rest same on. cc;
      nothing = λ events r w.
          let comes = if_some (walk rules k front) taken (Comes k front) e (walk_comes k front) in
          let ran = found front events r w in
          let stuck : run rules taken.1 [] ≡ None = rw no_end refl in
          let none : run rules k (front ++ []) ≡ None = comes.2 [] ∙ ap (ahead taken.0) stuck in
          let both : Some events ≡ None = sym ran ∙ (ap (run rules k) (sym (append-nil front)) ∙ none) in
          cc;
    }
