-- If all signs are read, that is their reading; otherwise there is an error.
use Rattle.std.proofs.Common.{◌≡◌, refl, sym, ◌∙◌, ap, subst, Bool, true, false, List, [], ◌∷◌, ◌++◌, Some, None}
use Rattle.std.proofs.Common.{append_assoc, append-nil, if◌then◌else◌}
use Rattle.grammars.specs.Grammar.{Grammar, Event}
use Rattle.grammars.specs.Machine.{Transition, prepend_events, step, ends, closing, ahead, run, walk}
use Rattle.grammars.specs.Reading.{FaultAt, IsReading}
use Rattle.grammars.specs.Find.{Found, Past, Stuck, front, scan}
use Rattle.grammars.specs.Deterministic.{AllDeterministic, AllProductive, IsWellFormed}
use Rattle.grammars.proofs.StepLemmas.{if_some}
use Rattle.grammars.proofs.ReadingLemmas.{Comes, walk_step, walk_comes, reading, fault, fault_end}

module _ {C N L : Type 0} (rules : N → Grammar C N L) where
  -- whether a walk stops before the signs that are left
  pub record Stopped (k : List (Grammar C N L)) (signs left : List C) : Type 0 where
    pub before : List C
    pub taken : List (Event C L) × List (Grammar C N L)
    pub whole : signs ≡ before ++ left
    pub walks : walk rules k before ≡ Some taken
    pub stops : (c : C) (more : List C) → left ≡ c ∷ more → step rules taken.1 c ≡ None

  abbrev pub Ended : List (Grammar C N L) → List C → Found C L → Type 0
  Ended k signs (Past events rest) =
      (s : Stopped k signs rest) × (ends s.taken.1 ≡ true) × (events ≡ s.taken.0 ++ closing s.taken.1)
  Ended k signs (Stuck left) = (s : Stopped k signs left) × (ends s.taken.1 ≡ false)

  here : (k : List (Grammar C N L)) (signs : List C)
      → ((c : C) (more : List C) → signs ≡ c ∷ more → step rules k c ≡ None)
      → (e : Bool) → ends k ≡ e
      → Ended k signs (if e then Past (closing k) signs else Stuck signs)
  here k signs f true e = (
    record { before = []; taken = ([], k); whole = refl; walks = refl; stops = f },
    e,
    refl,
  )
  here k signs f false e = (record { before = []; taken = ([], k); whole = refl; walks = refl; stops = f }, e)

  abbrev stopped_on : (k : List (Grammar C N L)) (c : C) (signs left : List C)
      (t : List (Event C L) × List (Grammar C N L))
      → step rules k c ≡ Some t → Stopped t.1 signs left
      → Stopped k (c ∷ signs) left
  stopped_on k c signs left t e s = record {
    before = c ∷ s.before;
    taken = (t.0 ++ s.taken.0, s.taken.1);
    whole = ap (λ x. c ∷ x) s.whole;
    walks = walk_step rules k c s.before t e ∙ ap (prepend_events t.0) s.walks;
    stops = s.stops;
  }

  pub scan_ended : (k : List (Grammar C N L)) (signs : List C) → Ended k signs (scan rules k signs)
  scan_ended k [] = here k [] (λ c more e. cc) (ends k) refl
  scan_ended k (c ∷ signs) = go (step rules k c) refl (λ j. scan_ended j signs)
    where
      later : (t : List (Event C L) × List (Grammar C N L)) → step rules k c ≡ Some t → (f : Found C L)
          → Ended t.1 signs f
          → Ended k (c ∷ signs) (front t.0 f)
      later t e (Past events rest) s = (
        stopped_on k c signs rest t e s.0,
        s.1,
        ap (λ x. t.0 ++ x) s.2 ∙ sym (append_assoc t.0 s.0.taken.0 (closing s.0.taken.1)),
      )
      later t e (Stuck left) s = (stopped_on k c signs left t e s.0, s.1)

      go : (s : Transition C N L) → step rules k c ≡ s
          → ((j : List (Grammar C N L)) → Ended j signs (scan rules j signs))
          → Ended k (c ∷ signs) (elim s as (λ x. Found C L) [
            | None ↦ if ends k then Past (closing k) (c ∷ signs) else Stuck (c ∷ signs)
            | Some taken ↦ front taken.0 (scan rules taken.1 signs)
          ])
      go None e f =
          here k (c ∷ signs) (λ d more same. let first : c ≡ d = cc in ap (step rules k) (sym first) ∙ e) (ends k) refl
      go (Some t) e f = later t e (scan rules t.1 signs) (f t.1)

  module _ (follows : N → C → Bool) (good : IsWellFormed rules follows) (k : List (Grammar C N L))
      (clear : AllDeterministic follows k) (alive : AllProductive k) where
    -- if no signs are left, what is found is the only reading
    pub whole_read : (signs : List C) (events : List (Event C L)) → scan rules k signs ≡ Past events []
        → IsReading rules k signs events
    whole_read signs events e =
        let s = subst (Ended k signs) e (scan_ended k signs) in
        let comes = if_some (walk rules k s.0.before) s.0.taken (Comes rules k s.0.before) s.0.walks
        (walk_comes rules k s.0.before) in
        let last : run rules s.0.taken.1 [] ≡ Some (closing s.0.taken.1) = rw s.1 refl in
        reading rules follows good k clear alive signs events
        (ap (run rules k) s.0.whole ∙ (comes.2 [] ∙ (ap (ahead s.0.taken.0) last ∙ ap Some (sym s.2))))

    fault_at : (signs left : List C) → (s : Stopped k signs left) → (left ≡ [] → ends s.taken.1 ≡ false)
        → FaultAt rules k signs s.before left
    fault_at signs [] s h =
        subst (λ w. FaultAt rules k w s.before []) (sym (s.whole ∙ append-nil s.before))
        (fault_end rules follows good k clear alive s.before s.taken s.walks (h refl))
    fault_at signs (c ∷ left) s h =
        subst (λ w. FaultAt rules k w s.before (c ∷ left)) (sym s.whole)
        (fault rules follows good k clear alive s.before s.taken c left s.walks (s.stops c left refl))

    pub stuck_fault : (signs left : List C) → scan rules k signs ≡ Stuck left
        → (before : List C) × FaultAt rules k signs before left
    stuck_fault signs left e =
        let s = subst (Ended k signs) e (scan_ended k signs) in (s.0.before, fault_at signs left s.0 (λ same. s.1))

    pub rest_fault : (signs left : List C) (events : List (Event C L)) → scan rules k signs ≡ Past events left
        → (left ≡ [] → ⊥)
        → (before : List C) × FaultAt rules k signs before left
    rest_fault signs left events e h =
        let s = subst (Ended k signs) e (scan_ended k signs) in
        (s.0.before, fault_at signs left s.0 (λ same. absurd (h same)))
