-- The pieces at the start of some signs are the walks of the machine as far as it goes.
use Rattle.std.proofs.Common.{◌≡◌, refl, sym, ◌∙◌, ap, Bool, true, false, List, [], ◌∷◌, ◌++◌, Option, Some, None}
use Rattle.std.proofs.Common.{append-nil}
use Rattle.grammars.specs.Grammar.{Grammar, Event}
use Rattle.grammars.specs.Machine.{Transition, ahead, prepend_events, closing, ends, only, run, step, walk}
use Rattle.grammars.specs.Deterministic.{IsStart, IsWellFormed}
use Rattle.grammars.specs.Reading.{IsPiece}
use Rattle.grammars.proofs.StepLemmas.{if_some}
use Rattle.grammars.proofs.ReadingLemmas.{Comes, fault, found, goes_on, reading, walk_comes, walk_step}

module _ {C N L : Type 0} (rules : N → Grammar C N L) where
  -- a walk over the signs to a stack at which they may end
  pub record Walks (k : List (Grammar C N L)) (signs : List C) : Type 0 where
    pub taken : List (Event C L) × List (Grammar C N L)
    pub walks : walk rules k signs ≡ Some taken
    pub ended : ends taken.1 ≡ true

  -- if all signs are read, there is a walk over them
  pub run_walks : (k : List (Grammar C N L)) (signs : List C) (events : List (Event C L))
      → run rules k signs ≡ Some events
      → Walks k signs
  run_walks k [] events e = go (ends k) refl e
    where
      go : (b : Bool) → ends k ≡ b → only b (Some (closing k)) ≡ Some events → Walks k []
      go true h e = record { taken = ([], k); walks = refl; ended = h }
      go false h e = absurd cc
  run_walks k (c ∷ signs) events e = go (step rules k c) refl e (λ j ev. run_walks j signs ev)
    where
      later : (t : List (Event C L) × List (Grammar C N L)) → step rules k c ≡ Some t → (o : Option (List (Event C L)))
          → ahead t.0 o ≡ Some events → ((ev : List (Event C L)) → o ≡ Some ev → Walks t.1 signs)
          → Walks k (c ∷ signs)
      later t h None e f = absurd cc
      later t h (Some ev) e f =
          let w = f ev refl in record {
            taken = (t.0 ++ w.taken.0, w.taken.1);
            walks = walk_step rules k c signs t h ∙ ap (prepend_events t.0) w.walks;
            ended = w.ended;
          }

      go : (s : Transition C N L) → step rules k c ≡ s
          → (elim s as (λ y. Option (List (Event C L))) [
            | None ↦ None
            | Some taken ↦ ahead taken.0 (run rules taken.1 signs)
          ]) ≡ Some events
          → ((j : List (Grammar C N L)) (ev : List (Event C L)) → run rules j signs ≡ Some ev → Walks j signs)
          → Walks k (c ∷ signs)
      go None h e f = absurd cc
      go (Some t) h e f = later t h (run rules t.1 signs) e (f t.1)

  -- a walk goes on if there is a step at the next sign
  one_more : (k : List (Grammar C N L)) (signs : List C) (c : C) (taken : List (Event C L) × List (Grammar C N L))
      (next : List (Event C L) × List (Grammar C N L)) → walk rules k signs ≡ Some taken
      → step rules taken.1 c ≡ Some next
      → (last : List (Event C L) × List (Grammar C N L)) × (walk rules k (signs ++ c ∷ []) ≡ Some last)
  one_more k [] c taken next w s =
      let same : k ≡ taken.1 = cc in
      let here : step rules k c ≡ Some next = ap (λ j. step rules j c) same ∙ s in
      ((next.0 ++ [], next.1), walk_step rules k c [] next here)
  one_more k (d ∷ signs) c taken next w s = go (step rules k d) refl w (λ j t. one_more j signs c t next)
    where
      later : (t : List (Event C L) × List (Grammar C N L)) → step rules k d ≡ Some t → (o : Transition C N L)
          → prepend_events t.0 o ≡ Some taken
          → ((u : List (Event C L) × List (Grammar C N L)) → o ≡ Some u → step rules u.1 c ≡ Some next
          → (last : List (Event C L) × List (Grammar C N L)) × (walk rules t.1 (signs ++ c ∷ []) ≡ Some last))
          → (last : List (Event C L) × List (Grammar C N L)) × (walk rules k (d ∷ (signs ++ c ∷ [])) ≡ Some last)
      later t h None e f = absurd cc
      later t h (Some u) e f =
          let same : u.1 ≡ taken.1 = cc in
          let at = f u refl (ap (λ j. step rules j c) same ∙ s) in
          ((t.0 ++ at.0.0, at.0.1), walk_step rules k d (signs ++ c ∷ []) t h ∙ ap (prepend_events t.0) at.1)

      go : (o : Transition C N L) → step rules k d ≡ o
          → (elim o as (λ y. Transition C N L) [ None ↦ None | Some t ↦ prepend_events t.0 (walk rules t.1 signs) ])
          ≡ Some taken
          → ((j : List (Grammar C N L)) (t : List (Event C L) × List (Grammar C N L)) → walk rules j signs ≡ Some t
          → step rules t.1 c ≡ Some next
          → (last : List (Event C L) × List (Grammar C N L)) × (walk rules j (signs ++ c ∷ []) ≡ Some last))
          → (last : List (Event C L) × List (Grammar C N L)) × (walk rules k (d ∷ (signs ++ c ∷ [])) ≡ Some last)
      go None h e f = absurd cc
      go (Some t) h e f = later t h (walk rules t.1 signs) e (f t.1)

  module _ (follows : N → C → Bool) (good : IsWellFormed rules follows) (k : List (Grammar C N L))
      (start : IsStart rules follows k) where
    -- if the signs may end after a walk, and there is no step at the next sign, the walk is over a piece
    pub walk_piece : (piece rest : List C) (w : Walks k piece)
        → ((c : C) (more : List C) → rest ≡ c ∷ more → step rules w.taken.1 c ≡ None)
        → IsPiece rules k piece rest
    walk_piece piece rest w stop =
        let comes = if_some (walk rules k piece) w.taken (Comes rules k piece) w.walks (walk_comes rules k piece) in
        let last : run rules w.taken.1 [] ≡ Some (closing w.taken.1) = rw w.ended refl in
        record {
          events = w.taken.0 ++ closing w.taken.1;
          reading = reading rules follows good k start.deterministic start.productive piece _
              (ap (run rules k) (sym (append-nil piece)) ∙ (comes.2 [] ∙ ap (ahead w.taken.0) last));
          longest = λ c more e.
              let at = fault rules follows good k start.deterministic start.productive piece w.taken c more w.walks
              (stop c more e) in
              at.longest c more refl;
        }

    -- each piece has a walk over it to a stack at which the signs may end
    pub piece_walk : (piece rest : List C) → IsPiece rules k piece rest → Walks k piece
    piece_walk piece rest p =
        run_walks k piece p.events
        (found rules follows good k start.deterministic start.productive piece p.events p.reading.reads p.reading.whole)

    -- after a walk over a piece there is no step at the next sign
    pub piece_stops : (piece rest : List C) → IsPiece rules k piece rest → (w : Walks k piece)
        → (c : C) (more : List C) → rest ≡ c ∷ more
        → step rules w.taken.1 c ≡ None
    piece_stops piece rest p w c more e = go (step rules w.taken.1 c) refl
      where
        go : (s : Transition C N L) → step rules w.taken.1 c ≡ s → s ≡ None
        go None h = refl
        go (Some next) h =
            let at = one_more k piece c w.taken next w.walks h in
            absurd (p.longest c more e
            (goes_on rules follows good k start.deterministic start.productive (piece ++ c ∷ []) at.0 at.1))
