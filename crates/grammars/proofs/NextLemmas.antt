-- A sign is in the first set of what is left to read exactly if the signs can go on with it.
use Rattle.std.proofs.Common.{◌≡◌, refl, sym, ◌∙◌, ap, Bool, true, false, ◌&&◌, ◌||◌, List, [], ◌∷◌, ◌++◌, Option}
use Rattle.std.proofs.Common.{Some, None, append_assoc, append-nil, is_some}
use Rattle.std.proofs.lemmas.Bool.{both_ways}
use Rattle.grammars.specs.Deterministic.{IsStart, IsWellFormed}
use Rattle.grammars.specs.First.{may_begin, starts}
use Rattle.grammars.specs.Grammar.{Grammar, Nothing, Sign, To, Mark, Then, Either, Many, Listed, Event, One, further}
use Rattle.grammars.specs.Machine.{Transition, closing, ends, into, is_nullable, marks_of_nothing, only, or_else}
use Rattle.grammars.specs.Machine.{ahead, prepend_events, run, step, walk}
use Rattle.grammars.specs.Next.{may_end, may_follow}
use Rattle.grammars.specs.Reading.{GoesOn, IsReading}
use Rattle.grammars.proofs.PieceLemmas.{Walks, run_walks}
use Rattle.grammars.proofs.ReadingLemmas.{Comes, found, goes_on, reading, walk_comes, walk_step}
use Rattle.grammars.proofs.StepLemmas.{if_some}

is_or : {T : Type 0} (x y : Option T) → is_some (or_else x y) ≡ (is_some x || is_some y)
is_or None y = refl
is_or (Some v) y = refl

is_only : {T : Type 0} (b : Bool) (v : T) → is_some (only b (Some v)) ≡ b
is_only true v = refl
is_only false v = refl

is_after : {C N L : Type 0} (b : Bool) (events : List (Event C L)) (x : Transition C N L)
    → is_some (only b (prepend_events events x)) ≡ (b && is_some x)
is_after true events None = refl
is_after true events (Some t) = refl
is_after false events x = refl

module _ {C N L : Type 0} (rules : N → Grammar C N L) where
  -- ---- first sets are the signs at which there is a step

  pub into_is : (g : Grammar C N L) (k : List (Grammar C N L)) (c : C) → is_some (into rules g k c) ≡ may_begin g c
  into_is Nothing k c = refl
  into_is (Sign passes) k c = is_only (passes c) (One c ∷ [], k)
  into_is (To passes n) k c = is_only (passes c) (One c ∷ [], rules n ∷ k)
  into_is (Mark l) k c = refl
  into_is (Then a b) k c =
      rw (
        is_or (into rules a (b ∷ k) c) _,
        is_after (is_nullable a) (marks_of_nothing a) (into rules b k c),
        into_is a (b ∷ k) c,
        into_is b k c,
      ) refl
  into_is (Either a b) k c = rw (is_or (into rules a k c) _, into_is a k c, into_is b k c) refl
  into_is (Many a) k c = into_is a (Many a ∷ k) c
  into_is (Listed a s) k c = into_is a (further a s ∷ k) c

  pub step_is : (k : List (Grammar C N L)) (c : C) → is_some (step rules k c) ≡ starts k c
  step_is [] c = refl
  step_is (g ∷ k) c =
      rw (
        is_or (into rules g k c) _,
        is_after (is_nullable g) (marks_of_nothing g) (step rules k c),
        into_is g k c,
        step_is k c,
      ) refl

  -- ---- walks over signs in two parts

  -- a walk after another
  abbrev pub after : Transition C N L → List C → Transition C N L
  after None more = None
  after (Some t) more = prepend_events t.0 (walk rules t.1 more)

  after_nothing : (o : Transition C N L) → o ≡ prepend_events [] o
  after_nothing None = refl
  after_nothing (Some t) = refl

  prepend_after : (events : List (Event C L)) (o : Transition C N L) (more : List C)
      → prepend_events events (after o more) ≡ after (prepend_events events o) more
  prepend_after events None more = refl
  prepend_after events (Some t) more = go (walk rules t.1 more)
    where
      go : (x : Transition C N L) → prepend_events events (prepend_events t.0 x) ≡ prepend_events (events ++ t.0) x
      go None = refl
      go (Some x) = ap (λ e. Some (e, x.1)) (sym (append_assoc events t.0 x.0))

  pub walk_append : (k : List (Grammar C N L)) (front more : List C)
      → walk rules k (front ++ more) ≡ after (walk rules k front) more
  walk_append k [] more = after_nothing (walk rules k more)
  walk_append k (c ∷ front) more = go (step rules k c) (λ j. walk_append j front more)
    where
      go : (s : Transition C N L)
          → ((j : List (Grammar C N L)) → walk rules j (front ++ more) ≡ after (walk rules j front) more)
          → (elim s as (λ y. Transition C N L) [
            | None ↦ None
            | Some t ↦ prepend_events t.0 (walk rules t.1 (front ++ more))
          ]) ≡ after (elim s as (λ y. Transition C N L) [
            | None ↦ None
            | Some t ↦ prepend_events t.0 (walk rules t.1 front)
          ]) more
      go None f = refl
      go (Some t) f = ap (prepend_events t.0) (f t.1) ∙ prepend_after t.0 (walk rules t.1 front) more

  -- ---- the theorems

  module _ (follows : N → C → Bool) (good : IsWellFormed rules follows) (k : List (Grammar C N L))
      (start : IsStart rules follows k) where
    pub next_goes_on : (front : List C) (c : C) → may_follow rules k front c ≡ true → GoesOn rules k (front ++ c ∷ [])
    next_goes_on front c = go (walk rules k front) refl
      where
        taken : (t : List (Event C L) × List (Grammar C N L)) → walk rules k front ≡ Some t
            → (s : Transition C N L) → step rules t.1 c ≡ s → is_some s ≡ true
            → GoesOn rules k (front ++ c ∷ [])
        taken t w None e h = absurd (both_ways false refl h)
        taken t w (Some next) e h =
            goes_on rules follows good k start.deterministic start.productive (front ++ c ∷ [])
            (t.0 ++ (next.0 ++ []), next.1)
            (walk_append k front (c ∷ [])
            ∙ (ap (λ o. after o (c ∷ [])) w ∙ ap (prepend_events t.0) (walk_step rules t.1 c [] next e)))

        go : (o : Transition C N L) → walk rules k front ≡ o
            → (elim o as (λ x. Bool) [ None ↦ false | Some t ↦ starts t.1 c ]) ≡ true
            → GoesOn rules k (front ++ c ∷ [])
        go None w h = absurd (both_ways false refl h)
        go (Some t) w h = taken t w (step rules t.1 c) refl (step_is t.1 c ∙ h)

    pub goes_on_next : (front : List C) (c : C) → GoesOn rules k (front ++ c ∷ []) → may_follow rules k front c ≡ true
    goes_on_next front c goes =
        let ran = found rules follows good k start.deterministic start.productive _ goes.0 goes.2 goes.3 in
        let w = run_walks rules k _ goes.0 ran in
        go (walk rules k front)
        (sym (walk_append k front (c ∷ goes.1))
        ∙ (ap (walk rules k) (sym (append_assoc front (c ∷ []) goes.1)) ∙ w.walks))
      where
        taken : (t : List (Event C L) × List (Grammar C N L)) (more : List C)
            (last : List (Event C L) × List (Grammar C N L)) (s : Transition C N L)
            → prepend_events t.0 (elim s as (λ x. Transition C N L) [
              | None ↦ None
              | Some u ↦ prepend_events u.0 (walk rules u.1 more)
            ]) ≡ Some last
            → is_some s ≡ true
        taken t more last None w = absurd cc
        taken t more last (Some next) w = refl

        go : {last : List (Event C L) × List (Grammar C N L)} (o : Transition C N L)
            → after o (c ∷ goes.1) ≡ Some last
            → (elim o as (λ x. Bool) [ None ↦ false | Some t ↦ starts t.1 c ]) ≡ true
        go None w = absurd cc
        go {last = last} (Some t) w = sym (step_is t.1 c) ∙ taken t goes.1 last (step rules t.1 c) w

    pub ends_reading : (front : List C) → may_end rules k front ≡ true
        → (events : List (Event C L)) × IsReading rules k front events
    ends_reading front = go (walk rules k front) refl
      where
        go : (o : Transition C N L) → walk rules k front ≡ o
            → (elim o as (λ x. Bool) [ None ↦ false | Some t ↦ ends t.1 ]) ≡ true
            → (events : List (Event C L)) × IsReading rules k front events
        go None w h = absurd (both_ways false refl h)
        go (Some t) w h =
            let comes = if_some (walk rules k front) t (Comes rules k front) w (walk_comes rules k front) in
            let last : run rules t.1 [] ≡ Some (closing t.1) = rw h refl in (
              t.0 ++ closing t.1,
              reading rules follows good k start.deterministic start.productive front _
                  (ap (run rules k) (sym (append-nil front)) ∙ (comes.2 [] ∙ ap (ahead t.0) last)),
            )

    pub reading_ends : (front : List C) (events : List (Event C L)) → IsReading rules k front events
        → may_end rules k front ≡ true
    reading_ends front events r =
        let w = run_walks rules k front events
        (found rules follows good k start.deterministic start.productive front events r.reads r.whole) in
        rw (w.walks, may_end) w.ended
