-- Steps of the machine: where there is none, and where one stack takes the steps of another after some events.
use Rattle.std.proofs.Common.{◌≡◌, refl, sym, ap, subst, Bool, true, false, ◌&&◌, ◌||◌, List, [], ◌∷◌}
use Rattle.std.proofs.Common.{◌++◌, Option, inl, inr, Some, None, IfSome, append_assoc}
use Rattle.std.proofs.Common.{if◌then◌else◌}
use Rattle.std.proofs.lemmas.Bool.{both_ways, and_parts, and_from, and_cases, or_cases, or_parts, or_left, or_right}
use Rattle.std.proofs.lemmas.Bool.{false_from_ne_true}
use Rattle.grammars.specs.Grammar.{Grammar, Nothing, Sign, To, Mark, Then, Either, Many, Listed, Event}
use Rattle.grammars.specs.Grammar.{further}
use Rattle.grammars.specs.Machine.{is_nullable, marks_of_nothing, Transition, or_else, prepend_events, only, into, step}
use Rattle.grammars.specs.Machine.{ends, closing}
use Rattle.grammars.specs.Machine.{ahead, run}
use Rattle.grammars.specs.First.{may_begin, begins, starts}
use Rattle.grammars.specs.Deterministic.{Apart, Within, Deterministic}

begins_less : {C N L : Type 0} (g : Grammar C N L) (small big : C → Bool) → Within small big
    → Within (begins g small) (begins g big)
begins_less g small big w c h = elim (or_cases _ _ h) [
  | inl x ↦ or_left _ _ x
  | inr y ↦ let both = and_parts _ _ y in or_right _ _ (and_from _ _ both.0 (w c both.1))
]

pub clear_less : {C N L : Type 0} (follows : N → C → Bool) (g : Grammar C N L) (small big : C → Bool)
    → Within small big → Deterministic follows g big
    → Deterministic follows g small
clear_less follows Nothing small big w h = tt
clear_less follows (Sign passes) small big w h = tt
clear_less follows (To passes n) small big w h = λ c x. h c (w c x)
clear_less follows (Mark l) small big w h = tt
clear_less follows (Then a b) small big w h = (
  clear_less follows a (begins b small) (begins b big)
      (begins_less b small big w) h.0,
  clear_less follows b small big w h.1,
)
clear_less follows (Either a b) small big w h = (
  clear_less follows a small big w h.0,
  clear_less follows b small big w h.1,
  λ c x y. h.2 c (begins_less a small big w c x) (begins_less b small big w c y),
  h.3,
)
clear_less follows (Many a) small big w h = (
  clear_less follows a (begins (Many a) small) (begins (Many a) big) (begins_less (Many a) small big w) h.0,
  h.1,
  λ c x y. h.2 c x (w c y),
)
clear_less follows (Listed a s) small big w h = (
  clear_less follows a (begins (further a s) small) (begins (further a s) big)
      (begins_less (further a s) small big w) h.0,
  clear_less follows s (begins (Listed a s) small) (begins (Listed a s) big) (begins_less (Listed a s) small big w) h.1,
  h.2,
  h.3,
  λ c x y. h.4 c x (w c y),
  λ c x y. h.5 c x (w c y),
)

only_none : {T : Type 0} (b : Bool) (x : Option T) → (b ≡ true → x ≡ None) → only b x ≡ None
only_none true x h = h refl
only_none false x h = refl

prepend_events_none : {C N L : Type 0} (events : List (Event C L)) (x : Transition C N L) → x ≡ None
    → prepend_events events x ≡ None
prepend_events_none events x h = rw h refl

or_none : {T : Type 0} (x y : Option T) → x ≡ None → y ≡ None → or_else x y ≡ None
or_none x y h i = rw (h, i) refl

-- two equal values are both none, or both are the same value
same_answer : {T : Type 0} (x y : Option T) → x ≡ y → IfSome x (λ v. y ≡ Some v)
same_answer None y e = tt
same_answer (Some v) y e = sym e

pub if_some : {T : Type 0} (x : Option T) (v : T) (P : T → Type 0) → x ≡ Some v → IfSome x P → P v
if_some x v P e h = subst (λ y. IfSome y P) e h

module _ {C N L : Type 0} (rules : N → Grammar C N L) where
  -- ---- where there is no step

  skip_none : (g : Grammar C N L) (p : Bool) (x : Transition C N L) → (is_nullable g && p) ≡ false
      → (p ≡ false → x ≡ None)
      → only (is_nullable g) (prepend_events (marks_of_nothing g) x) ≡ None
  skip_none g p x h f =
      only_none (is_nullable g) _
      (λ e. prepend_events_none (marks_of_nothing g) x
      (f (elim (and_cases _ _ h) [ inl x ↦ absurd (both_ways _ x e) | inr y ↦ y ])))

  pub into_none : (g : Grammar C N L) (k : List (Grammar C N L)) (c : C) → may_begin g c ≡ false
      → into rules g k c ≡ None
  into_none Nothing k c h = refl
  into_none (Sign passes) k c h = rw h refl
  into_none (To passes n) k c h = rw h refl
  into_none (Mark l) k c h = refl
  into_none (Then a b) k c h =
      let parts = or_parts _ _ h in
      or_none _ _ (into_none a (b ∷ k) c parts.0) (skip_none a (may_begin b c) _ parts.1 (λ e. into_none b k c e))
  into_none (Either a b) k c h =
      let parts = or_parts _ _ h in or_none _ _ (into_none a k c parts.0) (into_none b k c parts.1)
  into_none (Many a) k c h = into_none a (Many a ∷ k) c h
  into_none (Listed a s) k c h = into_none a (further a s ∷ k) c h

  pub step_none : (k : List (Grammar C N L)) (c : C) → starts k c ≡ false → step rules k c ≡ None
  step_none [] c h = refl
  step_none (g ∷ k) c h =
      let parts = or_parts _ _ h in
      or_none _ _ (into_none g k c parts.0) (skip_none g (starts k c) _ parts.1 (λ e. step_none k c e))

  some_true : {T : Type 0} (b : Bool) (x : Option T) → (b ≡ false → x ≡ None) → IfSome x (λ v. b ≡ true)
  some_true b None h = tt
  some_true true (Some v) h = refl
  some_true false (Some v) h = let no = h refl in cc

  pub into_begins : (g : Grammar C N L) (k : List (Grammar C N L)) (c : C)
      → IfSome (into rules g k c) (λ taken. may_begin g c ≡ true)
  into_begins g k c = some_true (may_begin g c) _ (into_none g k c)

  pub step_starts : (k : List (Grammar C N L)) (c : C) → IfSome (step rules k c) (λ taken. starts k c ≡ true)
  step_starts k c = some_true (starts k c) _ (step_none k c)

  -- ---- where one stack does what another does, after some events

  pub record Extends (pre : List (Event C L)) (k k2 : List (Grammar C N L)) : Type 0 where
    pub ending : ends k ≡ true → (ends k2 ≡ true) × (closing k2 ≡ pre ++ closing k)
    pub steps : (c : C) → IfSome (step rules k c) (λ taken. step rules k2 c ≡ Some (pre ++ taken.0, taken.1))

  pub run_step : (k : List (Grammar C N L)) (c : C) (signs : List C) (taken : List (Event C L) × List (Grammar C N L))
      → step rules k c ≡ Some taken
      → run rules k (c ∷ signs) ≡ ahead taken.0 (run rules taken.1 signs)
  run_step k c signs taken e =
      subst (λ s. (elim s as (λ y. Option (List (Event C L))) [
        | None ↦ None
        | Some t ↦ ahead t.0 (run rules t.1 signs)
      ]) ≡ ahead taken.0 (run rules taken.1 signs)) (sym e) refl

  pub run_extends : (pre : List (Event C L)) (k k2 : List (Grammar C N L)) → Extends pre k k2 → (signs : List C)
      → IfSome (run rules k signs) (λ events. run rules k2 signs ≡ Some (pre ++ events))
  run_extends pre k k2 x [] = go (ends k) x.ending
    where
      go : (e : Bool) → (e ≡ true → (ends k2 ≡ true) × (closing k2 ≡ pre ++ closing k))
          → IfSome (only e (Some (closing k)))
          (λ events. only (ends k2) (Some (closing k2)) ≡ Some (pre ++ events))
      go true f = let at = f refl in rw (at.0, at.1) refl
      go false f = tt
  run_extends pre k k2 x (c ∷ signs) = go (step rules k c) (x.steps c)
    where
      later : (a : List (Event C L)) (y : Option (List (Event C L)))
          → IfSome (ahead a y) (λ events. ahead (pre ++ a) y ≡ Some (pre ++ events))
      later a None = tt
      later a (Some v) = ap Some (append_assoc pre a v)

      go : (s : Transition C N L) → IfSome s (λ taken. step rules k2 c ≡ Some (pre ++ taken.0, taken.1))
          → IfSome (elim s as (λ y. Option (List (Event C L))) [
            | None ↦ None
            | Some taken ↦ ahead taken.0 (run rules taken.1 signs)
          ]) (λ events. run rules k2 (c ∷ signs) ≡ Some (pre ++ events))
      go None h = tt
      go (Some t) h = rw (run_step k2 c signs _ h) (later t.0 (run rules t.1 signs))

  pub runs : (pre : List (Event C L)) (k k2 : List (Grammar C N L)) → Extends pre k k2 → (signs : List C)
      (events : List (Event C L)) → run rules k signs ≡ Some events
      → run rules k2 signs ≡ Some (pre ++ events)
  runs pre k k2 x signs events e = if_some _ events _ e (run_extends pre k k2 x signs)

  -- no sign of a grammar is read
  pub skip_extends : (g : Grammar C N L) (k : List (Grammar C N L)) → is_nullable g ≡ true
      → Apart (may_begin g) (starts k)
      → Extends (marks_of_nothing g) k (g ∷ k)
  skip_extends g k h away = record {
    ending = λ e. (and_from _ _ h e, refl);
    steps = λ c. at c (step rules k c) (step_starts k c);
  }
    where
      at : (c : C) (s : Transition C N L) → IfSome s (λ taken. starts k c ≡ true)
          → IfSome s (λ taken. or_else (into rules g k c) (only (is_nullable g) (prepend_events (marks_of_nothing g) s))
          ≡ Some (marks_of_nothing g ++ taken.0, taken.1))
      at c None f = tt
      at c (Some taken) f =
          rw (into_none g k c (false_from_ne_true _ (λ x. away c x f)), h) refl

  -- the first of two grammars in a row is read
  pub both_extends : (a b : Grammar C N L) (k : List (Grammar C N L)) → Extends [] (a ∷ b ∷ k) (Then a b ∷ k)
  both_extends a b k = record {
    ending = λ e.
        let x = and_parts (is_nullable a) (is_nullable b && ends k) e in
        let y = and_parts (is_nullable b) (ends k) x.1 in
        (and_from _ _ (and_from _ _ x.0 y.0) y.1, append_assoc (marks_of_nothing a) (marks_of_nothing b) (closing k));
    steps = λ c. same_answer _ _
        (same (into rules a (b ∷ k) c) (into rules b k c) (step rules k c) (is_nullable a) (is_nullable b)
        (marks_of_nothing a)
        (marks_of_nothing b));
  }
    where
      same : (x y z : Transition C N L) (ea eb : Bool) (sa sb : List (Event C L))
          → or_else x (only ea (prepend_events sa (or_else y (only eb (prepend_events sb z)))))
          ≡ or_else (or_else x (only ea (prepend_events sa y))) (only (ea && eb) (prepend_events (sa ++ sb) z))
      same (Some x) y z ea eb sa sb = refl
      same None y z false eb sa sb = refl
      same None (Some y) z true eb sa sb = refl
      same None None z true false sa sb = refl
      same None None None true true sa sb = refl
      same None None (Some z) true true sa sb = ap (λ e. Some (e, z.1)) (sym (append_assoc sa sb z.0))

  -- the first of two choices is read
  pub first_extends : (a b : Grammar C N L) (k : List (Grammar C N L))
      → Apart (begins a (starts k)) (begins b (starts k))
      → Extends [] (a ∷ k) (Either a b ∷ k)
  first_extends a b k away = record {
    ending = λ e. let x = and_parts _ _ e in ending (is_nullable a) (is_nullable b) (closing k) x.0 x.1;
    steps = λ c. at c (into rules a k c) (is_nullable a) refl (step rules k c) (step_starts k c);
  }
    where
      ending : (ea eb : Bool) (end : List (Event C L)) → ea ≡ true → ends k ≡ true
          → (((ea || eb) && ends k) ≡ true)
          × (((if ea then marks_of_nothing a else marks_of_nothing b) ++ end) ≡ marks_of_nothing a ++ end)
      ending true eb end h e = (e, refl)
      ending false eb end h e = absurd (both_ways _ refl h)

      at : (c : C) (x : Transition C N L) (ea : Bool) → is_nullable a ≡ ea → (z : Transition C N L)
          → IfSome z (λ taken. starts k c ≡ true)
          → IfSome (or_else x (only ea (prepend_events (marks_of_nothing a) z)))
          (λ taken. or_else (or_else x (into rules b k c))
          (only (ea || is_nullable b) (prepend_events (if ea then marks_of_nothing a else marks_of_nothing b) z))
          ≡ Some (taken.0, taken.1))
      at c (Some x) ea h z f = refl
      at c None false h z f = tt
      at c None true h None f = tt
      at c None true h (Some z) f =
          rw (into_none b k c (false_from_ne_true _
          (λ y. away c (or_right _ _ (and_from _ _ h f)) (or_left _ _ y)))) refl

  -- the second of two choices is read
  pub second_extends : (a b : Grammar C N L) (k : List (Grammar C N L))
      → Apart (begins a (starts k)) (begins b (starts k)) → (is_nullable a ≡ true → is_nullable b ≡ true → ⊥)
      → Extends [] (b ∷ k) (Either a b ∷ k)
  second_extends a b k away once = record {
    ending = λ e.
        let x = and_parts _ _ e in ending (is_nullable a) (is_nullable b) (closing k) (λ h. once h x.0) x.0 x.1;
    steps = λ c. at c (into rules b k c) (into_begins b k c) (is_nullable a) (is_nullable b) refl refl (step rules k c)
        (step_starts k c);
  }
    where
      ending : (ea eb : Bool) (end : List (Event C L)) → (ea ≡ true → ⊥) → eb ≡ true → ends k ≡ true
          → (((ea || eb) && ends k) ≡ true)
          × (((if ea then marks_of_nothing a else marks_of_nothing b) ++ end) ≡ marks_of_nothing b ++ end)
      ending true eb end f h e = absurd (f refl)
      ending false eb end f h e = (and_from _ _ h e, refl)

      at : (c : C) (y : Transition C N L) → IfSome y (λ taken. may_begin b c ≡ true) → (ea eb : Bool)
          → is_nullable a ≡ ea → is_nullable b ≡ eb → (z : Transition C N L)
          → IfSome z (λ taken. starts k c ≡ true)
          → IfSome (or_else y (only eb (prepend_events (marks_of_nothing b) z)))
          (λ taken. or_else (or_else (into rules a k c) y)
          (only (ea || eb) (prepend_events (if ea then marks_of_nothing a else marks_of_nothing b) z))
          ≡ Some (taken.0, taken.1))
      at c (Some y) g ea eb h i z f =
          rw (into_none a k c (false_from_ne_true _ (λ x. away c (or_left _ _ x) (or_left _ _ g)))) refl
      at c None g ea false h i z f = tt
      at c None g ea true h i None f = tt
      at c None g true true h i (Some z) f = absurd (once h i)
      at c None g false true h i (Some z) f =
          rw (into_none a k c (false_from_ne_true _
          (λ x. away c (or_left _ _ x) (or_right _ _ (and_from _ _ i f))))) refl

  -- a grammar does what another one does, if both have the same steps into them
  pub enter_extends : (a g : Grammar C N L) (j k : List (Grammar C N L)) → is_nullable a ≡ false
      → ((c : C) → into rules a j c ≡ into rules g k c)
      → Extends [] (a ∷ j) (g ∷ k)
  enter_extends a g j k h same = record {
    ending = λ e. absurd (both_ways _ h (and_parts _ _ e).0);
    steps = λ c. at c (into rules a j c) (into rules g k c) (same c) (is_nullable a) h;
  }
    where
      at : (c : C) (x y : Transition C N L) → x ≡ y → (ea : Bool) → ea ≡ false
          → IfSome (or_else x (only ea (prepend_events (marks_of_nothing a) (step rules j c))))
          (λ taken. or_else y (only (is_nullable g) (prepend_events (marks_of_nothing g) (step rules k c)))
          ≡ Some (taken.0, taken.1))
      at c None y e true h = absurd (both_ways _ h refl)
      at c None y e false h = tt
      at c (Some x) y e ea h = rw (← e) refl

  pub further_into : (a s : Grammar C N L) (k : List (Grammar C N L)) (c : C) → is_nullable s ≡ false
      → into rules s (Listed a s ∷ k) c ≡ into rules (further a s) k c
  further_into a s k c h = go (into rules s (Listed a s ∷ k) c) (is_nullable s) h
    where
      go : (x : Transition C N L) (es : Bool) → es ≡ false
          → x ≡ or_else (or_else x (only es (prepend_events (marks_of_nothing s) (into rules (Listed a s) k c)))) None
      go (Some x) es h = refl
      go None true h = absurd (both_ways _ h refl)
      go None false h = refl
