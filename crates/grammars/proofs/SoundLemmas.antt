-- The grammar derives everything that the machine reads.
use Rattle.std.proofs.Common.{◌≡◌, refl, sym, ◌∙◌, ap, subst, Bool, true, false, List, [], ◌∷◌, ◌++◌, Option}
use Rattle.std.proofs.Common.{Some, None, IfSome, append_assoc, append-nil, if◌then◌else◌}
use Rattle.std.proofs.Common.{inl, inr}
use Rattle.std.proofs.lemmas.Bool.{both_ways, and_parts, or_cases}
use Rattle.grammars.specs.Grammar.{Grammar, Nothing, Sign, To, Mark, Then, Either, Many, Listed, Event, One, Marked}
use Rattle.grammars.specs.Grammar.{Derives, nothing, sign, to, mark, both, first, second, none, more, empty, last}
use Rattle.grammars.specs.Grammar.{element, further, signs_of, Reads}
use Rattle.grammars.specs.Machine.{is_nullable, marks_of_nothing, Transition, or_else, prepend_events, only, into, step}
use Rattle.grammars.specs.Machine.{ends, closing}
use Rattle.grammars.specs.Machine.{ahead, run}

-- ---- optional values

pub or_holds : {T : Type 0} (P : T → Type 0) (x y : Option T) → IfSome x P → IfSome y P → IfSome (or_else x y) P
or_holds P None y hx hy = hy
or_holds P (Some v) y hx hy = hx

pub only_holds : {T : Type 0} (P : T → Type 0) (b : Bool) (x : Option T) → (b ≡ true → IfSome x P)
    → IfSome (only b x) P
only_holds P true x h = h refl
only_holds P false x h = tt

pub signs_append : {C L : Type 0} (front back : List (Event C L))
    → signs_of (front ++ back) ≡ signs_of front ++ signs_of back
signs_append [] back = refl
signs_append (One c ∷ front) back = ap (λ x. c ∷ x) (signs_append front back)
signs_append (Marked l ∷ front) back = signs_append front back

module _ {C N L : Type 0} (rules : N → Grammar C N L) where
  -- ---- what each constructor derives

  pub reads_both : (a b : Grammar C N L) (k : List (Grammar C N L)) (events : List (Event C L))
      → Reads rules (a ∷ b ∷ k) events → Reads rules (Then a b ∷ k) events
  reads_both a b k events r =
      let s = r.4 in
      (r.0 ++ s.0, s.1, r.2 ∙ (ap (λ x. r.0 ++ x) s.2 ∙ sym (append_assoc r.0 s.0 s.1)), both r.3 s.3, s.4)

  pub reads_first : (a b : Grammar C N L) (k : List (Grammar C N L)) (events : List (Event C L))
      → Reads rules (a ∷ k) events → Reads rules (Either a b ∷ k) events
  reads_first a b k events r = (r.0, r.1, r.2, first r.3, r.4)

  pub reads_second : (a b : Grammar C N L) (k : List (Grammar C N L)) (events : List (Event C L))
      → Reads rules (b ∷ k) events → Reads rules (Either a b ∷ k) events
  reads_second a b k events r = (r.0, r.1, r.2, second r.3, r.4)

  pub reads_more : (a : Grammar C N L) (k : List (Grammar C N L)) (events : List (Event C L))
      → Reads rules (a ∷ Many a ∷ k) events → Reads rules (Many a ∷ k) events
  reads_more a k events r =
      let s = r.4 in
      (r.0 ++ s.0, s.1, r.2 ∙ (ap (λ x. r.0 ++ x) s.2 ∙ sym (append_assoc r.0 s.0 s.1)), more r.3 s.3, s.4)

  list_of : (a s : Grammar C N L) (front back : List (Event C L)) → Derives rules a front
      → Derives rules (further a s) back
      → Derives rules (Listed a s) (front ++ back)
  list_of a s front _ da (first (both ds dl)) = element da ds dl
  list_of a s front _ da (second nothing) = subst (λ x. Derives rules (Listed a s) x) (sym (append-nil front)) (last da)

  pub reads_listed : (a s : Grammar C N L) (k : List (Grammar C N L)) (events : List (Event C L))
      → Reads rules (a ∷ further a s ∷ k) events → Reads rules (Listed a s ∷ k) events
  reads_listed a s k events r =
      let q = r.4 in (
        r.0 ++ q.0,
        q.1,
        r.2 ∙ (ap (λ x. r.0 ++ x) q.2 ∙ sym (append_assoc r.0 q.0 q.1)),
        list_of a s r.0 q.0 r.3 q.3,
        q.4,
      )

  pub skips : (g : Grammar C N L) → is_nullable g ≡ true → Derives rules g (marks_of_nothing g)
  skips Nothing h = nothing
  skips (Sign passes) h = absurd (both_ways _ refl h)
  skips (To passes n) h = absurd (both_ways _ refl h)
  skips (Mark l) h = mark l
  skips (Then a b) h = both (skips a (and_parts _ _ h).0) (skips b (and_parts _ _ h).1)
  skips (Either a b) h = go (is_nullable a) refl (skips a) (skips b)
    where
      go : (e : Bool) → is_nullable a ≡ e → (is_nullable a ≡ true → Derives rules a (marks_of_nothing a))
          → (is_nullable b ≡ true → Derives rules b (marks_of_nothing b))
          → Derives rules (Either a b) (if e then marks_of_nothing a else marks_of_nothing b)
      go true e f g = first (f e)
      go false e f g = second (g (elim (or_cases _ _ h) [ inl x ↦ absurd (both_ways _ e x) | inr y ↦ y ]))
  skips (Many a) h = none
  skips (Listed a s) h = empty

  -- ---- steps

  -- whether the events of the step have exactly this sign, and what is read after the step is read from `k` with these
  -- events before it
  abbrev pub Taken : List (Grammar C N L) → C → List (Event C L) × List (Grammar C N L) → Type 0
  Taken k c taken =
      (signs_of taken.0 ≡ c ∷ [])
      × ((events : List (Event C L)) → Reads rules taken.1 events → Reads rules k (taken.0 ++ events))

  taken_with_events : (g : Grammar C N L) (k : List (Grammar C N L)) (c : C) → is_nullable g ≡ true
      → (x : Transition C N L) → IfSome x (Taken k c)
      → signs_of (marks_of_nothing g) ≡ []
      → IfSome (prepend_events (marks_of_nothing g) x) (Taken (g ∷ k) c)
  taken_with_events g k c h None t e = tt
  taken_with_events g k c h (Some x) t e = (
    signs_append (marks_of_nothing g) x.0 ∙ (ap (λ y. y ++ signs_of x.0) e ∙ t.0),
    λ events r. (
      marks_of_nothing g,
      x.0
          ++ events,
      append_assoc (marks_of_nothing g) x.0 events,
      skips g h,
      t.1 events r,
    ),
  )

  pub skipped_signs : (g : Grammar C N L) → signs_of (marks_of_nothing g) ≡ []
  skipped_signs Nothing = refl
  skipped_signs (Sign passes) = refl
  skipped_signs (To passes n) = refl
  skipped_signs (Mark l) = refl
  skipped_signs (Then a b) =
      signs_append (marks_of_nothing a) (marks_of_nothing b)
      ∙ (ap (λ x. x ++ signs_of (marks_of_nothing b)) (skipped_signs a) ∙ skipped_signs b)
  skipped_signs (Either a b) = go (is_nullable a) (skipped_signs a) (skipped_signs b)
    where
      go : (e : Bool) → signs_of (marks_of_nothing a) ≡ [] → signs_of (marks_of_nothing b) ≡ []
          → signs_of (if e then marks_of_nothing a else marks_of_nothing b) ≡ []
      go true f g = f
      go false f g = g
  skipped_signs (Many a) = refl
  skipped_signs (Listed a s) = refl

  taken_map : (k k2 : List (Grammar C N L)) (c : C)
      → ((events : List (Event C L)) → Reads rules k events → Reads rules k2 events) → (x : Transition C N L)
      → IfSome x (Taken k c)
      → IfSome x (Taken k2 c)
  taken_map k k2 c f None t = tt
  taken_map k k2 c f (Some x) t = (t.0, λ events r. f _ (t.1 events r))

  pub into_sound : (g : Grammar C N L) (k : List (Grammar C N L)) (c : C)
      → IfSome (into rules g k c) (Taken (g ∷ k) c)
  into_sound Nothing k c = tt
  into_sound (Sign passes) k c =
      only_holds _ (passes c) _ (λ h. (refl, λ events r. (One c ∷ [], events, refl, sign c h, r)))
  into_sound (To passes n) k c =
      only_holds _ (passes c) _
      (λ h. (refl, λ events r. (One c ∷ r.0, r.1, ap (λ x. One c ∷ x) r.2, to c h r.3, r.4)))
  into_sound (Mark l) k c = tt
  into_sound (Then a b) k c =
      or_holds _ (into rules a (b ∷ k) c) _
      (taken_map (a ∷ b ∷ k) (Then a b ∷ k) c (reads_both a b k) _ (into_sound a (b ∷ k) c))
      (only_holds _ (is_nullable a) _
      (λ h. taken_map (a ∷ b ∷ k) (Then a b ∷ k) c (reads_both a b k) _
      (taken_with_events a (b ∷ k) c h _ (into_sound b k c) (skipped_signs a))))
  into_sound (Either a b) k c =
      or_holds _ (into rules a k c) _
      (taken_map (a ∷ k) (Either a b ∷ k) c (reads_first a b k) _ (into_sound a k c))
      (taken_map (b ∷ k) (Either a b ∷ k) c (reads_second a b k) _ (into_sound b k c))
  into_sound (Many a) k c =
      taken_map (a ∷ Many a ∷ k) (Many a ∷ k) c (reads_more a k) _ (into_sound a (Many a ∷ k) c)
  into_sound (Listed a s) k c =
      taken_map (a ∷ further a s ∷ k) (Listed a s ∷ k) c (reads_listed a s k) _ (into_sound a (further a s ∷ k) c)

  pub step_sound : (k : List (Grammar C N L)) (c : C) → IfSome (step rules k c) (Taken k c)
  step_sound [] c = tt
  step_sound (g ∷ k) c =
      or_holds _ (into rules g k c) _ (into_sound g k c)
      (only_holds _ (is_nullable g) _ (λ h. taken_with_events g k c h _ (step_sound k c) (skipped_signs g)))

  -- ---- ends

  pub ends_sound : (k : List (Grammar C N L)) → ends k ≡ true → Reads rules k (closing k) × (signs_of (closing k) ≡ [])
  ends_sound [] h = (refl, refl)
  ends_sound (g ∷ k) h =
      let parts = and_parts _ _ h in
      let more = ends_sound k parts.1 in (
        (marks_of_nothing g, closing k, refl, skips g parts.0, more.0),
        signs_append (marks_of_nothing g) (closing k)
            ∙ (ap (λ x. x ++ signs_of (closing k)) (skipped_signs g) ∙ more.1),
      )

  -- whether the grammars read these events, and the events have exactly these signs
  abbrev pub ReadsOf : List (Grammar C N L) → List C → List (Event C L) → Type 0
  ReadsOf k signs events = Reads rules k events × (signs_of events ≡ signs)

  pub run_sound : (k : List (Grammar C N L)) (signs : List C) → IfSome (run rules k signs) (ReadsOf k signs)
  run_sound k [] = only_holds _ (ends k) _ (λ h. ends_sound k h)
  run_sound k (c ∷ signs) = go (step rules k c) (step_sound k c) (λ j. run_sound j signs)
    where
      with_more : (x : List (Event C L) × List (Grammar C N L)) → Taken k c x → (y : Option (List (Event C L)))
          → IfSome y (ReadsOf x.1 signs)
          → IfSome (ahead x.0 y) (ReadsOf k (c ∷ signs))
      with_more x t None r = tt
      with_more x t (Some after) r =
          (t.1 after r.0, signs_append x.0 after ∙ (ap (λ y. y ++ signs_of after) t.0 ∙ ap (λ y. c ∷ y) r.1))

      go : (x : Transition C N L) → IfSome x (Taken k c)
          → ((j : List (Grammar C N L)) → IfSome (run rules j signs) (ReadsOf j signs))
          → IfSome (elim x as (λ y. Option (List (Event C L))) [
            | None ↦ None
            | Some taken ↦ ahead taken.0 (run rules taken.1 signs)
          ]) (ReadsOf k (c ∷ signs))
      go None t f = tt
      go (Some x) t f = with_more x t (run rules x.1 signs) (f x.1)
