-- What each constructor of `Grammar` finds.
use Rattle.std.proofs.Common.{◌≡◌, refl, sym, ◌∙◌, ap, Bool, true, false, ◌&&◌, List, [], ◌∷◌}
use Rattle.std.proofs.Common.{◌++◌, Some, None, append_assoc, if◌then◌else◌}
use Rattle.grammars.specs.Grammar.{Grammar, Nothing, Sign, To, Mark, Then, Either, Many, Listed, Event, One}
use Rattle.grammars.specs.Grammar.{further}
use Rattle.grammars.specs.Machine.{is_nullable, marks_of_nothing, Transition, or_else, prepend_events, only, into, step}
use Rattle.grammars.specs.Machine.{ends, closing}
use Rattle.grammars.specs.Find.{Found, Past, Stuck, front, and_then, scan}

abbrev pub plus : {C N L : Type 0} → List (Grammar C N L) → Transition C N L → Transition C N L
plus k None = None
plus k (Some t) = Some (t.0, t.1 ++ k)

plus_or : {C N L : Type 0} (k : List (Grammar C N L)) (x y : Transition C N L)
    → plus k (or_else x y) ≡ or_else (plus k x) (plus k y)
plus_or k None y = refl
plus_or k (Some x) y = refl

plus_only : {C N L : Type 0} (k : List (Grammar C N L)) (b : Bool) (events : List (Event C L)) (x : Transition C N L)
    → plus k (only b (prepend_events events x)) ≡ only b (prepend_events events (plus k x))
plus_only k true events None = refl
plus_only k true events (Some x) = refl
plus_only k false events x = refl

pub front_front : {C L : Type 0} (a b : List (Event C L)) (f : Found C L) → front a (front b f) ≡ front (a ++ b) f
front_front a b (Past e r) = ap (λ x. Past x r) (sym (append_assoc a b e))
front_front a b (Stuck l) = refl

and_front : {C L : Type 0} (a : List (Event C L)) (x : Found C L) (f : List C → Found C L)
    → front a (and_then x f) ≡ and_then (front a x) f
and_front a (Past e r) f = front_front a e (f r)
and_front a (Stuck l) f = refl

module _ {C N L : Type 0} (rules : N → Grammar C N L) where
  pub into_append : (g : Grammar C N L) (j k : List (Grammar C N L)) (c : C)
      → into rules g (j ++ k) c ≡ plus k (into rules g j c)
  into_append Nothing j k c = refl
  into_append (Sign passes) j k c = go (passes c)
    where
      go : (b : Bool) → only b (Some (One c ∷ [], j ++ k)) ≡ plus k (only b (Some (One c ∷ [], j)))
      go true = refl
      go false = refl
  into_append (To passes n) j k c = go (passes c)
    where
      go : (b : Bool)
          → only b (Some (One c ∷ [], rules n ∷ (j ++ k))) ≡ plus k (only b (Some (One c ∷ [], rules n ∷ j)))
      go true = refl
      go false = refl
  into_append (Mark l) j k c = refl
  into_append (Then a b) j k c =
      rw (
        plus_or k (into rules a (b ∷ j) c) _,
        plus_only k (is_nullable a) (marks_of_nothing a) (into rules b j c),
        into_append a (b ∷ j) k c,
        into_append b j k c,
      ) refl
  into_append (Either a b) j k c =
      rw (plus_or k (into rules a j c) _, into_append a j k c, into_append b j k c) refl
  into_append (Many a) j k c = into_append a (Many a ∷ j) k c
  into_append (Listed a s) j k c = into_append a (further a s ∷ j) k c

  pub step_append : (r k : List (Grammar C N L)) (c : C)
      → step rules (r ++ k) c ≡ or_else (plus k (step rules r c))
      (only (ends r) (prepend_events (closing r) (step rules k c)))
  step_append [] k c = go (step rules k c)
    where
      go : (z : Transition C N L) → z ≡ prepend_events [] z
      go None = refl
      go (Some z) = refl
  step_append (g ∷ r) k c =
      rw (into_append g r k c, step_append r k c)
      (same (into rules g r c) (step rules r c) (step rules k c) (is_nullable g) (ends r) (marks_of_nothing g)
      (closing r))
    where
      same : (x y z : Transition C N L) (e f : Bool) (s t : List (Event C L))
          → or_else (plus k x) (only e (prepend_events s (or_else (plus k y) (only f (prepend_events t z)))))
          ≡ or_else (plus k (or_else x (only e (prepend_events s y)))) (only (e && f) (prepend_events (s ++ t) z))
      same (Some x) y z e f s t = refl
      same None y z false f s t = refl
      same None (Some y) z true f s t = refl
      same None None z true false s t = refl
      same None None None true true s t = refl
      same None None (Some z) true true s t = ap (λ e. Some (e, z.1)) (sym (append_assoc s t z.0))

  pub ends_append : (r k : List (Grammar C N L)) → ends (r ++ k) ≡ (ends r && ends k)
  ends_append [] k = refl
  ends_append (g ∷ r) k = ap (λ x. is_nullable g && x) (ends_append r k) ∙ go (is_nullable g) (ends r) (ends k)
    where
      go : (x y z : Bool) → (x && (y && z)) ≡ ((x && y) && z)
      go true y z = refl
      go false y z = refl

  closing_append : (r k : List (Grammar C N L)) → closing (r ++ k) ≡ closing r ++ closing k
  closing_append [] k = refl
  closing_append (g ∷ r) k =
      ap (λ x. marks_of_nothing g ++ x) (closing_append r k)
      ∙ sym (append_assoc (marks_of_nothing g) (closing r) (closing k))

  pub scan_step : (k : List (Grammar C N L)) (c : C) (signs : List C) (s : Transition C N L) → step rules k c ≡ s
      → scan rules k (c ∷ signs)
      ≡ elim s as (λ x. Found C L) [
        | None ↦ if ends k then Past (closing k) (c ∷ signs) else Stuck (c ∷ signs)
        | Some taken ↦ front taken.0 (scan rules taken.1 signs)
      ]
  scan_step k c signs s e =
      ap (λ s. elim s as (λ x. Found C L) [
        | None ↦ if ends k then Past (closing k) (c ∷ signs) else Stuck (c ∷ signs)
        | Some taken ↦ front taken.0 (scan rules taken.1 signs)
      ]) e

  -- if the signs may end at the first stack, the second reads what follows; otherwise there is an error
  at_end : (r k : List (Grammar C N L)) (signs : List C) (e : Bool) → ends r ≡ e
      → (ends r ≡ true → scan rules (r ++ k) signs ≡ front (closing r) (scan rules k signs))
      → (ends r ≡ false → scan rules (r ++ k) signs ≡ Stuck signs)
      → scan rules (r ++ k) signs ≡ and_then (if e then Past (closing r) signs else Stuck signs) (scan rules k)
  at_end r k signs true h f g = f h
  at_end r k signs false h f g = g h

  pub scan_append : (r k : List (Grammar C N L)) (signs : List C)
      → scan rules (r ++ k) signs ≡ and_then (scan rules r signs) (scan rules k)
  scan_append r k [] = at_end r k [] (ends r) refl (λ e. yes e (ends k)) none
    where
      yes : ends r ≡ true → (b : Bool)
          → (if ends (r ++ k) then Past (closing (r ++ k)) [] else Stuck [])
          ≡ front (closing r) (if ends k then Past (closing k) [] else Stuck [])
      yes e b = rw (ends_append r k, closing_append r k, e) (go (ends k))
        where
          go : (b : Bool)
              → (if b then Past (closing r ++ closing k) [] else Stuck [])
              ≡ front (closing r) (if b then Past (closing k) [] else Stuck [])
          go true = refl
          go false = refl

      none : ends r ≡ false → (if ends (r ++ k) then Past (closing (r ++ k)) [] else Stuck []) ≡ Stuck []
      none e = rw (ends_append r k, e) refl
  scan_append r k (c ∷ signs) = go (step rules r c) refl (λ j. scan_append j k signs)
    where
      stop : ends r ≡ false → step rules r c ≡ None → scan rules (r ++ k) (c ∷ signs) ≡ Stuck (c ∷ signs)
      stop e h =
          scan_step (r ++ k) c signs None (rw (step_append r k c, h, e) refl) ∙ rw (ends_append r k, e) refl

      over : ends r ≡ true → step rules r c ≡ None
          → (z : Transition C N L) → step rules k c ≡ z
          → scan rules (r ++ k) (c ∷ signs) ≡ front (closing r) (scan rules k (c ∷ signs))
      over e h None i =
          scan_step (r ++ k) c signs None (rw (step_append r k c, h, e, i) refl)
          ∙ (rw (ends_append r k, closing_append r k, e) (two (ends k)) ∙ ap (front (closing r))
          (sym (scan_step k c signs None i)))
        where
          two : (b : Bool)
              → (if b then Past (closing r ++ closing k) (c ∷ signs) else Stuck (c ∷ signs))
              ≡ front (closing r) (if b then Past (closing k) (c ∷ signs) else Stuck (c ∷ signs))
          two true = refl
          two false = refl
      over e h (Some z) i =
          scan_step (r ++ k) c signs (Some (closing r ++ z.0, z.1)) (rw (step_append r k c, h, e, i) refl)
          ∙ (sym (front_front (closing r) z.0 (scan rules z.1 signs))
          ∙ ap (front (closing r)) (sym (scan_step k c signs (Some z) i)))

      go : (s : Transition C N L) → step rules r c ≡ s
          → ((j : List (Grammar C N L)) → scan rules (j ++ k) signs ≡ and_then (scan rules j signs) (scan rules k))
          → scan rules (r ++ k) (c ∷ signs) ≡ and_then (elim s as (λ x. Found C L) [
            | None ↦ if ends r then Past (closing r) (c ∷ signs) else Stuck (c ∷ signs)
            | Some taken ↦ front taken.0 (scan rules taken.1 signs)
          ]) (scan rules k)
      go None h f = at_end r k (c ∷ signs) (ends r) refl (λ e. over e h (step rules k c) refl) (λ e. stop e h)
      go (Some t) h f =
          scan_step (r ++ k) c signs (Some (t.0, t.1 ++ k)) (rw (step_append r k c, h) refl)
          ∙ (ap (front t.0) (f t.1) ∙ and_front t.0 (scan rules t.1 signs) (scan rules k))
