-- What each constructor of `Grammar` finds.
use Rattle.std.proofs.Common.{◌≡◌, refl, sym, ◌∙◌, ap, Bool, true, false, ◌&&◌, ◌||◌, List, [], ◌∷◌}
use Rattle.std.proofs.Common.{◌++◌, Option, Some, None, append_assoc, append-nil, if◌then◌else◌}
use Rattle.std.proofs.lemmas.Bool.{both_ways}
use Rattle.grammars.specs.Grammar.{Grammar, Nothing, Sign, To, Mark, Then, Either, Many, Listed, Event, One, Marked}
use Rattle.grammars.specs.Grammar.{further}
use Rattle.grammars.specs.Machine.{is_nullable, marks_of_nothing, Transition, or_else, prepend_events, only, into, step}
use Rattle.grammars.specs.Machine.{ends, closing}
use Rattle.grammars.specs.First.{may_begin, heads}
use Rattle.grammars.specs.Find.{Past, Stuck, front, and_then, scan, find}
use Rattle.grammars.proofs.StepLemmas.{into_none}
use Rattle.grammars.proofs.FindLemmas.{scan_append, scan_step}

abbrev is_some : {T : Type 0} → Option T → Bool
is_some None = false
is_some (Some x) = true

some_or : {T : Type 0} (x y : Option T) → is_some (or_else x y) ≡ (is_some x || is_some y)
some_or None y = refl
some_or (Some x) y = refl

some_only : {C N L : Type 0} (b : Bool) (e : List (Event C L)) (x : Transition C N L)
    → is_some (only b (prepend_events e x)) ≡ (b && is_some x)
some_only true e None = refl
some_only true e (Some x) = refl
some_only false e x = refl

some_test : {T : Type 0} (b : Bool) (x : T) → is_some (only b (Some x)) ≡ b
some_test true x = refl
some_test false x = refl

module _ {C N L : Type 0} (rules : N → Grammar C N L) where
  into_is : (g : Grammar C N L) (k : List (Grammar C N L)) (c : C) → is_some (into rules g k c) ≡ may_begin g c
  into_is Nothing k c = refl
  into_is (Sign passes) k c = some_test (passes c) _
  into_is (To passes n) k c = some_test (passes c) _
  into_is (Mark l) k c = refl
  into_is (Then a b) k c =
      some_or (into rules a (b ∷ k) c) _
      ∙ rw (some_only (is_nullable a) (marks_of_nothing a) (into rules b k c), into_is a (b ∷ k) c, into_is b k c) refl
  into_is (Either a b) k c = some_or (into rules a k c) _ ∙ rw (into_is a k c, into_is b k c) refl
  into_is (Many a) k c = into_is a (Many a ∷ k) c
  into_is (Listed a s) k c = into_is a (further a s ∷ k) c

  some_is : {T : Type 0} (x : Option T) → is_some x ≡ true → (v : T) × (x ≡ Some v)
  some_is None h = absurd (both_ways _ refl h)
  some_is (Some v) h = (v, refl)

  -- if a grammar begins with a sign, there is a step into it
  pub into_some : (g : Grammar C N L) (k : List (Grammar C N L)) (c : C) → may_begin g c ≡ true
      → (t : List (Event C L) × List (Grammar C N L)) × (into rules g k c ≡ Some t)
  into_some g k c h = some_is (into rules g k c) (into_is g k c ∙ h)

  taken : (j k : List (Grammar C N L)) (c : C) (signs : List C) (t : List (Event C L) × List (Grammar C N L))
      → step rules j c ≡ Some t → step rules k c ≡ Some t
      → scan rules j (c ∷ signs) ≡ scan rules k (c ∷ signs)
  taken j k c signs t e f = scan_step rules j c signs (Some t) e ∙ sym (scan_step rules k c signs (Some t) f)

  -- ---- a grammar that does not begin with the first sign

  pub find_lacks : (g : Grammar C N L) (signs : List C) → heads g signs ≡ false → is_nullable g ≡ false
      → find rules g signs ≡ Stuck signs
  unfolding find
  find_lacks g [] h e = rw e refl
  find_lacks g (c ∷ signs) h e =
      scan_step rules (g ∷ []) c signs None (rw (into_none rules g [] c h, e) refl) ∙ rw e refl

  pub find_skips : (g : Grammar C N L) (signs : List C) → heads g signs ≡ false → is_nullable g ≡ true
      → find rules g signs ≡ Past (marks_of_nothing g) signs
  unfolding find
  find_skips g [] h e = rw e (ap (λ x. Past x []) (append-nil (marks_of_nothing g)))
  find_skips g (c ∷ signs) h e =
      scan_step rules (g ∷ []) c signs None (rw (into_none rules g [] c h, e) refl)
      ∙ rw e (ap (λ x. Past x (c ∷ signs)) (append-nil (marks_of_nothing g)))

  -- ---- constructor by constructor

  pub find_nothing : (signs : List C) → find rules Nothing signs ≡ Past [] signs
  find_nothing [] = find_skips Nothing [] refl refl
  find_nothing (c ∷ signs) = find_skips Nothing (c ∷ signs) refl refl

  pub find_mark : (l : L) (signs : List C) → find rules (Mark l) signs ≡ Past (Marked l ∷ []) signs
  find_mark l [] = find_skips (Mark l) [] refl refl
  find_mark l (c ∷ signs) = find_skips (Mark l) (c ∷ signs) refl refl

  pub find_sign : (passes : C → Bool) (c : C) (signs : List C) → passes c ≡ true
      → find rules (Sign passes) (c ∷ signs) ≡ Past (One c ∷ []) signs
  unfolding find
  find_sign passes c signs h =
      scan_step rules (Sign passes ∷ []) c signs (Some (One c ∷ [], [])) (rw h refl) ∙ here signs
    where
      here : (signs : List C) → front (One c ∷ []) (scan rules [] signs) ≡ Past (One c ∷ []) signs
      here [] = refl
      here (d ∷ signs) = refl

  pub find_to : (passes : C → Bool) (n : N) (c : C) (signs : List C) → passes c ≡ true
      → find rules (To passes n) (c ∷ signs) ≡ front (One c ∷ []) (find rules (rules n) signs)
  unfolding find
  find_to passes n c signs h =
      scan_step rules (To passes n ∷ []) c signs (Some (One c ∷ [], rules n ∷ [])) (rw h refl)

  then_step : (a b : Grammar C N L) (c : C) → step rules (Then a b ∷ []) c ≡ step rules (a ∷ b ∷ []) c
  then_step a b c = go (into rules a (b ∷ []) c) (into rules b [] c) (is_nullable a) (is_nullable b)
      (marks_of_nothing a)
      (marks_of_nothing b)
    where
      go : (x y : Transition C N L) (ea eb : Bool) (sa sb : List (Event C L))
          → or_else (or_else x (only ea (prepend_events sa y))) (only (ea && eb) None)
          ≡ or_else x (only ea (prepend_events sa (or_else y (only eb None))))
      go (Some x) y ea eb sa sb = refl
      go None y false eb sa sb = refl
      go None (Some y) true eb sa sb = refl
      go None None true true sa sb = refl
      go None None true false sa sb = refl

  pub find_then : (a b : Grammar C N L) (signs : List C)
      → find rules (Then a b) signs ≡ and_then (find rules a signs) (find rules b)
  unfolding find
  find_then a b signs = split signs ∙ scan_append rules (a ∷ []) (b ∷ []) signs
    where
      ending : (w : List C)
          → (if ends (Then a b ∷ []) then Past (closing (Then a b ∷ [])) w else Stuck w)
          ≡ (if ends (a ∷ b ∷ []) then Past (closing (a ∷ b ∷ [])) w else Stuck w)
      ending w =
          rw (append_assoc (marks_of_nothing a) (marks_of_nothing b) []) (go (is_nullable a) (is_nullable b))
        where
          go : (x y : Bool)
              → (if (x && y) && true then Past (marks_of_nothing a ++ (marks_of_nothing b ++ [])) w else Stuck w)
              ≡ (if x && (y && true) then Past (marks_of_nothing a ++ (marks_of_nothing b ++ [])) w else Stuck w)
          go true y = refl
          go false y = refl

      split : (signs : List C) → scan rules (Then a b ∷ []) signs ≡ scan rules (a ∷ b ∷ []) signs
      split [] = ending []
      split (c ∷ signs) = at (step rules (a ∷ b ∷ []) c) refl
        where
          at : (s : Transition C N L) → step rules (a ∷ b ∷ []) c ≡ s
              → scan rules (Then a b ∷ []) (c ∷ signs) ≡ scan rules (a ∷ b ∷ []) (c ∷ signs)
          at None e =
              scan_step rules (Then a b ∷ []) c signs None (then_step a b c ∙ e)
              ∙ (ending (c ∷ signs) ∙ sym (scan_step rules (a ∷ b ∷ []) c signs None e))
          at (Some t) e = taken (Then a b ∷ []) (a ∷ b ∷ []) c signs t (then_step a b c ∙ e) e

  pub find_first : (a b : Grammar C N L) (signs : List C) → heads a signs ≡ true
      → find rules (Either a b) signs ≡ find rules a signs
  unfolding find
  find_first a b [] h = absurd (both_ways _ refl h)
  find_first a b (c ∷ signs) h =
      let t = into_some a [] c h in
      taken (Either a b ∷ []) (a ∷ []) c signs t.0 (rw t.1 refl) (rw t.1 refl)

  pub find_second : (a b : Grammar C N L) (signs : List C) → heads a signs ≡ false → heads b signs ≡ true
      → find rules (Either a b) signs ≡ find rules b signs
  unfolding find
  find_second a b [] g h = absurd (both_ways _ refl h)
  find_second a b (c ∷ signs) g h =
      let t = into_some b [] c h in
      taken (Either a b ∷ []) (b ∷ []) c signs t.0 (rw (into_none rules a [] c g, t.1) refl) (rw t.1 refl)

  pub find_more : (a : Grammar C N L) (signs : List C) → heads a signs ≡ true
      → find rules (Many a) signs ≡ and_then (find rules a signs) (find rules (Many a))
  unfolding find
  find_more a [] h = absurd (both_ways _ refl h)
  find_more a (c ∷ signs) h =
      let t = into_some a (Many a ∷ []) c h in
      taken (Many a ∷ []) (a ∷ Many a ∷ []) c signs t.0 (rw t.1 refl) (rw t.1 refl)
      ∙ scan_append rules (a ∷ []) (Many a ∷ []) (c ∷ signs)

  pub find_element : (a s : Grammar C N L) (signs : List C) → heads a signs ≡ true
      → find rules (Listed a s) signs ≡ and_then (find rules a signs) (find rules (further a s))
  unfolding find
  find_element a s [] h = absurd (both_ways _ refl h)
  find_element a s (c ∷ signs) h =
      let t = into_some a (further a s ∷ []) c h in
      taken (Listed a s ∷ []) (a ∷ further a s ∷ []) c signs t.0 (rw t.1 refl) (rw t.1 refl)
      ∙ scan_append rules (a ∷ []) (further a s ∷ []) (c ∷ signs)

  -- the second of two choices is found if the first does not begin with the first sign and must derive a sign
  pub find_other : (a b : Grammar C N L) (signs : List C) → heads a signs ≡ false → is_nullable a ≡ false
      → find rules (Either a b) signs ≡ find rules b signs
  find_other a b signs h e = go (heads b signs) refl (is_nullable b) refl
    where
      none : (w : List C) → heads a w ≡ false → heads b w ≡ false → heads (Either a b) w ≡ false
      none [] i j = refl
      none (c ∷ w) i j = rw (i, j) refl

      go : (x : Bool) → heads b signs ≡ x → (y : Bool) → is_nullable b ≡ y
          → find rules (Either a b) signs ≡ find rules b signs
      go true i y j = find_second a b signs h i
      go false i true j =
          find_skips (Either a b) signs (none signs h i) (rw (e, j) refl)
          ∙ (rw e refl ∙ sym (find_skips b signs i j))
      go false i false j =
          find_lacks (Either a b) signs (none signs h i) (rw (e, j) refl) ∙ sym (find_lacks b signs i j)
