-- Where the machine stops, for two stacks one after the other and for each word of grammars.
use Rattle.std.proofs.Common.{◌≡◌, refl, sym, ◌∙◌, ap, subst, ℕ, ◌≤◌, ◌<◌, Bool, true, false, ◌&&◌, ◌||◌, List, [], ◌∷◌}
use Rattle.std.proofs.Common.{◌++◌, Option, Some, None, is_some, length, arith}
use Rattle.std.proofs.lemmas.Bool.{both_ways}
use Rattle.grammars.specs.First.{may_begin, starts}
use Rattle.grammars.specs.Grammar.{Grammar, Nothing, Sign, To, Mark, Then, Either, Many, Listed, Event, One, further}
use Rattle.grammars.specs.Machine.{Transition, closing, ends, into, is_nullable, marks_of_nothing, only, or_else}
use Rattle.grammars.specs.Machine.{prepend_events, step, walk}
use Rattle.grammars.specs.Next.{IsNext, Sees, may_end, may_follow, stop}
use Rattle.grammars.proofs.FindLemmas.{ends_append, plus, into_append, step_append}
use Rattle.grammars.proofs.NextLemmas.{step_is}
use Rattle.grammars.proofs.ReadingLemmas.{walk_step}

or_false : (b : Bool) → (b || false) ≡ b
or_false true = refl
or_false false = refl

only_nothing : {C N L : Type 0} (b : Bool) (events : List (Event C L)) (x : Transition C N L) → x ≡ None
    → only b (prepend_events events x) ≡ None
only_nothing true events x h = rw h refl
only_nothing false events x h = refl

some_is : {T : Type 0} (x : Option T) → is_some x ≡ true → (v : T) × (x ≡ Some v)
some_is None h = absurd (both_ways false refl h)
some_is (Some v) h = (v, refl)

none_is : {T : Type 0} (x : Option T) → is_some x ≡ false → x ≡ None
none_is None h = refl
none_is (Some v) h = absurd (both_ways true h refl)

module _ {C N L : Type 0} (rules : N → Grammar C N L) where
  abbrev Stack : Type 0
  Stack = List (Grammar C N L)

  -- ---- steps and stops

  -- there is no step at the first of the signs
  abbrev pub Still : Stack → List C → Type 0
  Still k [] = Unit {0}
  Still k (c ∷ signs) = step rules k c ≡ None

  pub stop_none : (k : Stack) (c : C) (signs : List C) → step rules k c ≡ None
      → stop rules k (c ∷ signs) ≡ (c ∷ signs, k)
  stop_none k c signs e =
      ap (λ s. elim s as (λ x. List C × Stack) [ None ↦ (c ∷ signs, k) | Some t ↦ stop rules t.1 signs ]) e

  pub stop_some : (k : Stack) (c : C) (signs : List C) (t : List (Event C L) × Stack) → step rules k c ≡ Some t
      → stop rules k (c ∷ signs) ≡ stop rules t.1 signs
  stop_some k c signs t e =
      ap (λ s. elim s as (λ x. List C × Stack) [ None ↦ (c ∷ signs, k) | Some u ↦ stop rules u.1 signs ]) e

  pub stop_still : (k : Stack) (signs : List C) → Still k signs → stop rules k signs ≡ (signs, k)
  stop_still k [] s = refl
  stop_still k (c ∷ signs) s = stop_none k c signs s

  pub stop_fewer : (k : Stack) (signs : List C) → length (stop rules k signs).0 ≤ length signs
  stop_fewer k [] = omega arith
  stop_fewer k (c ∷ signs) = go (step rules k c) refl (λ j. stop_fewer j signs)
    where
      go : (s : Transition C N L) → step rules k c ≡ s → ((j : Stack) → length (stop rules j signs).0 ≤ length signs)
          → length (stop rules k (c ∷ signs)).0 ≤ length (c ∷ signs)
      go None e f = let same = ap (λ x. length x.0) (stop_none k c signs e) in omega arith
      go (Some t) e f =
          let same = ap (λ x. length x.0) (stop_some k c signs t e) in let fewer = f t.1 in omega arith

  pub stops_still : (k : Stack) (signs : List C) → Still (stop rules k signs).1 (stop rules k signs).0
  stops_still k [] = tt
  stops_still k (c ∷ signs) = go (step rules k c) refl (λ j. stops_still j signs)
    where
      go : (s : Transition C N L) → step rules k c ≡ s
          → ((j : Stack) → Still (stop rules j signs).1 (stop rules j signs).0)
          → Still (stop rules k (c ∷ signs)).1 (stop rules k (c ∷ signs)).0
      go None e f = subst (λ x. Still x.1 x.0) (sym (stop_none k c signs e)) e
      go (Some t) e f = subst (λ x. Still x.1 x.0) (sym (stop_some k c signs t e)) (f t.1)

  -- a stack that leaves all signs has no step
  pub all_left : (k : Stack) (signs : List C) → length signs ≤ length (stop rules k signs).0 → Still k signs
  all_left k [] h = tt
  all_left k (c ∷ signs) h = go (step rules k c) refl
    where
      go : (s : Transition C N L) → step rules k c ≡ s → step rules k c ≡ None
      go None e = e
      go (Some t) e =
          let same = ap (λ x. length x.0) (stop_some k c signs t e) in
          let fewer = stop_fewer t.1 signs in
          absurd (omega arith)

  -- a stack that leaves fewer signs has a step at the first of them
  pub record Moves (k : Stack) (signs : List C) : Type 0 where
    pub c : C
    pub rest : List C
    pub whole : signs ≡ c ∷ rest
    pub steps : is_some (step rules k c) ≡ true

  pub moves : (k : Stack) (signs : List C) → length (stop rules k signs).0 < length signs → Moves k signs
  moves k [] h = absurd (omega arith)
  moves k (c ∷ signs) h = record { c = c; rest = signs; whole = refl; steps = go (step rules k c) refl }
    where
      go : (s : Transition C N L) → step rules k c ≡ s → is_some s ≡ true
      go (Some t) e = refl
      go None e = let same = ap (λ x. length x.0) (stop_none k c signs e) in absurd (omega arith)

  -- ---- two stacks, one after the other

  pub stop_append : (r k : Stack) (signs : List C)
      → stop rules (r ++ k) signs ≡ stop rules ((stop rules r signs).1 ++ k) (stop rules r signs).0
  stop_append r k [] = refl
  stop_append r k (c ∷ signs) = go (step rules r c) refl (λ j. stop_append j k signs)
    where
      go : (s : Transition C N L) → step rules r c ≡ s
          → ((j : Stack)
          → stop rules (j ++ k) signs ≡ stop rules ((stop rules j signs).1 ++ k) (stop rules j signs).0)
          → stop rules (r ++ k) (c ∷ signs)
          ≡ stop rules ((stop rules r (c ∷ signs)).1 ++ k) (stop rules r (c ∷ signs)).0
      go None e f = ap (λ x. stop rules (x.1 ++ k) x.0) (sym (stop_none r c signs e))
      go (Some t) e f =
          stop_some (r ++ k) c signs (t.0, t.1 ++ k) (rw (step_append rules r k c, e) refl)
          ∙ (f t.1 ∙ ap (λ x. stop rules (x.1 ++ k) x.0) (sym (stop_some r c signs t e)))

  starts_append : (r k : Stack) (c : C) → starts (r ++ k) c ≡ (starts r c || (ends r && starts k c))
  starts_append [] k c = refl
  starts_append (g ∷ r) k c =
      ap (λ x. may_begin g c || (is_nullable g && x)) (starts_append r k c)
      ∙ go (may_begin g c) (is_nullable g) (starts r c) (ends r) (starts k c)
    where
      go : (a n s e t : Bool) → (a || (n && (s || (e && t)))) ≡ ((a || (n && s)) || ((n && e) && t))
      go true n s e t = refl
      go false true s e t = refl
      go false false s e t = refl

  module _ (r k : Stack) (signs mid : List C) (first : C → Bool) where
    -- nothing of the second stack is read, if the first may not end where it stops
    pub over_stuck : Sees rules r signs mid first false → Sees rules (r ++ k) signs mid first false
    over_stuck s =
        let j = (stop rules r signs).1 in
        let here : stop rules (r ++ k) signs ≡ (mid, j ++ k) =
        stop_append r k signs
        ∙ (stop_still (j ++ k) (stop rules r signs).0
        (still j (stop rules r signs).0 (sym s.ended) (stops_still r signs))
        ∙ ap (λ x. (x, j ++ k)) s.stops) in
        record {
          stops = ap (λ x. x.0) here;
          nexts = λ c.
              s.nexts c ∙ (sym (or_false (starts j c))
              ∙ (ap (λ e. starts j c || (e && starts k c)) s.ended
              ∙ (sym (starts_append j k c) ∙ ap (λ x. starts x.1 c) (sym here))));
          ended = ap (λ e. e && ends k) s.ended ∙ (sym (ends_append rules j k) ∙ ap (λ x. ends x.1) (sym here));
        }
      where
        still : (j : Stack) (left : List C) → ends j ≡ false → Still j left → Still (j ++ k) left
        still j [] e h = tt
        still j (c ∷ left) e h = rw (step_append rules j k c, h, e) refl

    -- otherwise the second stack reads from there on
    over_more : (j : Stack) (left : List C) → ends j ≡ true → Still j left
        → length (stop rules k left).0 < length left → stop rules (j ++ k) left ≡ stop rules k left
    over_more j [] e h m = absurd (omega arith)
    over_more j (c ∷ left) e h m = go (step rules k c) refl
      where
        go : (s : Transition C N L) → step rules k c ≡ s → stop rules (j ++ k) (c ∷ left) ≡ stop rules k (c ∷ left)
        go None i = let same = ap (λ x. length x.0) (stop_none k c left i) in absurd (omega arith)
        go (Some t) i =
            stop_some (j ++ k) c left (closing j ++ t.0, t.1) (rw (step_append rules j k c, h, e, i) refl)
            ∙ sym (stop_some k c left t i)

    pub over_moved : {left : List C} {next : C → Bool} {end : Bool} → Sees rules r signs mid first true
        → Sees rules k mid left next end → length left < length mid
        → Sees rules (r ++ k) signs left next end
    over_moved {left = left} s t m =
        let lengths = ap length t.stops in
        let here : stop rules (r ++ k) signs ≡ stop rules k mid =
        stop_append r k signs
        ∙ (ap (stop rules ((stop rules r signs).1 ++ k)) s.stops
        ∙ over_more (stop rules r signs).1 mid (sym s.ended)
        (subst (Still (stop rules r signs).1) s.stops (stops_still r signs)) (omega arith)) in
        record {
          stops = ap (λ x. x.0) here ∙ t.stops;
          nexts = λ c. t.nexts c ∙ ap (λ x. starts x.1 c) (sym here);
          ended = t.ended ∙ ap (λ x. ends x.1) (sym here);
        }

    pub over_still : {next : C → Bool} {end : Bool} → Sees rules r signs mid first true
        → Sees rules k mid mid next end
        → Sees rules (r ++ k) signs mid (λ c. first c || next c) end
    over_still {next = next} {end = end} s t =
        let j = (stop rules r signs).1 in
        let lengths = ap length t.stops in
        let none : Still k mid = all_left k mid (omega arith) in
        let stays : stop rules k mid ≡ (mid, k) = stop_still k mid none in
        let here : stop rules (r ++ k) signs ≡ (mid, j ++ k) =
        stop_append r k signs
        ∙ (ap (stop rules (j ++ k)) s.stops
        ∙ stop_still (j ++ k) mid (still j mid (subst (Still j) s.stops (stops_still r signs)) none)) in
        record {
          stops = ap (λ x. x.0) here;
          nexts = λ c.
              ap (λ b. b || next c) (s.nexts c)
              ∙ (ap (λ b. starts j c || b) (t.nexts c ∙ ap (λ x. starts x.1 c) stays)
              ∙ (ap (λ e. starts j c || (e && starts k c)) s.ended
              ∙ (sym (starts_append j k c) ∙ ap (λ x. starts x.1 c) (sym here))));
          ended = t.ended
              ∙ (ap (λ x. ends x.1) stays
              ∙ (ap (λ e. e && ends k) s.ended ∙ (sym (ends_append rules j k) ∙ ap (λ x. ends x.1) (sym here))));
        }
      where
        still : (j : Stack) (left : List C) → Still j left → Still k left → Still (j ++ k) left
        still j [] h i = tt
        still j (c ∷ left) h i =
            rw (step_append rules j k c, h) (only_nothing (ends j) (closing j) (step rules k c) i)

  -- ---- one grammar on a stack

  -- the first set of one grammar
  one_starts : (g : Grammar C N L) (c : C) → starts (g ∷ []) c ≡ may_begin g c
  one_starts g c = go (may_begin g c) (is_nullable g)
    where
      go : (a b : Bool) → (a || (b && false)) ≡ a
      go true b = refl
      go false true = refl
      go false false = refl

  one_ends : (g : Grammar C N L) → ends (g ∷ []) ≡ is_nullable g
  one_ends g = go (is_nullable g)
    where
      go : (a : Bool) → (a && true) ≡ a
      go true = refl
      go false = refl

  -- no step is taken
  pub sees_still : (g : Grammar C N L) (signs : List C) → Still (g ∷ []) signs
      → Sees rules (g ∷ []) signs signs (may_begin g) (is_nullable g)
  sees_still g signs h =
      let stays : stop rules (g ∷ []) signs ≡ (signs, g ∷ []) = stop_still (g ∷ []) signs h in
      record {
        stops = ap (λ x. x.0) stays;
        nexts = λ c. sym (one_starts g c) ∙ ap (λ x. starts x.1 c) (sym stays);
        ended = sym (one_ends g) ∙ ap (λ x. ends x.1) (sym stays);
      }

  -- and what is seen then
  module _ (g : Grammar C N L) (signs : List C) {next : C → Bool} {end : Bool}
      (s : Sees rules (g ∷ []) signs signs next end) where
    pub still_here : Still (g ∷ []) signs
    still_here = let lengths = ap length s.stops in all_left (g ∷ []) signs (omega arith)

    pub still_next : (c : C) → next c ≡ may_begin g c
    still_next c =
        s.nexts c ∙ (ap (λ x. starts x.1 c) (stop_still (g ∷ []) signs still_here) ∙ one_starts g c)

    pub still_end : end ≡ is_nullable g
    still_end = s.ended ∙ (ap (λ x. ends x.1) (stop_still (g ∷ []) signs still_here) ∙ one_ends g)

  pub still_begins : (g : Grammar C N L) (c : C) (signs : List C) → may_begin g c ≡ false → Still (g ∷ []) (c ∷ signs)
  still_begins g c signs h = none_is (step rules (g ∷ []) c) (step_is rules (g ∷ []) c ∙ (one_starts g c ∙ h))

  pub still_none : (g : Grammar C N L) (signs : List C) → ((c : C) → may_begin g c ≡ false) → Still (g ∷ []) signs
  still_none g [] h = tt
  still_none g (c ∷ signs) h = still_begins g c signs (h c)

  begins_still : (g : Grammar C N L) (c : C) (signs : List C) → Still (g ∷ []) (c ∷ signs) → may_begin g c ≡ false
  begins_still g c signs h = sym (one_starts g c) ∙ (sym (step_is rules (g ∷ []) c) ∙ ap is_some h)

  -- other functions with the same values
  pub sees_as : (k : Stack) (signs left : List C) (next other : C → Bool) (end last : Bool)
      → ((c : C) → other c ≡ next c) → last ≡ end → Sees rules k signs left next end
      → Sees rules k signs left other last
  sees_as k signs left next other end last f e s =
      record { stops = s.stops; nexts = λ c. f c ∙ s.nexts c; ended = e ∙ s.ended }

  -- a stack that stops as another does
  sees_same : (k j : Stack) (signs left : List C) (next : C → Bool) (end : Bool)
      → stop rules j signs ≡ stop rules k signs → Sees rules k signs left next end
      → Sees rules j signs left next end
  sees_same k j signs left next end e s = record {
    stops = ap (λ x. x.0) e ∙ s.stops;
    nexts = λ c. s.nexts c ∙ ap (λ x. starts x.1 c) (sym e);
    ended = s.ended ∙ ap (λ x. ends x.1) (sym e);
  }

  -- the step of one grammar is that into it
  into_one : (g : Grammar C N L) (c : C) → step rules (g ∷ []) c ≡ into rules g [] c
  into_one g c = go (into rules g [] c) (is_nullable g)
    where
      go : (x : Transition C N L) (b : Bool) → or_else x (only b (prepend_events (marks_of_nothing g) None)) ≡ x
      go None true = refl
      go None false = refl
      go (Some t) b = refl

  -- two stacks that take the same step at the first sign
  same_first : (k j : Stack) (signs : List C) (m : Moves j signs) → step rules k m.c ≡ step rules j m.c
      → stop rules k signs ≡ stop rules j signs
  same_first k j signs m e =
      let t = some_is (step rules j m.c) m.steps in
      ap (stop rules k) m.whole
      ∙ (stop_some k m.c m.rest t.0 (e ∙ t.1)
      ∙ (sym (stop_some j m.c m.rest t.0 t.1) ∙ ap (stop rules j) (sym m.whole)))

  -- ---- the words

  pub sees_nothing : (signs : List C) → Sees rules (Nothing ∷ []) signs signs (λ c. false) true
  sees_nothing signs = sees_still Nothing signs (still_none Nothing signs (λ c. refl))

  pub sees_mark : (l : L) (signs : List C) → Sees rules (Mark l ∷ []) signs signs (λ c. false) true
  sees_mark l signs = sees_still (Mark l) signs (still_none (Mark l) signs (λ c. refl))

  nothing_left : (signs : List C) → stop rules [] signs ≡ (signs, [])
  nothing_left [] = refl
  nothing_left (c ∷ signs) = refl

  pub sees_sign : (passes : C → Bool) (c : C) (signs : List C) → passes c ≡ true
      → Sees rules (Sign passes ∷ []) (c ∷ signs) signs (λ c. false) true
  sees_sign passes c signs h =
      let here : stop rules (Sign passes ∷ []) (c ∷ signs) ≡ (signs, []) =
      stop_some (Sign passes ∷ []) c signs (One c ∷ [], []) (rw h refl) ∙ nothing_left signs in
      record {
        stops = ap (λ x. x.0) here;
        nexts = λ d. ap (λ x. starts x.1 d) (sym here);
        ended = ap (λ x. ends x.1) (sym here);
      }

  pub sees_to : (passes : C → Bool) (n : N) (c : C) (signs left : List C) (next : C → Bool) (end : Bool)
      → passes c ≡ true
      → Sees rules (rules n ∷ []) signs left next end
      → Sees rules (To passes n ∷ []) (c ∷ signs) left next end
  sees_to passes n c signs left next end h s =
      let here : stop rules (To passes n ∷ []) (c ∷ signs) ≡ stop rules (rules n ∷ []) signs =
      stop_some (To passes n ∷ []) c signs (One c ∷ [], rules n ∷ []) (rw h refl) in
      record {
        stops = ap (λ x. x.0) here ∙ s.stops;
        nexts = λ d. s.nexts d ∙ ap (λ x. starts x.1 d) (sym here);
        ended = s.ended ∙ ap (λ x. ends x.1) (sym here);
      }

  -- what begins with no sign that comes next stays
  pub sees_lacks : (g : Grammar C N L) (c : C) (signs : List C) → may_begin g c ≡ false
      → Sees rules (g ∷ []) (c ∷ signs) (c ∷ signs) (may_begin g) (is_nullable g)
  sees_lacks g c signs h = sees_still g (c ∷ signs) (still_begins g c signs h)

  pub sees_end : (g : Grammar C N L) → Sees rules (g ∷ []) [] [] (may_begin g) (is_nullable g)
  sees_end g = sees_still g [] tt

  -- two grammars in a row
  then_step : (a b : Grammar C N L) (c : C) → step rules (Then a b ∷ []) c ≡ step rules (a ∷ b ∷ []) c
  then_step a b c =
      into_one (Then a b) c
      ∙ go (into rules a (b ∷ []) c) (into rules b [] c) (is_nullable a) (is_nullable b) (marks_of_nothing a)
      (marks_of_nothing b)
    where
      go : (x y : Transition C N L) (ea eb : Bool) (sa sb : List (Event C L))
          → or_else x (only ea (prepend_events sa y))
          ≡ or_else x (only ea (prepend_events sa (or_else y (only eb (prepend_events sb None)))))
      go (Some x) y ea eb sa sb = refl
      go None y false eb sa sb = refl
      go None (Some y) true eb sa sb = refl
      go None None true true sa sb = refl
      go None None true false sa sb = refl

  pub sees_then : (a b : Grammar C N L) (signs left : List C) (next : C → Bool) (end : Bool)
      → Sees rules (a ∷ b ∷ []) signs left next end
      → Sees rules (Then a b ∷ []) signs left next end
  sees_then a b signs left next end s = go (stop rules (Then a b ∷ []) signs) refl signs refl
    where
      starts_same : (c : C) → starts (a ∷ b ∷ []) c ≡ starts (Then a b ∷ []) c
      starts_same c =
          sym (step_is rules (a ∷ b ∷ []) c)
          ∙ (ap is_some (sym (then_step a b c)) ∙ step_is rules (Then a b ∷ []) c)

      ends_same : ends (a ∷ b ∷ []) ≡ ends (Then a b ∷ [])
      ends_same = both (is_nullable a) (is_nullable b)
        where
          both : (x y : Bool) → (x && (y && true)) ≡ ((x && y) && true)
          both true y = refl
          both false y = refl

      stays : Still (Then a b ∷ []) signs → Still (a ∷ b ∷ []) signs → Sees rules (Then a b ∷ []) signs left next end
      stays h i =
          let one : stop rules (Then a b ∷ []) signs ≡ (signs, Then a b ∷ []) = stop_still (Then a b ∷ []) signs h in
          let two : stop rules (a ∷ b ∷ []) signs ≡ (signs, a ∷ b ∷ []) = stop_still (a ∷ b ∷ []) signs i in
          record {
            stops = ap (λ x. x.0) one ∙ (sym (ap (λ x. x.0) two) ∙ s.stops);
            nexts = λ c. s.nexts c ∙ (ap (λ x. starts x.1 c) two ∙ (starts_same c ∙ ap (λ x. starts x.1 c) (sym one)));
            ended = s.ended ∙ (ap (λ x. ends x.1) two ∙ (ends_same ∙ ap (λ x. ends x.1) (sym one)));
          }

      go : (x : List C × Stack) → stop rules (Then a b ∷ []) signs ≡ x → (all : List C) → signs ≡ all
          → Sees rules (Then a b ∷ []) signs left next end
      go x e [] w = stays (subst (Still (Then a b ∷ [])) (sym w) tt) (subst (Still (a ∷ b ∷ [])) (sym w) tt)
      go x e (c ∷ more) w = at (step rules (a ∷ b ∷ []) c) refl
        where
          at : (t : Transition C N L) → step rules (a ∷ b ∷ []) c ≡ t → Sees rules (Then a b ∷ []) signs left next end
          at None h =
              stays (subst (Still (Then a b ∷ [])) (sym w) (then_step a b c ∙ h))
              (subst (Still (a ∷ b ∷ [])) (sym w) h)
          at (Some t) h =
              sees_same (a ∷ b ∷ []) (Then a b ∷ []) signs left next end
              (same_first (Then a b ∷ []) (a ∷ b ∷ []) signs
              (record { c = c; rest = more; whole = w; steps = ap is_some h }) (then_step a b c)) s

  -- two choices
  module _ (a b : Grammar C N L) (signs : List C) where
    pub sees_first : {left : List C} {next : C → Bool} {end : Bool} → Sees rules (a ∷ []) signs left next end
        → length left < length signs
        → Sees rules (Either a b ∷ []) signs left next end
    sees_first {left = left} {next = next} {end = end} s m =
        let lengths = ap length s.stops in
        let moved = moves (a ∷ []) signs (omega arith) in
        sees_same (a ∷ []) (Either a b ∷ []) signs left next end
        (same_first (Either a b ∷ []) (a ∷ []) signs moved
        (into_one (Either a b) moved.c
        ∙ (first (into rules a [] moved.c) (into rules b [] moved.c)
        (ap is_some (sym (into_one a moved.c)) ∙ moved.steps) ∙ sym (into_one a moved.c)))) s
      where
        first : (x y : Transition C N L) → is_some x ≡ true → or_else x y ≡ x
        first None y h = absurd (both_ways false refl h)
        first (Some x) y h = refl

    pub sees_second : {left : List C} {one two : C → Bool} {e f : Bool} → Sees rules (a ∷ []) signs signs one e
        → Sees rules (b ∷ []) signs left two f → length left < length signs
        → Sees rules (Either a b ∷ []) signs left two f
    sees_second {left = left} {two = two} {f = f} s t m =
        let lengths = ap length t.stops in
        let moved = moves (b ∷ []) signs (omega arith) in
        let none : Still (a ∷ []) (moved.c ∷ moved.rest) =
        subst (Still (a ∷ [])) moved.whole (still_here a signs s) in
        sees_same (b ∷ []) (Either a b ∷ []) signs left two f
        (same_first (Either a b ∷ []) (b ∷ []) signs moved
        (into_one (Either a b) moved.c
        ∙ (ap (λ x. or_else x (into rules b [] moved.c)) (sym (into_one a moved.c) ∙ none)
        ∙ sym (into_one b moved.c)))) t

    pub sees_neither : {one two : C → Bool} {e f : Bool} → Sees rules (a ∷ []) signs signs one e
        → Sees rules (b ∷ []) signs signs two f
        → Sees rules (Either a b ∷ []) signs signs (λ c. one c || two c) (e || f)
    sees_neither {one = one} {two = two} {e = e} {f = f} s t =
        sees_as (Either a b ∷ []) signs signs (may_begin (Either a b)) (λ c. one c || two c) (is_nullable (Either a b))
        (e || f)
        (λ c. ap (λ x. x || two c) (still_next a signs s c) ∙ ap (λ x. may_begin a c || x) (still_next b signs t c))
        (ap (λ x. x || f) (still_end a signs s) ∙ ap (λ x. is_nullable a || x) (still_end b signs t))
        (sees_still (Either a b) signs (go signs (still_here a signs s) (still_here b signs t)))
      where
        go : (all : List C) → Still (a ∷ []) all → Still (b ∷ []) all → Still (Either a b ∷ []) all
        go [] h i = tt
        go (c ∷ more) h i =
            still_begins (Either a b) c more
            (ap (λ x. x || may_begin b c) (begins_still a c more h) ∙ begins_still b c more i)

  -- a word that begins as `a` does, and goes on with `k` after it
  module _ (a g : Grammar C N L) (k : Stack) (begins : (c : C) → may_begin g c ≡ may_begin a c)
      (steps : (c : C) → into rules g [] c ≡ into rules a k c) where
    pub sees_none : {signs : List C} {next : C → Bool} {end : Bool} → Sees rules (a ∷ []) signs signs next end
        → Sees rules (g ∷ []) signs signs next (is_nullable g)
    sees_none {signs = signs} {next = next} s =
        sees_as (g ∷ []) signs signs (may_begin g) next (is_nullable g) (is_nullable g)
        (λ c. still_next a signs s c ∙ sym (begins c)) refl
        (sees_still g signs (go signs (still_here a signs s)))
      where
        go : (all : List C) → Still (a ∷ []) all → Still (g ∷ []) all
        go [] h = tt
        go (c ∷ more) h = still_begins g c more (begins c ∙ begins_still a c more h)

    -- if `a` reads a sign, the word stops where `a` and then `k` stop
    pub sees_some : {signs left : List C} {next : C → Bool} {end : Bool}
        → length (stop rules (a ∷ []) signs).0 < length signs
        → Sees rules (a ∷ k) signs left next end
        → Sees rules (g ∷ []) signs left next end
    sees_some {signs = signs} {left = left} {next = next} {end = end} m s =
        let moved = moves (a ∷ []) signs m in
        let some = some_is (step rules (a ∷ []) moved.c) moved.steps in
        let here : into rules a k moved.c ≡ Some (some.0.0, some.0.1 ++ k) =
        into_append rules a [] k moved.c ∙ ap (plus k) (sym (into_one a moved.c) ∙ some.1) in
        let there : step rules (a ∷ k) moved.c ≡ Some (some.0.0, some.0.1 ++ k) = rw here refl in
        sees_same (a ∷ k) (g ∷ []) signs left next end
        (same_first (g ∷ []) (a ∷ k) signs
        (record { c = moved.c; rest = moved.rest; whole = moved.whole; steps = ap is_some there })
        (into_one g moved.c ∙ (steps moved.c ∙ (here ∙ sym there)))) s

  -- ---- lists

  module _ (a s : Grammar C N L) (some : is_nullable s ≡ false) where
    pub further_begins : (c : C) → may_begin (further a s) c ≡ may_begin s c
    further_begins c = rw some (go (may_begin s c))
      where
        go : (x : Bool) → ((x || false) || false) ≡ x
        go true = refl
        go false = refl

    pub further_steps : (c : C) → into rules (further a s) [] c ≡ into rules s (Listed a s ∷ []) c
    further_steps c = rw some (go (into rules s (Listed a s ∷ []) c))
      where
        go : (x : Transition C N L) → or_else (or_else x None) None ≡ x
        go None = refl
        go (Some t) = refl

  -- ---- what can come next where the machine stops

  pub record Walked (k : Stack) (signs : List C) : Type 0 where
    pub front : List C
    pub events : List (Event C L)
    pub whole : signs ≡ front ++ (stop rules k signs).0
    pub walks : walk rules k front ≡ Some (events, (stop rules k signs).1)

  stop_walk : (k : Stack) (signs : List C) → Walked k signs
  stop_walk k [] = record { front = []; events = []; whole = refl; walks = refl }
  stop_walk k (c ∷ signs) = go (step rules k c) refl (λ j. stop_walk j signs)
    where
      go : (x : Transition C N L) → step rules k c ≡ x → ((j : Stack) → Walked j signs) → Walked k (c ∷ signs)
      go None e f =
          let stays = stop_none k c signs e in record {
            front = [];
            events = [];
            whole = ap (λ x. x.0) (sym stays);
            walks = ap (λ x. Some ([], x.1)) (sym stays);
          }
      go (Some t) e f =
          let w = f t.1 in
          let same = stop_some k c signs t e in record {
            front = c ∷ w.front;
            events = t.0 ++ w.events;
            whole = ap (λ x. c ∷ x) (w.whole ∙ ap (λ x. w.front ++ x.0) (sym same));
            walks = walk_step rules k c w.front t e
                ∙ (ap (prepend_events t.0) w.walks ∙ ap (λ x. Some (t.0 ++ w.events, x.1)) (sym same));
          }

  pub sees_next : (k : Stack) (signs left : List C) (next : C → Bool) (end : Bool) → Sees rules k signs left next end
      → IsNext rules k signs left next end
  sees_next k signs left next end s =
      let w = stop_walk k signs in record {
        front = w.front;
        whole = w.whole ∙ ap (λ x. w.front ++ x) s.stops;
        walks = ap is_some w.walks;
        follows = λ c. s.nexts c ∙ sym (followed w.front w.events (stop rules k signs).1 c w.walks);
        ends = s.ended ∙ sym (ended w.front w.events (stop rules k signs).1 w.walks);
        longest = λ c more e.
            let still : Still (stop rules k signs).1 (c ∷ more) =
            subst (Still (stop rules k signs).1) (s.stops ∙ e) (stops_still k signs) in
            s.nexts c ∙ (sym (step_is rules (stop rules k signs).1 c) ∙ ap is_some still);
      }
    where
      followed : (front : List C) (events : List (Event C L)) (j : Stack) (c : C)
          → walk rules k front ≡ Some (events, j)
          → may_follow rules k front c ≡ starts j c
      followed front events j c w =
          ap (λ o. elim o as (λ x. Bool) [ None ↦ false | Some t ↦ starts t.1 c ]) w

      ended : (front : List C) (events : List (Event C L)) (j : Stack) → walk rules k front ≡ Some (events, j)
          → may_end rules k front ≡ ends j
      ended front events j w = ap (λ o. elim o as (λ x. Bool) [ None ↦ false | Some t ↦ ends t.1 ]) w

  -- the machine stops after a walk, if there is no step after it
  walk_stops : (k : Stack) (front left : List C) (taken : List (Event C L) × Stack) → walk rules k front ≡ Some taken
      → Still taken.1 left
      → stop rules k (front ++ left) ≡ (left, taken.1)
  walk_stops k [] left taken w h =
      let same : k ≡ taken.1 = cc in
      ap (λ j. stop rules j left) same ∙ stop_still taken.1 left h
  walk_stops k (c ∷ front) left taken w h = go (step rules k c) refl w (λ j t. walk_stops j front left t)
    where
      later : (t : List (Event C L) × Stack) → step rules k c ≡ Some t → (o : Transition C N L)
          → prepend_events t.0 o ≡ Some taken
          → ((u : List (Event C L) × Stack) → o ≡ Some u → Still u.1 left
          → stop rules t.1 (front ++ left) ≡ (left, u.1))
          → stop rules k (c ∷ (front ++ left)) ≡ (left, taken.1)
      later t e None w f = absurd cc
      later t e (Some u) w f =
          let same : u.1 ≡ taken.1 = cc in
          stop_some k c (front ++ left) t e
          ∙ (f u refl (subst (λ j. Still j left) (sym same) h) ∙ ap (λ j. (left, j)) same)

      go : (o : Transition C N L) → step rules k c ≡ o
          → (elim o as (λ y. Transition C N L) [
            | None ↦ None
            | Some t ↦ prepend_events t.0 (walk rules t.1 front)
          ]) ≡ Some taken
          → ((j : Stack) (u : List (Event C L) × Stack) → walk rules j front ≡ Some u → Still u.1 left
          → stop rules j (front ++ left) ≡ (left, u.1))
          → stop rules k (c ∷ (front ++ left)) ≡ (left, taken.1)
      go None e w f = absurd cc
      go (Some t) e w f = later t e (walk rules t.1 front) w (f t.1)

  pub next_sees : (k : Stack) (signs left : List C) (next : C → Bool) (end : Bool) → IsNext rules k signs left next end
      → Sees rules k signs left next end
  next_sees k signs left next end n =
      let taken = some_is (walk rules k n.front) n.walks in
      let follows : (c : C) → next c ≡ starts taken.0.1 c = λ c.
      n.follows c ∙ ap (λ o. elim o as (λ x. Bool) [ None ↦ false | Some t ↦ starts t.1 c ]) taken.1 in
      let here : stop rules k signs ≡ (left, taken.0.1) =
      ap (stop rules k) n.whole
      ∙ walk_stops k n.front left taken.0 taken.1
      (still taken.0.1 left (λ c more e. sym (follows c) ∙ n.longest c more e))
      in
      record {
        stops = ap (λ x. x.0) here;
        nexts = λ c. follows c ∙ ap (λ x. starts x.1 c) (sym here);
        ended = n.ends
            ∙ (ap (λ o. elim o as (λ x. Bool) [ None ↦ false | Some t ↦ ends t.1 ]) taken.1
            ∙ ap (λ x. ends x.1) (sym here));
      }
    where
      still : (j : Stack) (all : List C) → ((c : C) (more : List C) → all ≡ c ∷ more → starts j c ≡ false) → Still j all
      still j [] h = tt
      still j (c ∷ more) h = none_is (step rules j c) (step_is rules j c ∙ h c more refl)
