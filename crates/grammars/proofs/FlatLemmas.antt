-- The machine over flat stacks. A sequence is in them as its parts, and marks are left out, so there are few states.
use Rattle.std.proofs.Common.{◌≡◌, refl, sym, ◌∙◌, ap, subst, Bool, true, false, ◌&&◌, List, [], ◌∷◌, ◌++◌, Option}
use Rattle.std.proofs.Common.{Some, None, append_assoc}
use Rattle.grammars.specs.Grammar.{Grammar, Nothing, Sign, To, Mark, Then, Either, Many, Listed, Event, One, further}
use Rattle.grammars.specs.Machine.{is_nullable, Transition, or_else, prepend_events, only, into, step, ends, walk}

-- the parts of a grammar, which are several if it is a sequence
abbrev pub flat : {C N L : Type 0} → Grammar C N L → List (Grammar C N L)
flat Nothing = []
flat (Mark l) = []
flat (Then a b) = flat a ++ flat b
flat (Sign passes) = Sign passes ∷ []
flat (To passes n) = To passes n ∷ []
flat (Either a b) = Either a b ∷ []
flat (Many a) = Many a ∷ []
flat (Listed a s) = Listed a s ∷ []

-- the parts of each grammar of a stack
abbrev pub flat_all : {C N L : Type 0} → List (Grammar C N L) → List (Grammar C N L)
flat_all [] = []
flat_all (g ∷ k) = flat g ++ flat_all k

-- the stack with more grammars after it, if there is one
abbrev pub and_more : {T : Type 0} → Option (List T) → List T → Option (List T)
and_more None k = None
and_more (Some j) k = Some (j ++ k)

-- the flat form of the stack after a step
abbrev pub flat_stack_after : {C N L : Type 0} → Transition C N L → Option (List (Grammar C N L))
flat_stack_after None = None
flat_stack_after (Some taken) = Some (flat_all taken.1)

flattened_or : {C N L : Type 0} (x y : Transition C N L)
    → flat_stack_after (or_else x y) ≡ or_else (flat_stack_after x) (flat_stack_after y)
flattened_or None y = refl
flattened_or (Some t) y = refl

flattened_only : {C N L : Type 0} (b : Bool) (e : List (Event C L)) (x : Transition C N L)
    → flat_stack_after (only b (prepend_events e x)) ≡ only b (flat_stack_after x)
flattened_only true e None = refl
flattened_only true e (Some t) = refl
flattened_only false e x = refl

more_or : {T : Type 0} (x y : Option (List T)) (k : List T)
    → and_more (or_else x y) k ≡ or_else (and_more x k) (and_more y k)
more_or None y k = refl
more_or (Some j) y k = refl

more_only : {T : Type 0} (b : Bool) (x : Option (List T)) (k : List T) → and_more (only b x) k ≡ only b (and_more x k)
more_only true x k = refl
more_only false x k = refl

more_more : {T : Type 0} (x : Option (List T)) (j k : List T) → and_more (and_more x j) k ≡ and_more x (j ++ k)
more_more None j k = refl
more_more (Some i) j k = ap Some (append_assoc i j k)

module _ {C N L : Type 0} (rules : N → Grammar C N L) where
  -- the flat stack that takes the place of a grammar after a sign
  abbrev pub enter : Grammar C N L → C → Option (List (Grammar C N L))
  enter Nothing c = None
  enter (Sign passes) c = only (passes c) (Some [])
  enter (To passes n) c = only (passes c) (Some (flat (rules n)))
  enter (Mark l) c = None
  enter (Then a b) c = or_else (and_more (enter a c) (flat b)) (only (is_nullable a) (enter b c))
  enter (Either a b) c = or_else (enter a c) (enter b c)
  enter (Many a) c = and_more (enter a c) (Many a ∷ [])
  enter (Listed a s) c = and_more (enter a c) (further a s ∷ [])

  -- the step of a flat stack at a sign
  abbrev pub move : List (Grammar C N L) → C → Option (List (Grammar C N L))
  move [] c = None
  move (g ∷ k) c = or_else (and_more (enter g c) k) (only (is_nullable g) (move k c))

  -- the flat stack after some signs, if there is a step at each sign
  abbrev pub moves : List (Grammar C N L) → List C → Option (List (Grammar C N L))
  moves k [] = Some k
  moves k (c ∷ signs) = elim (move k c) [ None ↦ None | Some j ↦ moves j signs ]

  into_flat : (g : Grammar C N L) (k : List (Grammar C N L)) (c : C)
      → flat_stack_after (into rules g k c) ≡ and_more (enter g c) (flat_all k)
  into_flat Nothing k c = refl
  into_flat (Sign passes) k c = go (passes c)
    where
      go : (b : Bool) → flat_stack_after (only b (Some (One c ∷ [], k))) ≡ and_more (only b (Some [])) (flat_all k)
      go true = refl
      go false = refl
  into_flat (To passes n) k c = go (passes c)
    where
      go : (b : Bool)
          → flat_stack_after (only b (Some (One c ∷ [], rules n ∷ k)))
          ≡ and_more (only b (Some (flat (rules n)))) (flat_all k)
      go true = refl
      go false = refl
  into_flat (Mark l) k c = refl
  into_flat (Then a b) k c =
      rw (
        flattened_or (into rules a (b ∷ k) c) _,
        flattened_only (is_nullable a) _ (into rules b k c),
        into_flat a (b ∷ k) c,
        into_flat b k c,
        more_or (and_more (enter a c) (flat b)) (only (is_nullable a) (enter b c)) (flat_all k),
        more_more (enter a c) (flat b) (flat_all k),
        more_only (is_nullable a) (enter b c) (flat_all k),
      ) refl
  into_flat (Either a b) k c =
      rw (
        flattened_or (into rules a k c) (into rules b k c),
        into_flat a k c,
        into_flat b k c,
        more_or (enter a c) (enter b c) (flat_all k),
      ) refl
  into_flat (Many a) k c = into_flat a (Many a ∷ k) c ∙ sym (more_more (enter a c) (Many a ∷ []) (flat_all k))
  into_flat (Listed a s) k c =
      into_flat a (further a s ∷ k) c ∙ sym (more_more (enter a c) (further a s ∷ []) (flat_all k))

  move_flat : (g : Grammar C N L) (k : List (Grammar C N L)) (c : C)
      → move (flat g ++ k) c ≡ or_else (and_more (enter g c) k) (only (is_nullable g) (move k c))
  move_flat Nothing k c = refl
  move_flat (Sign passes) k c = refl
  move_flat (To passes n) k c = refl
  move_flat (Mark l) k c = refl
  move_flat (Then a b) k c =
      rw (
        append_assoc (flat a) (flat b) k,
        move_flat a (flat b ++ k) c,
        move_flat b k c,
        more_or (and_more (enter a c) (flat b)) (only (is_nullable a) (enter b c)) k,
        more_more (enter a c) (flat b) k,
        more_only (is_nullable a) (enter b c) k,
      ) (same (and_more (enter a c) (flat b ++ k)) (and_more (enter b c) k) (move k c) (is_nullable a) (is_nullable b))
    where
      same : (x y z : Option (List (Grammar C N L))) (ea eb : Bool)
          → or_else x (only ea (or_else y (only eb z))) ≡ or_else (or_else x (only ea y)) (only (ea && eb) z)
      same (Some x) y z ea eb = refl
      same None y z false eb = refl
      same None (Some y) z true eb = refl
      same None None z true eb = refl
  move_flat (Either a b) k c = refl
  move_flat (Many a) k c = refl
  move_flat (Listed a s) k c = refl

  -- the flat form of a step is the step of the flat stack
  pub step_flat : (k : List (Grammar C N L)) (c : C) → flat_stack_after (step rules k c) ≡ move (flat_all k) c
  step_flat [] c = refl
  step_flat (g ∷ k) c =
      rw (
        flattened_or (into rules g k c) _,
        flattened_only (is_nullable g) _ (step rules k c),
        into_flat g k c,
        step_flat k c,
        move_flat g (flat_all k) c,
      ) refl

  ends_both : (g : Grammar C N L) (k : List (Grammar C N L)) → ends (flat g ++ k) ≡ (is_nullable g && ends k)
  ends_both Nothing k = refl
  ends_both (Sign passes) k = refl
  ends_both (To passes n) k = refl
  ends_both (Mark l) k = refl
  ends_both (Then a b) k =
      rw (append_assoc (flat a) (flat b) k, ends_both a (flat b ++ k), ends_both b k)
      (same (is_nullable a) (is_nullable b) (ends k))
    where
      same : (x y z : Bool) → (x && (y && z)) ≡ ((x && y) && z)
      same true y z = refl
      same false y z = refl
  ends_both (Either a b) k = refl
  ends_both (Many a) k = refl
  ends_both (Listed a s) k = refl

  -- signs may end at a flat stack exactly if they may end at the stack
  pub ends_flat : (k : List (Grammar C N L)) → ends (flat_all k) ≡ ends k
  ends_flat [] = refl
  ends_flat (g ∷ k) = ends_both g (flat_all k) ∙ ap (λ e. is_nullable g && e) (ends_flat k)

  -- the flat form of a walk is the walk over flat stacks
  pub walk_flat : (k : List (Grammar C N L)) (signs : List C)
      → flat_stack_after (walk rules k signs) ≡ moves (flat_all k) signs
  walk_flat k [] = refl
  walk_flat k (c ∷ signs) = go (step rules k c) (step_flat k c) (λ j. walk_flat j signs)
    where
      later : (e : List (Event C L)) (x : Transition C N L) → flat_stack_after (prepend_events e x) ≡ flat_stack_after x
      later e None = refl
      later e (Some t) = refl

      go : (s : Transition C N L) → flat_stack_after s ≡ move (flat_all k) c
          → ((j : List (Grammar C N L)) → flat_stack_after (walk rules j signs) ≡ moves (flat_all j) signs)
          → flat_stack_after (elim s as (λ y. Transition C N L) [
            | None ↦ None
            | Some taken ↦ prepend_events taken.0 (walk rules taken.1 signs)
          ]) ≡ moves (flat_all k) (c ∷ signs)
      go None e f =
          subst (λ m. None ≡ (elim m as
          (λ y. Option (List (Grammar C N L))) [ None ↦ None | Some j ↦ moves j signs ])) e refl
      go (Some t) e f =
          later t.0 (walk rules t.1 signs)
          ∙ (f t.1 ∙ subst (λ m. moves (flat_all t.1) signs
          ≡ (elim m as (λ y. Option (List (Grammar C N L))) [ None ↦ None | Some j ↦ moves j signs ])) e refl)
