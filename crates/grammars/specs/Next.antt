-- What can come next after some signs.
use Rattle.std.specs.Prelude.{◌≡◌, Bool, true, false, is_some, List, [], ◌∷◌, ◌++◌, Some, None}
use Rattle.grammars.specs.Grammar.{Grammar}
use Rattle.grammars.specs.Machine.{ends, step, walk}
use Rattle.grammars.specs.First.{starts}

-- whether the sign is in the first set of what is left to read after these signs
abbrev pub may_follow : {C N L : Type 0} → (N → Grammar C N L) → List (Grammar C N L) → List C → C → Bool
may_follow rules k front c = elim (walk rules k front) [ None ↦ false | Some taken ↦ starts taken.1 c ]

-- whether nothing need be read after these signs
abbrev pub may_end : {C N L : Type 0} → (N → Grammar C N L) → List (Grammar C N L) → List C → Bool
may_end rules k front = elim (walk rules k front) [ None ↦ false | Some taken ↦ ends taken.1 ]

-- where the machine stops: the signs that are left over, and the stack that is left to read
abbrev pub stop : {C N L : Type 0} → (N → Grammar C N L) → List (Grammar C N L) → List C
    → List C × List (Grammar C N L)
stop rules k [] = ([], k)
stop rules k (c ∷ signs) = elim (step rules k c) [ None ↦ (c ∷ signs, k) | Some taken ↦ stop rules taken.1 signs ]

-- the machine stops before the signs `left`. There exactly the signs that pass `next` can come next, and `end` says
-- whether nothing need be read
pub record Sees {C N L : Type 0} (rules : N → Grammar C N L) (k : List (Grammar C N L)) (signs left : List C)
    (next : C → Bool) (end : Bool) : Type 0 where
  pub stops : (stop rules k signs).0 ≡ left
  pub nexts : (c : C) → next c ≡ starts (stop rules k signs).1 c
  pub ended : end ≡ ends (stop rules k signs).1

-- the signs before `left` are a walk. After them `next` is the first set of what is left to read, `end` says whether
-- nothing need be read, and the first of the left signs cannot be read
pub record IsNext {C N L : Type 0} (rules : N → Grammar C N L) (k : List (Grammar C N L)) (signs left : List C)
    (next : C → Bool) (end : Bool) : Type 0 where
  pub front : List C
  pub whole : signs ≡ front ++ left
  pub walks : is_some (walk rules k front) ≡ true
  pub follows : (c : C) → next c ≡ may_follow rules k front c
  pub ends : end ≡ may_end rules k front
  pub longest : (c : C) (more : List C) → left ≡ c ∷ more → next c ≡ false
