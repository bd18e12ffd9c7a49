-- Walks over signs: each sign is a step from one state to the next, as far as there are steps.
use Rattle.std.specs.Prelude.{◌≡◌, Bool, true, List, [], ◌∷◌, ◌++◌, Option, Some, None}
use Rattle.item_tables.specs.declared.class.SignClass.{SignClass}

-- the state after a step for each of the signs, or nothing if a sign is no step
abbrev pub walk : {P : Type 0} → (P → SignClass → Option P) → P → List SignClass → Option P
walk step place [] = Some place
walk step place (sign ∷ signs) = elim (step place sign) [ None ↦ None | Some next ↦ walk step next signs ]

-- there are no signs, or the first of them is no step
abbrev pub Stops : {P : Type 0} → (P → SignClass → Option P) → P → List SignClass → Type 0
Stops step place [] = Unit {0}
Stops step place (sign ∷ signs) = step place sign ≡ None

-- the piece is a walk to a state where it may end, and the rest begins with no step
pub record IsWalk {P : Type 0} (step : P → SignClass → Option P) (ends : P → Bool) (start : P)
    (piece rest : List SignClass)
    : Type 0 where
  pub last : P
  pub walks : walk step start piece ≡ Some last
  pub ended : ends last ≡ true
  pub stops : Stops step last rest

-- other signs could complete this prefix so that a piece of the form is at the start
pub record IsFront (form : List SignClass → List SignClass → Type 0) (front : List SignClass) : Type 0 where
  pub more : List SignClass
  pub piece : List SignClass
  pub rest : List SignClass
  pub whole : front ++ more ≡ piece ++ rest
  pub stands : form piece rest
