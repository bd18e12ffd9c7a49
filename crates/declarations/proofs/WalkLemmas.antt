-- Walks over signs: at most one begins in a state, and when none does.
use Rattle.std.proofs.Common.{◌≡◌, refl, sym, ◌∙◌, ap, subst, Bool, true, false, cond, List, [], ◌∷◌, ◌++◌, Option}
use Rattle.std.proofs.Common.{Some, None, append_assoc}
use Rattle.declarations.specs.Walk.{walk, Stops, IsWalk, IsFront}
use Rattle.item_tables.specs.declared.class.SignClass.{SignClass}

-- a walk that a sign comes before
abbrev pub onto : SignClass → Option (List SignClass × List SignClass) → Option (List SignClass × List SignClass)
onto sign None = None
onto sign (Some found) = Some (sign ∷ found.0, found.1)

abbrev pub at_end : Bool → List SignClass → Option (List SignClass × List SignClass)
at_end ends rest = cond ends (Some ([], rest)) None

abbrev pub find : {P : Type 0} → (P → SignClass → Option P) → (P → Bool) → P → List SignClass
    → Option (List SignClass × List SignClass)
find step ends place [] = at_end (ends place) []
find step ends place (sign ∷ signs) =
    elim (step place sign) [
      | None ↦ at_end (ends place) (sign ∷ signs)
      | Some next ↦ onto sign (find step ends next signs)
    ]

-- the walk after one step
abbrev pub after : {P : Type 0} → (P → SignClass → Option P) → Option P → List SignClass → Option P
after step None signs = None
after step (Some place) signs = walk step place signs

pub walk-cons : {P : Type 0} → (step : P → SignClass → Option P) (place : P) (sign : SignClass) (signs : List SignClass)
    → walk step place (sign ∷ signs) ≡ after step (step place sign) signs
walk-cons step place sign signs =
    elim (step place sign) as (λ o. (elim o [ None ↦ None | Some next ↦ walk step next signs ]) ≡ after step o signs)
    [ None ↦ refl | Some next ↦ refl ]

pub walk-append : {P : Type 0} → (step : P → SignClass → Option P) (place : P) (front back : List SignClass)
    → walk step place (front ++ back) ≡ after step (walk step place front) back
walk-append step place [] back = refl
walk-append step place (sign ∷ front) back =
    elim (step place sign) as (λ o. (elim o [ None ↦ None | Some next ↦ walk step next (front ++ back) ])
    ≡ after step (elim o [ None ↦ None | Some next ↦ walk step next front ]) back)
    [ None ↦ refl | Some next ↦ walk-append step next front back ]

-- a walk is found
pub walk_is_found : {P : Type 0}
    → (step : P → SignClass → Option P) (ends : P → Bool) (place last : P) (piece rest : List SignClass)
    → walk step place piece ≡ Some last → ends last ≡ true → Stops step last rest
    → find step ends place (piece ++ rest) ≡ Some (piece, rest)
walk_is_found step ends place last [] [] walks ended stops =
    let here : ends place ≡ true = cc in
    rw here refl
walk_is_found step ends place last [] (sign ∷ rest) walks ended stops =
    let same : place ≡ last = cc in
    let here : ends place ≡ true = cc in
    let stop : step place sign ≡ None = subst (λ p. step p sign ≡ None) (sym same) stops in
    rw stop (rw here refl)
walk_is_found {P = P} step ends place last (sign ∷ piece) rest walks ended stops =
    elim (step place sign) as (λ o. (elim o as (λ x. Option P) [ None ↦ None | Some next ↦ walk step next piece ])
    ≡ Some last
    → (elim o as (λ x. Option (List SignClass × List SignClass)) [
      | None ↦ at_end (ends place) (sign ∷ (piece ++ rest))
      | Some next ↦ onto sign (find step ends next (piece ++ rest))
    ]) ≡ Some (sign ∷ piece, rest))
    [ None ↦ λ h. cc | Some next ↦ λ h. ap (onto sign) (walk_is_found step ends next last piece rest h ended stops) ]
    walks

-- two walks from the same state over the same signs are the same
pub one_walk : {P : Type 0} → (step : P → SignClass → Option P) (ends : P → Bool) (start : P)
    (piece rest piece2 rest2 : List SignClass) → IsWalk step ends start piece rest → IsWalk step ends start piece2 rest2
    → piece ++ rest ≡ piece2 ++ rest2 → (piece ≡ piece2) × (rest ≡ rest2)
one_walk step ends start piece rest piece2 rest2 a b same =
    let here = walk_is_found step ends start a.last piece rest a.walks a.ended a.stops in
    let there = walk_is_found step ends start b.last piece2 rest2 b.walks b.ended b.stops in
    let pair : List SignClass × List SignClass = (piece, rest) in
    let pair2 : List SignClass × List SignClass = (piece2, rest2) in
    let both : Some pair ≡ Some pair2 = sym here ∙ ap (find step ends start) same ∙ there in
    let pairs : pair ≡ pair2 = cc in
    (ap (λ p. p.0) pairs, ap (λ p. p.1) pairs)

-- no walk is found if the steps end too early
pub not_found : {P : Type 0} → (step : P → SignClass → Option P) (ends : P → Bool) (place last : P)
    (front : List SignClass) (sign : SignClass) (more : List SignClass)
    → walk step place front ≡ Some last → ends last ≡ false → step last sign ≡ None
    → find step ends place (front ++ sign ∷ more) ≡ None
not_found step ends place last [] sign more walks wrong stop =
    let same : place ≡ last = cc in
    let here : ends place ≡ false = cc in
    let stop_here : step place sign ≡ None = subst (λ p. step p sign ≡ None) (sym same) stop in
    rw stop_here (rw here refl)
not_found {P = P} step ends place last (first ∷ front) sign more walks wrong stop =
    elim (step place first) as (λ o. (elim o as (λ x. Option P) [ None ↦ None | Some next ↦ walk step next front ])
    ≡ Some last
    → (elim o as (λ x. Option (List SignClass × List SignClass)) [
      | None ↦ at_end (ends place) (first ∷ (front ++ sign ∷ more))
      | Some next ↦ onto first (find step ends next (front ++ sign ∷ more))
    ]) ≡ None)
    [ None ↦ λ h. cc | Some next ↦ λ h. ap (onto first) (not_found step ends next last front sign more h wrong stop) ]
    walks

pub not_found-end : {P : Type 0} → (step : P → SignClass → Option P) (ends : P → Bool) (place last : P)
    (front : List SignClass) → walk step place front ≡ Some last → ends last ≡ false
    → find step ends place front ≡ None
not_found-end step ends place last [] walks wrong =
    let here : ends place ≡ false = cc in
    rw here refl
not_found-end {P = P} step ends place last (first ∷ front) walks wrong =
    elim (step place first) as (λ o. (elim o as (λ x. Option P) [ None ↦ None | Some next ↦ walk step next front ])
    ≡ Some last
    → (elim o as (λ x. Option (List SignClass × List SignClass)) [
      | None ↦ at_end (ends place) (first ∷ front)
      | Some next ↦ onto first (find step ends next front)
    ]) ≡ None)
    [ None ↦ λ h. cc | Some next ↦ λ h. ap (onto first) (not_found-end step ends next last front h wrong) ]
    walks

-- if no walk is found, there is none
pub none_stands : {P : Type 0} → (step : P → SignClass → Option P) (ends : P → Bool) (start : P)
    (signs piece rest : List SignClass) → find step ends start signs ≡ None → signs ≡ piece ++ rest
    → IsWalk step ends start piece rest → ⊥
none_stands step ends start signs piece rest nothing whole stands =
    let here = walk_is_found step ends start stands.last piece rest stands.walks stands.ended stands.stops in
    let pair : List SignClass × List SignClass = (piece, rest) in
    let clash : Some pair ≡ None = sym here ∙ ap (find step ends start) (sym whole) ∙ nothing in
    cc

-- a walk and a sign that is no step cannot be completed, if the walk may not end there
pub no_front : {P : Type 0} → (step : P → SignClass → Option P) (ends : P → Bool) (start last : P)
    (front : List SignClass) (sign : SignClass) → walk step start front ≡ Some last → ends last ≡ false
    → step last sign ≡ None → IsFront (IsWalk step ends start) (front ++ sign ∷ []) → ⊥
no_front step ends start last front sign walks wrong stop goes =
    none_stands step ends start (front ++ sign ∷ goes.more) goes.piece goes.rest
    (not_found step ends start last front sign goes.more walks wrong stop)
    (sym (append_assoc front (sign ∷ []) goes.more) ∙ goes.whole) goes.stands
