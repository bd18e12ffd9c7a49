-- What comparing two texts returns.
use Rattle.std.proofs.Common.{◌≡◌, ℕ, Bool, true, false, List, [], ◌∷◌, ◌++◌, Option, Some, None}
use Rattle.std.proofs.Common.{refl, sym, ap, ◌∙◌}
use Rattle.std.specs.Borrow.{Bor}
use Rattle.std.proofs.lemmas.Bool.{both_ways}
use Rattle.std.proofs.lemmas.List.{append_cancel_left}
use Rattle.same.specs.Answer.{AreSame}
use Rattle.same.specs.Difference.{DifferAt, bare, first_word}
use Rattle.same.specs.SourceWord.{Placed, WordValue}
use Rattle.same.specs.Same.{ComparesTexts}
use Rattle.same.proofs.ComparingLemmas.{bare-append}
use Rattle.same.proofs.TokenLemmas.{same_trees}

abbrev head : List WordValue → Option WordValue
head [] = None
head (w ∷ ws) = Some w

head_bare : (xs : List Placed) → head (bare xs) ≡ first_word xs
head_bare [] = refl
head_bare (x ∷ xs) = refl

-- words that differ somewhere are not the same
pub apart : (xs ys : List Placed) (first second : List ℕ) → DifferAt xs ys first second → bare xs ≡ bare ys → ⊥
apart xs ys first second h e =
    let so = h.so_far in
    let left : bare xs ≡ bare so.front ++ bare h.more = ap bare so.first ∙ bare-append so.front h.more in
    let right : bare ys ≡ bare so.front ++ bare h.others =
    ap bare so.second ∙ (bare-append so.other_front h.others ∙ ap (λ l. l ++ bare h.others) (sym so.same)) in
    let rests : bare h.more ≡ bare h.others =
    append_cancel_left (bare so.front) (bare h.more) (bare h.others) (sym left ∙ (e ∙ right)) in
    h.differ (sym (head_bare h.more) ∙ (ap head rests ∙ head_bare h.others))

pub same_answer : (comments : Bool) (source other : List ℕ) → ComparesTexts comments source other None
    → AreSame comments source other true
same_answer false source other h = λ first second s t g k.
    let trees = same_trees first second source other s t g k in
    (λ is. trees.0 (h g.pieces k.pieces g.covers k.covers), λ same. refl)
same_answer true source other h = λ us vs covers other_covers.
    (λ is. h us vs covers other_covers, λ same. refl)

pub differ_answer : (comments : Bool) (source other : List ℕ) (places : Bor (List ℕ) × Bor (List ℕ))
    → ComparesTexts comments source other (Some places) → AreSame comments source other false
differ_answer false source other places h = λ first second s t g k.
    let trees = same_trees first second source other s t g k in (
      λ is. absurd (both_ways false refl is),
      λ same. absurd (apart _ _ _ _ (h g.pieces k.pieces g.covers k.covers) (trees.1 same)),
    )
differ_answer true source other places h = λ us vs covers other_covers. (
  λ is. absurd (both_ways false refl is),
  λ same. absurd (apart _ _ _ _ (h us vs covers other_covers) same),
)
