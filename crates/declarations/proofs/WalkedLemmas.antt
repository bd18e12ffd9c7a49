-- Walks of the tables over the signs of trees.
use Rattle.std.proofs.Common.{◌≡◌, refl, sym, ◌∙◌, ap, ◌+◌, ◌≤◌, List, [], ◌∷◌, ◌++◌, Some}
use Rattle.std.proofs.Common.{length, append_assoc, append-nil}
use Rattle.pm_stream.specs.declared.stream.TokenTree.{TokenTree}
use Rattle.declarations.proofs.ReadingLemmas.{classes-append, trees-append}
use Rattle.declarations.proofs.WalkLemmas.{after, walk-append, walk-cons}
use Rattle.declarations.specs.Signs.{BeginsWith, Sign, classes_of, signs, trees_of}
use Rattle.declarations.specs.Tables.{Walked}
use Rattle.declarations.specs.Walk.{walk}
use Rattle.item_tables.specs.Walk.{step}
use Rattle.item_tables.specs.declared.class.SignClass.{SignClass}
use Rattle.item_tables.specs.declared.walk_state.WalkState.{WalkState}

-- a walk up to the left trees, with room for the number of open brackets to grow
pub record Walking (start : WalkState) (trees left : List TokenTree) (place : WalkState) : Type 0 where
  pub walked : Walked start trees left place
  pub room : place.depth + length left ≤ length trees

pub walked-none : (start : WalkState) (trees : List TokenTree) → Walked start trees trees start
walked-none start trees = record { front = []; read = refl; whole = refl; walks = refl }

-- the walk after one more sign
pub walked-more : (start : WalkState) (trees left : List TokenTree) (place next : WalkState) (class : SignClass)
    (rest : List TokenTree) → Walked start trees left place → BeginsWith left class rest
    → step place class ≡ Some next → Walked start trees rest next
walked-more start trees left place next class rest walked begins steps =
    let sign : Sign = record { class = class; trees = begins.front } in
    let front : List Sign = walked.front ++ sign ∷ [] in
    let read : signs trees ≡ front ++ signs rest =
    walked.read ∙ ap (λ ss. walked.front ++ ss) begins.read
    ∙ sym (append_assoc walked.front (sign ∷ []) (signs rest)) in
    let one : trees_of (sign ∷ []) ≡ begins.front = append-nil begins.front in
    let taken : trees_of front ≡ trees_of walked.front ++ begins.front =
    trees-append walked.front (sign ∷ []) ∙ ap (λ ts. trees_of walked.front ++ ts) one in
    let whole : trees ≡ trees_of front ++ rest =
    walked.whole ∙ ap (λ ts. trees_of walked.front ++ ts) begins.whole
    ∙ sym (append_assoc (trees_of walked.front) begins.front rest) ∙ ap (λ ts. ts ++ rest) (sym taken) in
    let walks : walk step start (classes_of front) ≡ Some next =
    ap (walk step start) (classes-append walked.front (sign ∷ []))
    ∙ walk-append step start (classes_of walked.front) (class ∷ [])
    ∙ ap (λ o. after step o (class ∷ [])) walked.walks
    ∙ walk-cons step place class [] ∙ ap (λ o. after step o []) steps in
    record { front = front; read = read; whole = whole; walks = walks }
