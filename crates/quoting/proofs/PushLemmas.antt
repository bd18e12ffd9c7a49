-- A stream to which an iterator over one item is added.
use Rattle.std.proofs.Common.{◌≡◌, List, [], ◌∷◌, ◌++◌, Option, Some, Result, Ok, Err, OnOk, OnErr, MatchResult, length}
use Rattle.std.proofs.Common.{length-append, refl, sym, ap, ◌∙◌, arith}
use Rattle.std.specs.Iterator.{Drains, Yields}
use Rattle.proc_macro2.specs.Building.{PutsIn, trees_of_all}
use Rattle.proc_macro2.specs.Forest.{Forest, chain}
use Rattle.quoting.proofs.PartLemmas.{joined_nil}

-- the items that the iterator has left, by single steps and as a whole
pub record Lists {S A : Type 0} (steps : S → Option A → S → Type 0) (left : S → List A) : Type 0 where
  pub each : (it next : S) (x : A) → steps it (Some x) next → left it ≡ x ∷ left next
  pub all : (it : S) (xs : List A) → Drains steps it xs → xs ≡ left it

yields_front : {S A : Type 0} (steps : S → Option A → S → Type 0) (left : S → List A) → Lists steps left
    → (it now : S) (xs : List A) → Yields steps it xs now → left it ≡ xs ++ left now
yields_front steps left lists it now [] h = ap left h
yields_front steps left lists it now (x ∷ xs) h =
    lists.each it h.0 x h.1 ∙ ap (λ ys. x ∷ ys) (yields_front steps left lists h.0 now xs h.2)

none_before : {A : Type 0} (xs ys : List A) (x y : A) → xs ++ y ∷ ys ≡ x ∷ [] → xs ≡ []
none_before [] ys x y h = refl
none_before (z ∷ xs) ys x y h = absurd (omega (arith, ap length h, length-append xs (y ∷ ys)))

-- one item is added
pub put_one : {S A E : Type 0} (Begins : S → Type 0) (steps : S → Option A → S → Type 0) (left : S → List A)
    (trees : A → Forest) (item : A) (was old new : Forest) (r : Result (Unit {0}) E) → was ≡ old → Lists steps left
    → ((it : S) × (xs : List A) × Begins it × PutsIn trees was xs new
    × MatchResult r (λ _. Drains steps it xs) (λ _. (now : S) × Yields steps it xs now))
    → ((it : S) → Begins it → left it ≡ item ∷ [])
    → OnOk r (new ≡ chain old (trees item))
put_one Begins steps left trees item was old new (Err e) same lists ran one = tt
put_one Begins steps left trees item was old new (Ok u) same lists ran one =
    let items : ran.1 ≡ item ∷ [] = lists.all ran.0 ran.1 ran.4 ∙ one ran.0 ran.2 in
    ran.3
    ∙ (ap (λ xs. chain was (trees_of_all trees xs)) items
    ∙ (ap (chain was) (joined_nil (trees item)) ∙ ap (λ f. chain f (trees item)) same))

-- after an error nothing is added
pub refuse_one : {S A E : Type 0} (Begins : S → Type 0) (steps : S → Option A → S → Type 0) (left : S → List A)
    (trees : A → Forest) (item : A) (was old new : Forest) (r : Result (Unit {0}) E) → was ≡ old → Lists steps left
    → OnErr r ((it : S) × (xs : List A) × (last : A) × (now : S) × (rest : S) × Begins it × Yields steps it xs now
    × steps now (Some last) rest × PutsIn trees was xs new)
    → ((it : S) → Begins it → left it ≡ item ∷ [])
    → OnErr r (new ≡ old)
refuse_one Begins steps left trees item was old new (Ok u) same lists refused one = tt
refuse_one Begins steps left trees item was old new (Err e) same lists
    (it, items, last, now, rest, is, yields, step, puts) one =
    let whole : items ++ last ∷ left rest ≡ item ∷ [] =
    sym (yields_front steps left lists it now items yields ∙ ap (λ xs. items ++ xs) (lists.each now rest last step))
    ∙ one it is in
    let none : items ≡ [] = none_before items (left rest) item last whole in
    puts ∙ (ap (λ xs. chain was (trees_of_all trees xs)) none ∙ (joined_nil was ∙ same))
