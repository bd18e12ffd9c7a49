-- The items of an array's iterator.
use Rattle.std.proofs.Common.{◌≡◌, ℕ, List, ◌∙◌, sym, map-id}
use Rattle.std.proofs.iter.Yields.{listed, gives_Drains}
use Rattle.std.specs.Array.Iter.{array_into_iter_items, array_steps}
use Rattle.std.specs.Iterator.{Drains}

-- the iterator of an array gives all items that are left
pub drain_gives : {A : Type 0} {n : ℕ} (it : _) (xs : List A) → Drains (array_steps {A = A} {n = n}) it xs
    → xs ≡ array_into_iter_items it
drain_gives {A} {n} it xs d =
    sym (map-id xs) ∙ gives_Drains (array_steps {A = A} {n = n}) (λ x. x) xs (array_into_iter_items it) it
    (listed {B = A} (array_steps {A = A} {n = n}) (λ x. x) array_into_iter_items (λ s t p. p.0) (λ s x t p. p) it) d
