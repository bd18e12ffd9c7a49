-- The fillings of holes.
use Rattle.std.proofs.Common.{◌≡◌, ◌≢◌, ℕ, zero, suc, ◌+◌, Option, Some, None, List, [], ◌∷◌, ap, arith}
use Rattle.std.specs.Coded.{Coded}
use base.Stored.{Gv, gnil, gnum, gcons}
use Rattle.proc_macro2.specs.Codec.{coded_forest}
use Rattle.proc_macro2.specs.Forest.{Forest}

-- why a value has no tokens
pub data Misfit : Type 0 where
  -- a text that is not an identifier
  no_name : Misfit
  -- a float that is infinite or not a number
  no_number : Misfit

-- the values of a list, in order. Each is trees, or the reason why it has none, or a list
pub data Items : Type 0 where
  end : Items
  trees : Forest → Items → Items
  misfit : Misfit → Items → Items
  list : Items → Items → Items

-- the filling of a hole: trees, the reason why it has none, or a list of which each turn takes the next value
pub data Filling : Type 0 where
  One : Forest → Filling
  Unfit : Misfit → Filling
  Each : Items → Filling

-- the list with one more value at the front
abbrev pub item : Filling → Items → Items
item (One stream) rest = trees stream rest
item (Unfit why) rest = misfit why rest
item (Each inside) rest = list inside rest

-- the list with one more value at the end
abbrev pub and_last : Items → Filling → Items
and_last end filling = item filling end
and_last (trees stream rest) filling = trees stream (and_last rest filling)
and_last (misfit why rest) filling = misfit why (and_last rest filling)
and_last (list inside rest) filling = list inside (and_last rest filling)

-- the list of the values of `xs`
abbrev pub each_of : {A : Type 0} → (A → Filling) → List A → Items
each_of filling [] = end
each_of filling (x ∷ xs) = item (filling x) (each_of filling xs)

-- the number of values
abbrev pub item_count : Items → ℕ
item_count end = 0
item_count (trees stream rest) = suc (item_count rest)
item_count (misfit why rest) = suc (item_count rest)
item_count (list inside rest) = suc (item_count rest)

-- the value for a turn, counted from 0
abbrev pub item_at : ℕ → Items → Option Filling
item_at turn end = None
item_at zero (trees stream rest) = Some (One stream)
item_at zero (misfit why rest) = Some (Unfit why)
item_at zero (list inside rest) = Some (Each inside)
item_at (suc turn) (trees stream rest) = item_at turn rest
item_at (suc turn) (misfit why rest) = item_at turn rest
item_at (suc turn) (list inside rest) = item_at turn rest

-- ---- the code of items, as a `Model` requires

-- the number of lists in the items, at any depth
abbrev pub height : Items → ℕ
height end = 0
height (trees stream rest) = height rest
height (misfit why rest) = height rest
height (list inside rest) = suc (height inside) + height rest

-- the two parts of a pair
abbrev head : Gv → Gv
head gnil = gnil
head (gnum n) = gnil
head (gcons a b) = a

abbrev tail : Gv → Gv
tail gnil = gnil
tail (gnum n) = gnil
tail (gcons a b) = b

-- pairs that begin with different numbers are different
apart : (m n : ℕ) {a b : Gv} → gcons (gnum m) a ≡ gcons (gnum n) b → m ≢ n → ⊥
apart m n p other = other (cc)

abbrev forest_code : Forest → Gv
forest_code = coded_forest.code

-- the code of items
abbrev pub items_code : Items → Gv
items_code end = gcons (gnum 0) gnil
items_code (trees stream rest) = gcons (gnum 1) (gcons (forest_code stream) (items_code rest))
items_code (misfit no_name rest) = gcons (gnum 2) (items_code rest)
items_code (misfit no_number rest) = gcons (gnum 3) (items_code rest)
items_code (list inside rest) = gcons (gnum 4) (gcons (items_code inside) (items_code rest))

pub items_inj : (x y : Items) → items_code x ≡ items_code y → x ≡ y
items_inj end end p = λ i. end
items_inj end (trees s r) p = absurd (apart 0 1 p (omega arith))
items_inj end (misfit no_name r) p = absurd (apart 0 2 p (omega arith))
items_inj end (misfit no_number r) p = absurd (apart 0 3 p (omega arith))
items_inj end (list s r) p = absurd (apart 0 4 p (omega arith))
items_inj (trees s r) end p = absurd (apart 1 0 p (omega arith))
items_inj (trees s r) (trees t q) p = λ i.
    trees (coded_forest.inj s t (ap (λ v. head (tail v)) p) i) (items_inj r q (ap (λ v. tail (tail v)) p) i)
items_inj (trees s r) (misfit no_name q) p = absurd (apart 1 2 p (omega arith))
items_inj (trees s r) (misfit no_number q) p = absurd (apart 1 3 p (omega arith))
items_inj (trees s r) (list t q) p = absurd (apart 1 4 p (omega arith))
items_inj (misfit no_name r) end p = absurd (apart 2 0 p (omega arith))
items_inj (misfit no_name r) (trees t q) p = absurd (apart 2 1 p (omega arith))
items_inj (misfit no_name r) (misfit no_name q) p = λ i. misfit no_name (items_inj r q (ap tail p) i)
items_inj (misfit no_name r) (misfit no_number q) p = absurd (apart 2 3 p (omega arith))
items_inj (misfit no_name r) (list t q) p = absurd (apart 2 4 p (omega arith))
items_inj (misfit no_number r) end p = absurd (apart 3 0 p (omega arith))
items_inj (misfit no_number r) (trees t q) p = absurd (apart 3 1 p (omega arith))
items_inj (misfit no_number r) (misfit no_name q) p = absurd (apart 3 2 p (omega arith))
items_inj (misfit no_number r) (misfit no_number q) p = λ i. misfit no_number (items_inj r q (ap tail p) i)
items_inj (misfit no_number r) (list t q) p = absurd (apart 3 4 p (omega arith))
items_inj (list s r) end p = absurd (apart 4 0 p (omega arith))
items_inj (list s r) (trees t q) p = absurd (apart 4 1 p (omega arith))
items_inj (list s r) (misfit no_name q) p = absurd (apart 4 2 p (omega arith))
items_inj (list s r) (misfit no_number q) p = absurd (apart 4 3 p (omega arith))
items_inj (list s r) (list t q) p = λ i.
    list (items_inj s t (ap (λ v. head (tail v)) p) i) (items_inj r q (ap (λ v. tail (tail v)) p) i)

-- the items and their code
abbrev pub coded_items : Coded Items
coded_items = record { code = items_code; inj = items_inj }
