-- The values of lists, and the fillings of holes in turns of repetitions.
use Rattle.std.proofs.Common.{◌≡◌, ℕ, zero, suc, ◌+◌, ◌<◌, ◌++◌, Bool, true, false, Option, Some, None, List, []}
use Rattle.std.proofs.Common.{◌∷◌, length, take, get_or, nat_eq, if◌then◌else◌, refl, sym, ap, ap₂, ◌∙◌}
use Rattle.std.specs.Cmp.Lexicographic.{pointwise}
use Rattle.std.specs.List.{slice_get}
use Rattle.std.specs.Borrow.{Bor}
use Rattle.std.specs.Prelude.{MatchOption}
use Rattle.std.specs.Slice.{IsItemAt}
use Rattle.std.proofs.lemmas.List.{take_more}
use Rattle.std.proofs.lemmas.Option.{slice_get_past, slice_get_read}
use Rattle.quoting.specs.Given.{in_all}
use Rattle.quoting.specs.Holes.{Named, all_in_turn, filling_of, in_turn}
use Rattle.quoting.specs.Items.{Filling, One, Unfit, Each, Items, and_last, each_of, item, item_at, item_count}

-- ---- lists

and_last-item : (f : Filling) (rest : Items) (g : Filling) → and_last (item f rest) g ≡ item f (and_last rest g)
and_last-item (One stream) rest g = refl
and_last-item (Unfit why) rest g = refl
and_last-item (Each inside) rest g = refl

pub each_push : {A : Type 0} (f : A → Filling) (xs : List A) (x : A)
    → each_of f (xs ++ x ∷ []) ≡ and_last (each_of f xs) (f x)
each_push f [] x = refl
each_push f (y ∷ ys) x =
    ap (item (f y)) (each_push f ys x) ∙ sym (and_last-item (f y) (each_of f ys) (f x))

-- one value more of a list that is gone through
pub each_more : {A : Type 0} (f : A → Filling) (xs : List A) (i : ℕ) (d x : A) (values : Items)
    → i < length xs → x ≡ get_or xs i d → values ≡ each_of f (take i xs)
    → and_last values (f x) ≡ each_of f (take (i + 1) xs)
each_more f xs i d x values in_list is were =
    ap₂ and_last were (ap f is)
    ∙ (sym (each_push f (take i xs) (get_or xs i d)) ∙ ap (each_of f) (sym (take_more xs i d in_list)))

item_count-item : (f : Filling) (rest : Items) → item_count (item f rest) ≡ suc (item_count rest)
item_count-item (One stream) rest = refl
item_count-item (Unfit why) rest = refl
item_count-item (Each inside) rest = refl

pub item_count_each : {A : Type 0} (f : A → Filling) (xs : List A) → item_count (each_of f xs) ≡ length xs
item_count_each f [] = refl
item_count_each f (x ∷ xs) = item_count-item (f x) (each_of f xs) ∙ ap suc (item_count_each f xs)

-- the function applied to the item, if there is one
abbrev pub map_option : {A B : Type 0} → (A → B) → Option A → Option B
map_option f None = None
map_option f (Some x) = Some (f x)

item_at-first : (f : Filling) (rest : Items) → item_at zero (item f rest) ≡ Some f
item_at-first (One stream) rest = refl
item_at-first (Unfit why) rest = refl
item_at-first (Each inside) rest = refl

item_at-later : (n : ℕ) (f : Filling) (rest : Items) → item_at (suc n) (item f rest) ≡ item_at n rest
item_at-later n (One stream) rest = refl
item_at-later n (Unfit why) rest = refl
item_at-later n (Each inside) rest = refl

pub item_at_each : {A : Type 0} (f : A → Filling) (n : ℕ) (xs : List A)
    → item_at n (each_of f xs) ≡ map_option f (slice_get xs n)
item_at_each f zero [] = refl
item_at_each f (suc n) [] = refl
item_at_each f zero (x ∷ xs) = item_at-first (f x) (each_of f xs)
item_at_each f (suc n) (x ∷ xs) = item_at-later n (f x) (each_of f xs) ∙ item_at_each f n xs

-- a borrowed element is the value at its index
pub lends_item : {A : Type 0} (f : A → Filling) (xs : List A) (i : ℕ) (r : Option (Bor A)) → IsItemAt xs i r
    → map_option (λ (x : Bor A). f x.now) r ≡ item_at i (each_of f xs)
lends_item f xs i None h = sym (item_at_each f i xs ∙ ap (map_option f) (slice_get_past xs i h.3))
lends_item f xs i (Some x) h =
    sym (item_at_each f i xs ∙ ap (map_option f) (slice_get_read xs (length xs) i x.now refl h.3.0 h.1))

pub lent_value : {A : Type 0} (f : A → Filling) (xs : List A) (i : ℕ) (r : Option (Bor A)) → IsItemAt xs i r
    → MatchOption r (item_at i (each_of f xs) ≡ None) (λ (x : Bor A). item_at i (each_of f xs) ≡ Some (f x.now))
lent_value f xs i None h = sym (lends_item f xs i None h)
lent_value f xs i (Some x) h = sym (lends_item f xs i (Some x) h)

-- ---- turns

-- the filling in the given turns, the outermost first
abbrev pub after : List ℕ → Filling → Filling
after [] filling = filling
after (turn ∷ turns) filling = after turns (in_turn turn filling)

map_option-if : {A B : Type 0} (f : A → B) (b : Bool) (x : A) (o : Option A) (p : Option B) → p ≡ map_option f o
    → (if b then Some (f x) else p) ≡ map_option f (if b then Some x else o)
map_option-if f true x o p h = refl
map_option-if f false x o p h = h

filling_of-in_turn : (turn : ℕ) (holes : List Named) (name : List ℕ)
    → filling_of (all_in_turn turn holes) name ≡ map_option (in_turn turn) (filling_of holes name)
filling_of-in_turn turn [] name = refl
filling_of-in_turn turn (hole ∷ holes) name =
    map_option-if (in_turn turn) (pointwise nat_eq name hole.name) hole.filling (filling_of holes name) _
    (filling_of-in_turn turn holes name)

map_option-map_option : {A B C : Type 0} (g : B → C) (f : A → B) (o : Option A)
    → map_option g (map_option f o) ≡ map_option (λ x. g (f x)) o
map_option-map_option g f None = refl
map_option-map_option g f (Some x) = refl

map_option-itself : {A : Type 0} (o : Option A) → o ≡ map_option (λ x. x) o
map_option-itself None = refl
map_option-itself (Some x) = refl

pub filling_in_all : (turns : List ℕ) (holes : List Named) (name : List ℕ)
    → filling_of (in_all turns holes) name ≡ map_option (after turns) (filling_of holes name)
filling_in_all [] holes name = map_option-itself (filling_of holes name)
filling_in_all (turn ∷ turns) holes name =
    filling_in_all turns (all_in_turn turn holes) name
    ∙ (ap (map_option (after turns)) (filling_of-in_turn turn holes name)
    ∙ map_option-map_option (after turns) (in_turn turn) (filling_of holes name))

pub in_all_more : (turns : List ℕ) (turn : ℕ) (holes : List Named)
    → in_all (turns ++ turn ∷ []) holes ≡ all_in_turn turn (in_all turns holes)
in_all_more [] turn holes = refl
in_all_more (t ∷ ts) turn holes = in_all_more ts turn (all_in_turn t holes)

pub filling_begun : (turns : List ℕ) (holes : List Named) (name : List ℕ) (found : Option Filling)
    → found ≡ filling_of holes name → map_option (after turns) found ≡ filling_of (in_all turns holes) name
filling_begun turns holes name found is = ap (map_option (after turns)) is ∙ sym (filling_in_all turns holes name)
