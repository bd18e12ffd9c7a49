-- Lists of trees and their forests.
use Rattle.std.proofs.Common.{All, ◌≡◌, ℕ, ◌+◌, ◌*◌, ◌<◌, ◌≤◌, get_or, arith, false, List, [], ◌∷◌}
use Rattle.std.proofs.Common.{◌++◌, length, nat_eq, refl, sym, ap, ◌∙◌, rules}
use Rattle.pm_stream.specs.Events.{Event, One, Opens, Closes}
use Rattle.pm_stream.specs.Forest.{Forest, nil, leaf, group, flat_onto, flattening, chain, IsBuilt}
use Rattle.std.proofs.lemmas.List.Elements.{All-nil, All-cons}
use denote.Param.Weighed.{most, at_most}
use Rattle.pm_stream.specs.InnerSize.{deep_le-before}
use Rattle.pm_stream.specs.Size.{is_nil, count}
use Rattle.pm_stream.specs.declared.stream.TokenStream.TheDeep.{size-TokenTree}
use Rattle.pm_stream.specs.Trees.{before, forest, alone, GoesInside}
use Rattle.pm_stream.specs.declared.stream.Group.{Group as Grouped}
use Rattle.pm_stream.specs.declared.stream.TokenTree.{TokenTree}
use Rattle.pm_stream.specs.declared.stream.TokenTree.TheVariants.{Group, Ident, Punct, Literal}

is_nil-before : (t : TokenTree) (f : Forest) → is_nil (before t f) ≡ false
is_nil-before (Group g) f = refl
is_nil-before (Ident i) f = refl
is_nil-before (Punct p) f = refl
is_nil-before (Literal l) f = refl

pub is_nil-forest : (ts : List TokenTree) → is_nil (forest ts) ≡ nat_eq (length ts) 0
is_nil-forest [] = refl
is_nil-forest (t ∷ ts) = is_nil-before t (forest ts) ∙ search rules

pub joined-before : (t : TokenTree) (f k : Forest) → chain (before t f) k ≡ before t (chain f k)
joined-before (Group g) f k = refl
joined-before (Ident i) f k = refl
joined-before (Punct p) f k = refl
joined-before (Literal l) f k = refl

-- one more tree
pub forest-push : (ts : List TokenTree) (t : TokenTree) → forest (ts ++ t ∷ []) ≡ chain (forest ts) (alone t)
forest-push [] t = refl
forest-push (u ∷ ts) t = ap (before u) (forest-push ts t) ∙ sym (joined-before u (forest ts) (alone t))

pub IsBuilt-joined : (f k : Forest) → IsBuilt f → IsBuilt k → IsBuilt (chain f k)
IsBuilt-joined nil k p q = q
IsBuilt-joined (leaf t lo hi f) k p q = (p.0, p.1, IsBuilt-joined f k p.2 q)
IsBuilt-joined (group d lo hi f g) k p q = (p.0, p.1, IsBuilt-joined g k p.2 q)

-- the first of two forests is built if both together are
pub IsBuilt-front : (f k : Forest) → IsBuilt (chain f k) → IsBuilt f
IsBuilt-front nil k p = tt
IsBuilt-front (leaf t lo hi f) k p = (p.0, p.1, IsBuilt-front f k p.2)
IsBuilt-front (group d lo hi f g) k p = (p.0, p.1, IsBuilt-front g k p.2)

-- each tree of a list that is built may be put into a stream
pub built_inside : (ts : List TokenTree) → IsBuilt (forest ts) → All GoesInside ts
built_inside [] h = All-nil GoesInside
built_inside (Group g ∷ ts) h = All-cons GoesInside (Group g) ts tt (built_inside ts h.2)
built_inside (Ident i ∷ ts) h = All-cons GoesInside (Ident i) ts tt (built_inside ts h.2)
built_inside (Punct p ∷ ts) h = All-cons GoesInside (Punct p) ts tt (built_inside ts h.2)
built_inside (Literal l ∷ ts) h = All-cons GoesInside (Literal l) ts h.0.0 (built_inside ts h.2)

-- the events of two forests together
pub flat_onto-joined : (f g : Forest) (es : List Event) → flat_onto (chain f g) es ≡ flat_onto f (flat_onto g es)
flat_onto-joined nil g es = refl
flat_onto-joined (leaf t lo hi f) g es = ap (λ e. One t lo hi ∷ e) (flat_onto-joined f g es)
flat_onto-joined (group d lo hi f k) g es =
    ap (λ e. Opens d lo ∷ flat_onto f (Closes d hi ∷ e)) (flat_onto-joined k g es)

-- a flattening onto other events is the flattening alone, and then the other events
pub flat_onto-append : (f : Forest) (es more : List Event) → flat_onto f es ++ more ≡ flat_onto f (es ++ more)
flat_onto-append nil es more = refl
flat_onto-append (leaf t lo hi f) es more = ap (λ e. One t lo hi ∷ e) (flat_onto-append f es more)
flat_onto-append (group d lo hi f g) es more =
    ap (λ e. Opens d lo ∷ e) (flat_onto-append f (Closes d hi ∷ flat_onto g es) more
    ∙ ap (λ e. flat_onto f (Closes d hi ∷ e)) (flat_onto-append g es more))

pub flattening-joined : (f g : Forest) → flattening (chain f g) ≡ flattening f ++ flattening g
flattening-joined f g = flat_onto-joined f g [] ∙ sym (flat_onto-append f [] (flattening g))

-- the measure of each tree of a list is less than that of the stream
pub most_size_le : (ts : List TokenTree) → most size-TokenTree ts ≤ 3 * count (forest ts) + 2
most_size_le [] = omega arith
most_size_le (t ∷ ts) = omega (arith, deep_le-before t (forest ts), most_size_le ts)

pub item_size_le : (ts : List TokenTree) (i : ℕ) (t : TokenTree) (f : Forest) → i < length ts → t ≡ get_or ts i t
    → forest ts ≡ f → size-TokenTree t ≤ 3 * count f + 2
item_size_le ts i t f h is e = omega (
  arith,
  at_most size-TokenTree ts i t h,
  most_size_le ts,
  ap size-TokenTree is,
  ap count e,
)

pub count-joined : (f g : Forest) → count (chain f g) ≡ count f + count g
count-joined nil g = omega arith
count-joined (leaf t lo hi f) g = omega (arith, count-joined f g)
count-joined (group d lo hi f k) g = omega (arith, count-joined k g)

-- the way back is put where a group was
pub count-put : (old new : Forest) (g : Grouped) → new ≡ chain old (alone (Group g))
    → count new ≡ count old + 1 + count g.stream
count-put old new g p = omega (arith, ap count p, count-joined old (alone (Group g)))

pub count-not_nil : (f : Forest) → is_nil f ≡ false → 0 < count f
count-not_nil nil e = cc
count-not_nil (leaf t lo hi f) e = omega arith
count-not_nil (group d lo hi f g) e = omega arith
