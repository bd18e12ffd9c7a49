-- The trees that are put into streams.
use Rattle.std.specs.Prelude.{◌≡◌, List, [], ◌∷◌, Option, Some, if◌then◌else◌}
use Rattle.std.specs.Iterator.{Drains, Yields}
use Rattle.pm_token.specs.Negative.{has_minus, minus_of, number_of}
use Rattle.pm_stream.specs.Forest.{Forest, nil, chain}
use Rattle.pm_stream.specs.Trees.{alone, before}
use Rattle.pm_stream.specs.declared.stream.TokenTree.{TokenTree}
use Rattle.pm_stream.specs.declared.stream.TokenTree.TheVariants.{Group, Ident, Punct, Literal}

-- `split`: the trees that a stream gets for one tree that is put in. A negative literal gives its `-` and the rest
abbrev pub split : TokenTree → Forest
split (Group g) = alone (Group g)
split (Ident i) = alone (Ident i)
split (Punct p) = alone (Punct p)
split (Literal l) =
    if has_minus l.text then before (Punct (minus_of l)) (alone (Literal (number_of l))) else alone (Literal l)

-- the trees of each item, one item after another
abbrev pub trees_of_all : {A : Type 0} → (A → Forest) → List A → Forest
trees_of_all trees [] = nil
trees_of_all trees (item ∷ items) = chain (trees item) (trees_of_all trees items)

-- the new stream has the old trees, and then the trees of each item
abbrev pub PutsIn : {A : Type 0} → (A → Forest) → Forest → List A → Forest → Type 0
PutsIn trees old items new = new ≡ chain old (trees_of_all trees items)

-- the iterable gives at least one item
abbrev pub GivesAnItem : {U T A : Type 0} → (U → T → Type 0) → (T → Option A → T → Type 0) → U → Type 0
GivesAnItem {U} {T} {A} becomes steps iterable =
    (it : T) × (first : A) × (rest : T) × becomes iterable it × steps it (Some first) rest

-- the property holds of the list of all items that the iterable gives
abbrev pub GivesAll : {U T A : Type 0} → (U → T → Type 0) → (T → Option A → T → Type 0) → U → (List A → Type 0) → Type 0
GivesAll {U} {T} {A} becomes steps iterable holds =
    (it : T) × (items : List A) × becomes iterable it × Drains steps it items × holds items

-- memory ran out at some item, and exactly the items before it were put in
abbrev pub RefusesAnItem : {U T A B : Type 0} → (U → T → Type 0) → (T → Option A → T → Type 0)
    → (B → List A → B → Type 0)
    → U → B → B → Type 0
RefusesAnItem {U} {T} {A} becomes steps extends iterable old new =
    (it : T) × (items : List A) × (refused : A) × (now : T) × (rest : T) × becomes iterable it
    × Yields steps it items now
    × steps now (Some refused) rest × extends old items new
