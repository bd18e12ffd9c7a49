-- Trees that are put into streams.
use Rattle.std.proofs.Common.{◌≡◌, ◌≤◌, Bool, true, false, List, [], ◌∷◌, ◌++◌, Option, Some, None, MatchOption, Result}
use Rattle.std.proofs.Common.{Ok, Err, OnOk, OnErr, Vec, ◌⊎◌, inl, inr, refl, sym, ap, ap₂, subst, ◌∙◌, append_assoc}
use Rattle.std.proofs.Common.{if◌then◌else◌}
use Rattle.std.specs.Iterator.{Drains, Yields}
use Rattle.std.specs.List.{AllZip}
use Rattle.std.specs.Vec.{vec_len}
use Rattle.std.specs.declared.alloc.Global.{Global}
use Rattle.std.proofs.lemmas.List.Elements.{same_from_all_zip}
use Rattle.pm_token.specs.Leaf.{Mark, Text}
use Rattle.pm_token.specs.LiteralText.{IsLiteralText}
use Rattle.pm_token.specs.Negative.{has_minus, minus_of, number_of}
use Rattle.pm_token.proofs.WholeLemmas.{number_built, plain_built}
use Rattle.pm_stream.specs.Building.{GivesAll, GivesAnItem, PutsIn, trees_of_all, split}
use Rattle.pm_stream.specs.Forest.{Forest, nil, leaf, group, chain, IsBuilt}
use Rattle.pm_stream.specs.Trees.{alone, before, forest}
use Rattle.pm_stream.specs.declared.stream.TokenTree.{TokenTree}
use Rattle.pm_stream.specs.declared.stream.TokenTree.TheVariants.{Punct, Literal}
use Rattle.pm_stream.proofs.TreeLemmas.{IsBuilt-joined, joined-before}

-- ---- forests one after another

pub joined_nil : (f : Forest) → chain f nil ≡ f
joined_nil nil = refl
joined_nil (leaf t lo hi f) = ap (leaf t lo hi) (joined_nil f)
joined_nil (group d lo hi f g) = ap (group d lo hi f) (joined_nil g)

pub joined_assoc : (f g h : Forest) → chain (chain f g) h ≡ chain f (chain g h)
joined_assoc nil g h = refl
joined_assoc (leaf t lo hi f) g h = ap (leaf t lo hi) (joined_assoc f g h)
joined_assoc (group d lo hi f k) g h = ap (group d lo hi f) (joined_assoc k g h)

-- the trees of one more item
gathered_push : {A : Type 0} (trees : A → Forest) (items : List A) (item : A)
    → trees_of_all trees (items ++ item ∷ []) ≡ chain (trees_of_all trees items) (trees item)
gathered_push trees [] item = joined_nil (trees item)
gathered_push trees (first ∷ items) item =
    ap (chain (trees first)) (gathered_push trees items item)
    ∙ sym (joined_assoc (trees first) (trees_of_all trees items) (trees item))

pub puts_more : {A : Type 0} (trees : A → Forest) (old now new : Forest) (items : List A) (item : A)
    → PutsIn trees old items now → new ≡ chain now (trees item) → PutsIn trees old (items ++ item ∷ []) new
puts_more trees old now new items item so_far more =
    more ∙ ap (λ f. chain f (trees item)) so_far ∙ joined_assoc old (trees_of_all trees items) (trees item)
    ∙ ap (chain old) (sym (gathered_push trees items item))

-- ---- trees that are pushed onto a list

pub forest_append : (old more : List TokenTree) → forest (old ++ more) ≡ chain (forest old) (forest more)
forest_append [] more = refl
forest_append (t ∷ old) more = ap (before t) (forest_append old more) ∙ sym (joined-before t (forest old) (forest more))

-- the parts of a literal: its mark and the rest, or no mark and the literal
abbrev AreParts : Text → Option Mark → Text → Type 0
AreParts l minus rest =
    MatchOption minus ((has_minus l.text ≡ false) × (rest ≡ l))
    (λ m. (has_minus l.text ≡ true) × (m ≡ minus_of l) × (rest ≡ number_of l))

split_by : (l : Text) (b : Bool) → has_minus l.text ≡ b
    → split (Literal l) ≡ (if b then before (Punct (minus_of l)) (alone (Literal (number_of l))) else alone (Literal l))
split_by l b is = ap (λ x. if x then before (Punct (minus_of l)) (alone (Literal (number_of l))) else alone (Literal l))
    is

-- a literal without a sign is put in as it is
pub split_plain : (l rest : Text) (minus : Option Mark) → AreParts l minus rest → minus ≡ None
    → split (Literal l) ≡ alone (Literal rest)
split_plain l rest minus parts none =
    let known = subst (λ o. AreParts l o rest) none parts in
    split_by l false known.0 ∙ ap (λ (x : Text). alone (Literal x)) (sym known.1)

-- a literal with a sign gives its mark and the rest
pub split_negative : (l rest : Text) (m : Mark) (minus : Option Mark) → AreParts l minus rest → minus ≡ Some m
    → split (Literal l) ≡ before (Punct m) (alone (Literal rest))
split_negative l rest m minus parts some =
    let known = subst (λ o. AreParts l o rest) some parts in
    split_by l true known.0
    ∙ ap₂ (λ (x : Mark) (y : Text). before (Punct x) (alone (Literal y))) (sym known.1) (sym known.2)

-- the mark and the rest of a literal are pushed one after the other
pub pushed_two : (old first new : List TokenTree) (m : Mark) (rest : Text)
    → first ≡ old ++ Punct m ∷ [] → new ≡ first ++ Literal rest ∷ []
    → forest new ≡ chain (forest old) (before (Punct m) (alone (Literal rest)))
pushed_two old first new m rest one two =
    ap forest (two ∙ (ap (λ ts. ts ++ Literal rest ∷ []) one ∙ append_assoc old (Punct m ∷ []) (Literal rest ∷ [])))
    ∙ forest_append old (Punct m ∷ Literal rest ∷ [])

-- a copy of a list has the same trees
pub clones_same : (old new : Vec TokenTree Global)
    → (new ≡ old) ⊎ (AllZip (λ t copy. copy ≡ t) old.items new.items × (vec_len new ≡ vec_len old))
    → new.items ≡ old.items
clones_same old new (inl same) = ap (λ (v : Vec TokenTree Global). v.items) same
clones_same old new (inr copied) = same_from_all_zip _ old.items new.items copied.0 (λ x y e. e)

-- ---- streams that are built

pub built_after : {E : Type 0} (r : Result (Unit {0}) E) (old new more : Forest)
    → OnOk r (new ≡ chain old more) → OnErr r (new ≡ old) → IsBuilt old → IsBuilt more → IsBuilt new
built_after (Ok u) old new more ok err p q = subst IsBuilt (sym ok) (IsBuilt-joined old more p q)
built_after (Err e) old new more ok err p q = subst IsBuilt (sym err) p

pub literal_built : (l : Text) → IsLiteralText l.text → l.span.lo ≤ l.span.hi → IsBuilt (split (Literal l))
literal_built l is ordered = go (has_minus l.text) refl
  where
    go : (b : Bool) → has_minus l.text ≡ b
        → IsBuilt (if b then before (Punct (minus_of l)) (alone (Literal (number_of l))) else alone (Literal l))
    go true minus = (refl, ordered, (number_built l.text minus is, ordered, tt))
    go false plain = (plain_built l.text plain is, ordered, tt)

-- ---- the items of an iterator

-- an iterator that gave items and then one more gives at least one item
gives_item : {U T A : Type 0} (becomes : U → T → Type 0) (steps : T → Option A → T → Type 0) (iterable : U)
    (it now next : T) (items : List A) (item : A)
    → becomes iterable it → Yields steps it items now → steps now (Some item) next → GivesAnItem becomes steps iterable
gives_item becomes steps iterable it now next [] item is yields step =
    (it, item, next, is, subst (λ s. steps s (Some item) next) (sym yields) step)
gives_item becomes steps iterable it now next (first ∷ items) item is yields step = (it, first, yields.0, is, yields.1)

-- an iterator at whose last item memory ran out gives at least one item
pub refused_item : {U T A E : Type 0} (becomes : U → T → Type 0) (steps : T → Option A → T → Type 0) (iterable : U)
    (it now next : T) (items : List A) (item : A) (r : Result (Unit {0}) E)
    → becomes iterable it → Yields steps it items now → steps now (Some item) next
    → OnErr r (GivesAnItem becomes steps iterable)
refused_item becomes steps iterable it now next items item (Ok u) is yields step = tt
refused_item becomes steps iterable it now next items item (Err e) is yields step =
    gives_item becomes steps iterable it now next items item is yields step

-- an empty stream to which all items were appended has the trees of all items
pub gives_all : {U T A : Type 0} (becomes : U → T → Type 0) (steps : T → Option A → T → Type 0) (trees : A → Forest)
    (iterable : U) (empty new : Forest)
    → empty ≡ nil → (it : T) × (items : List A) × becomes iterable it × PutsIn trees empty items new
    × Drains steps it items
    → GivesAll becomes steps iterable (λ items. new ≡ trees_of_all trees items)
gives_all becomes steps trees iterable empty new none ran =
    (ran.0, ran.1, ran.2, ran.4, ran.3 ∙ ap (λ f. chain f (trees_of_all trees ran.1)) none)
