-- The reading order of the trees in a list.
use Rattle.std.proofs.Common.{◌≡◌, List, [], ◌∷◌, ◌++◌, refl, sym, ap, ◌∙◌, subst}
use Rattle.std.specs.List.{All}
use Rattle.std.specs.List.{AllByRecursion as Each}
use Rattle.std.proofs.lemmas.List.Elements.{All-from_recursion, recursion_from_All}
use Rattle.pm_token.specs.Leaf.{is_joint}
use Rattle.pm_token.specs.declared.marks.Spacing.{Spacing}
use Rattle.pm_token.specs.declared.marks.Spacing.TheVariants.{Alone, Joint}
use Rattle.pm_stream.specs.Forest.{Forest, nil, leaf, group, chain}
use Rattle.pm_stream.specs.Trees.{before, forest, alone, inside}
use Rattle.pm_stream.specs.InOrder.{spacing_of, token_tree, in_order_onto, in_order}
use Rattle.pm_stream.specs.declared.stream.TokenTree.{TokenTree}
use Rattle.pm_stream.specs.declared.stream.TokenTree.TheVariants.{Group, Ident, Punct, Literal}

pub spacing_back : (s : Spacing) → spacing_of (is_joint s) ≡ s
spacing_back Alone = refl
spacing_back Joint = refl

-- one tree comes first, and then the trees inside it
pub in_order-before : (tree : TokenTree) (rest : Forest) (more : List TokenTree)
    → in_order_onto (before tree rest) more ≡ tree ∷ in_order_onto (inside tree) (in_order_onto rest more)
in_order-before (Group g) rest more = refl
in_order-before (Ident i) rest more = refl
in_order-before (Punct p) rest more =
    ap (λ s. Punct (record p { spacing = s }) ∷ in_order_onto rest more) (spacing_back p.spacing)
in_order-before (Literal l) rest more = refl

pub in_order-forest : (tree : TokenTree) (trees : List TokenTree) (more : List TokenTree)
    → in_order_onto (forest (tree ∷ trees)) more
    ≡ tree ∷ in_order_onto (inside tree) (in_order_onto (forest trees) more)
in_order-forest tree trees more = in_order-before tree (forest trees) more

pub in_order-alone : (tree : TokenTree) → in_order (alone tree) ≡ tree ∷ in_order (inside tree)
in_order-alone tree = in_order-before tree nil []

-- trees that are listed onto others are the trees alone, and then the others
pub in_order-append : (f : Forest) (ts more : List TokenTree)
    → in_order_onto f (ts ++ more) ≡ in_order_onto f ts ++ more
in_order-append nil ts more = refl
in_order-append (leaf token lo hi f) ts more = ap (λ xs. token_tree token lo hi ∷ xs) (in_order-append f ts more)
in_order-append (group d lo hi f g) ts more =
    ap (λ xs. Group (record { delimiter = d; stream = f; span = record { lo = lo; hi = hi } }) ∷ xs)
    (ap (in_order_onto f) (in_order-append g ts more) ∙ in_order-append f (in_order_onto g ts) more)

-- the trees of two streams, one after the other
pub in_order-joined : (f g : Forest) (more : List TokenTree)
    → in_order_onto (chain f g) more ≡ in_order_onto f (in_order_onto g more)
in_order-joined nil g more = refl
in_order-joined (leaf token lo hi f) g more = ap (λ xs. token_tree token lo hi ∷ xs) (in_order-joined f g more)
in_order-joined (group d lo hi f k) g more =
    ap (λ xs. Group (record { delimiter = d; stream = f; span = record { lo = lo; hi = hi } }) ∷ in_order_onto f xs)
    (in_order-joined k g more)

-- ---- properties that hold of each tree

each_join : (P : TokenTree → Type 0) (xs ys : List TokenTree) → Each P xs → Each P ys → Each P (xs ++ ys)
each_join P [] ys h k = k
each_join P (x ∷ xs) ys h k = (h.0, each_join P xs ys h.1 k)

each_split : (P : TokenTree → Type 0) (xs ys : List TokenTree) → Each P (xs ++ ys) → Each P xs × Each P ys
each_split P [] ys h = (tt, h)
each_split P (x ∷ xs) ys h = let rest = each_split P xs ys h.1 in ((h.0, rest.0), rest.1)

-- the property holds of each tree of the stream and of each of the other trees
pub each_onto : (P : TokenTree → Type 0) (f : Forest) (more : List TokenTree) → Each P (in_order f) → Each P more
    → Each P (in_order_onto f more)
each_onto P f more h k = subst (Each P) (sym (in_order-append f [] more)) (each_join P (in_order f) more h k)

pub each_parts : (P : TokenTree → Type 0) (f : Forest) (more : List TokenTree) → Each P (in_order_onto f more)
    → Each P (in_order f) × Each P more
each_parts P f more h = each_split P (in_order f) more (subst (Each P) (in_order-append f [] more) h)

-- the property holds of a tree and of each tree inside it
abbrev Throughout : (TokenTree → Type 0) → TokenTree → Type 0
Throughout P tree = P tree × All P (in_order (inside tree))

each_listed : (P : TokenTree → Type 0) (trees : List TokenTree) → Each P (in_order (forest trees))
    → Each (Throughout P) trees
each_listed P [] h = tt
each_listed P (tree ∷ trees) h =
    let parts = subst (Each P) (in_order-forest tree trees []) h in
    let inner = each_parts P (inside tree) (in_order (forest trees)) parts.1 in
    ((parts.0, All-from_recursion P (in_order (inside tree)) inner.0), each_listed P trees inner.1)

pub all_listed : (P : TokenTree → Type 0) (trees : List TokenTree) (stream : Forest) → forest trees ≡ stream
    → All P (in_order stream) → All (λ tree. P tree × All P (in_order (inside tree))) trees
all_listed P trees stream e h =
    All-from_recursion (Throughout P) trees
    (each_listed P trees (recursion_from_All P (in_order (forest trees)) (subst (λ f. All P (in_order f)) (sym e) h)))
