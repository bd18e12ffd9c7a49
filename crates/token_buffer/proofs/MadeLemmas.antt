-- Trees that are made of what a cursor has left.
use Rattle.std.proofs.Common.{◌≡◌, ℕ, ◌<◌, List, [], ◌∷◌, ◌++◌, reverse, refl, sym, ap, ◌∙◌, subst, arith}
use Rattle.std.proofs.lemmas.List.{reverse-append}
use Rattle.pm_stream.specs.Forest.{Forest, nil, leaf, group, chain, IsBuilt}
use Rattle.pm_stream.specs.Trees.{before, forest, alone}
use Rattle.pm_stream.specs.declared.stream.TokenTree.{TokenTree}
use Rattle.pm_stream.specs.declared.stream.TokenTree.TheVariants.{Group}
use Rattle.lexical.specs.Token.{Token}
use Rattle.pm_token.specs.declared.delimiters.Delimiter.{Delimiter}
use Rattle.pm_stream.specs.Size.{count}
use Rattle.pm_stream.proofs.TreeLemmas.{forest-push, joined-before, IsBuilt-front}
use Rattle.token_buffer.specs.Made.{steps_left, whole_of}
use Rattle.token_buffer.specs.Reads.{left}
use Rattle.token_buffer.proofs.HeldLemmas.{joined_nil}
use Rattle.token_buffer.proofs.MerelyBuiltLemmas.{merely_built}
use Rattle.token_buffer.specs.declared.trees.OpenTrees.{OpenTrees}

pub joined_joined : (f g k : Forest) → chain (chain f g) k ≡ chain f (chain g k)
joined_joined nil g k = refl
joined_joined (leaf t lo hi f) g k = ap (leaf t lo hi) (joined_joined f g k)
joined_joined (group d lo hi f h) g k = ap (group d lo hi f) (joined_joined h g k)

built_back : (f k : Forest) → IsBuilt (chain f k) → IsBuilt k
built_back nil k h = h
built_back (leaf t lo hi f) k h = built_back f k h.2
built_back (group d lo hi f g) k h = built_back g k h.2

-- the trees of the innermost group are built if all trees are
built_within : (groups : List OpenTrees) (trees : Forest) → IsBuilt (whole_of groups trees) → IsBuilt trees
built_within [] trees h = h
built_within (outer ∷ groups) trees h =
    (built_back (forest outer.before.items) _ (built_within groups _ h)).1

-- whether the made trees, those of the open groups and the remaining ones are all trees
abbrev pub AreAll : List OpenTrees → List TokenTree → Forest → Forest → Type 0
AreAll groups trees here all = whole_of groups (chain (forest trees) here) ≡ all

both_built : (groups : List OpenTrees) (trees : List TokenTree) (here all : Forest) → AreAll groups trees here all
    → ∥ IsBuilt all ∥₁ → IsBuilt (chain (forest trees) here)
both_built groups trees here all h built = built_within groups _ (subst IsBuilt (sym h) (merely_built all built))

pub built_trees : (groups : List OpenTrees) (trees : List TokenTree) (here all : Forest) → AreAll groups trees here all
    → ∥ IsBuilt all ∥₁ → IsBuilt (forest trees)
built_trees groups trees here all h built =
    IsBuilt-front (forest trees) here (both_built groups trees here all h built)

pub built_here : (groups : List OpenTrees) (trees : List TokenTree) (here all : Forest) → AreAll groups trees here all
    → ∥ IsBuilt all ∥₁ → IsBuilt here
built_here groups trees here all h built = built_back (forest trees) here (both_built groups trees here all h built)

-- one more tree is made
pub made_more : (groups : List OpenTrees) (trees items : List TokenTree) (tree : TokenTree) (here rest all : Forest)
    → AreAll groups trees here all → here ≡ before tree rest → items ≡ trees ++ tree ∷ []
    → AreAll groups items rest all
made_more groups trees items tree here rest all h first push =
    ap (λ ts. whole_of groups (chain (forest ts) rest)) push
    ∙ (ap (λ f. whole_of groups (chain f rest)) (forest-push trees tree)
    ∙ (ap (whole_of groups) (joined_joined (forest trees) (alone tree) rest)
    ∙ (ap (λ f. whole_of groups (chain (forest trees) f)) (joined-before tree nil rest ∙ sym first) ∙ h)))

-- the innermost group is made, and follows the trees before it
pub made_group : (groups inner : List OpenTrees) (outer : OpenTrees) (trees items : List TokenTree) (tree : TokenTree)
    (here all : Forest)
    → AreAll inner trees here all → here ≡ nil → inner ≡ outer ∷ groups
    → tree ≡ Group (record { delimiter = outer.delimiter; stream = forest trees; span = outer.span })
    → items ≡ outer.before.items ++ tree ∷ [] → AreAll groups items (left outer.after) all
made_group groups inner outer trees items tree here all h done popped is push =
    made_more groups outer.before.items items tree _ (left outer.after) all
    (ap (λ f. whole_of groups (chain (forest outer.before.items)
    (group outer.delimiter outer.span.lo outer.span.hi f (left outer.after)))) (sym (joined_nil (forest trees)))
    ∙ (sym (ap (λ gs. whole_of gs (chain (forest trees) nil)) popped)
    ∙ (ap (λ f. whole_of inner (chain (forest trees) f)) (sym done) ∙ h)))
    (ap (λ t. before t (left outer.after)) (sym is)) push

-- all trees are made
pub made_all : (groups : List OpenTrees) (trees : List TokenTree) (here all : Forest) → AreAll groups trees here all
    → here ≡ nil → groups ≡ [] → forest trees ≡ all
made_all groups trees here all h done none =
    sym (joined_nil (forest trees)) ∙ (ap (chain (forest trees)) (sym done)
    ∙ (ap (λ gs. whole_of gs (chain (forest trees) here)) (sym none) ∙ h))

-- ---- the number of steps

pub fewer_leaf : (groups : List OpenTrees) (token : Token) (lo hi : ℕ) (here rest : Forest)
    → here ≡ leaf token lo hi rest → steps_left groups rest < steps_left groups here
fewer_leaf [] token lo hi here rest is = omega (arith, ap count is)
fewer_leaf (outer ∷ groups) token lo hi here rest is = omega (arith, ap count is)

pub fewer_group : (groups inner : List OpenTrees) (outer : OpenTrees) (d : Delimiter) (lo hi : ℕ) (here inside : Forest)
    → here ≡ group d lo hi inside (left outer.after) → inner ≡ outer ∷ groups
    → steps_left inner inside < steps_left groups here
fewer_group [] inner outer d lo hi here inside is push =
    omega (arith, ap count is, ap (λ gs. steps_left gs inside) push)
fewer_group (x ∷ groups) inner outer d lo hi here inside is push =
    omega (arith, ap count is, ap (λ gs. steps_left gs inside) push)

-- one more group is open, as the innermost
pub reverse_push : (groups : List OpenTrees) (outer : OpenTrees)
    → reverse (groups ++ outer ∷ []) ≡ outer ∷ reverse groups
reverse_push groups outer = reverse-append groups (outer ∷ [])
