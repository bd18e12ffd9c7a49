-- Groups that are taken from the end of a list of trees.
use Rattle.std.proofs.Common.{◌≡◌, ◌+◌, ◌≤◌, arith, List, ◌++◌, Option, Some, None, sym, ap, subst, ◌∙◌}
use Rattle.std.specs.Option.{option_to_list}
use Rattle.pm_stream.specs.Forest.{Forest, chain, IsBuilt, nil}
use Rattle.pm_stream.specs.Size.{count}
use Rattle.pm_stream.specs.Trees.{alone, before, forest, TakesGroup}
use Rattle.pm_stream.specs.declared.stream.Group.{Group as Grouped}
use Rattle.pm_stream.specs.declared.stream.TokenTree.{TokenTree}
use Rattle.pm_stream.specs.declared.stream.TokenTree.TheVariants.{Group}
use Rattle.pm_stream.proofs.BuildingLemmas.{joined_assoc, joined_nil}
use Rattle.pm_stream.proofs.TreeLemmas.{IsBuilt-front, count-joined, forest-push}

-- nothing was taken yet
pub takes_nothing : (f : Forest) → TakesGroup f None f
takes_nothing f = (nil, sym (joined_nil f))

-- the old trees are those that are left, then the tree that was taken, and then those taken before
taken_before : (old : Forest) (now new : List TokenTree) (r : Option TokenTree) (t : TokenTree) (rest : Forest)
    → old ≡ chain (forest now) rest → now ≡ new ++ option_to_list r → r ≡ Some t
    → old ≡ chain (forest new) (chain (alone t) rest)
taken_before old now new r t rest so_far popped some =
    so_far
    ∙ ap (λ f. chain f rest) (ap forest (popped ∙ ap (λ o. new ++ option_to_list o) some) ∙ forest-push new t)
    ∙ joined_assoc (forest new) (alone t) rest

-- a tree was taken
pub takes_tree : (old : Forest) (now new : List TokenTree) (r : Option TokenTree) (t : TokenTree)
    → TakesGroup old None (forest now) → now ≡ new ++ option_to_list r → r ≡ Some t → TakesGroup old None (forest new)
takes_tree old now new r t so_far popped some =
    (chain (alone t) so_far.0, taken_before old now new r t so_far.0 so_far.1 popped some)

-- a group was taken
pub takes_group : (old : Forest) (now new : List TokenTree) (r : Option TokenTree) (t : TokenTree) (g : Grouped)
    → TakesGroup old None (forest now) → now ≡ new ++ option_to_list r → r ≡ Some t → t ≡ Group g
    → TakesGroup old (Some g) (forest new)
takes_group old now new r t g so_far popped some is =
    (so_far.0, taken_before old now new r (Group g) so_far.0 so_far.1 popped (some ∙ ap Some is))

-- ---- the trees that are left

pub count-left : (old new : Forest) → TakesGroup old None new → count new ≤ count old
count-left old new p = omega (arith, ap count p.1, count-joined new p.0)

pub count-taken : (old new : Forest) (g : Grouped) → TakesGroup old (Some g) new
    → count new + 1 + count g.stream ≤ count old
count-taken old new g p = omega (arith, ap count p.1, count-joined new (before (Group g) p.0))

pub IsBuilt-taken : (old new : Forest) (r : Option Grouped) → TakesGroup old r new → IsBuilt old → IsBuilt new
IsBuilt-taken old new None p q = IsBuilt-front new p.0 (subst IsBuilt p.1 q)
IsBuilt-taken old new (Some g) p q = IsBuilt-front new (before (Group g) p.0) (subst IsBuilt p.1 q)
