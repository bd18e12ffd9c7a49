-- The list of trees of a `StreamBuilder`.
use Rattle.std.proofs.Common.{◌≡◌, ℕ, zero, suc, ◌+◌, ◌<◌, List, [], ◌∷◌, ◌++◌, take, length, get_or}
use Rattle.std.proofs.Common.{refl, sym, ap, subst, ◌∙◌}
use Rattle.proc_macro2.specs.Forest.{Forest, chain, IsBuilt}
use Rattle.proc_macro2.specs.Trees.{alone, forest}
use Rattle.proc_macro2.specs.declared.TokenTree.{TokenTree}
use Rattle.proc_macro2.specs.declared.TokenTree.TheVariants.{Group, Ident, Punct, Literal}
use Rattle.pm_stream.proofs.TreeLemmas.{IsBuilt-joined, forest-push}
use Rattle.quoting.proofs.PartLemmas.{joined_assoc, joined_nil}
use Rattle.quoting.proofs.OpenListLemmas.{copied_more}

-- a list with one more tree at the end
pub built_last : (items new : List TokenTree) (t : TokenTree) → new ≡ items ++ t ∷ [] → IsBuilt (forest items)
    → IsBuilt (alone t) → IsBuilt (forest new)
built_last items new t put built one =
    subst IsBuilt (sym (ap forest put ∙ forest-push items t)) (IsBuilt-joined (forest items) (alone t) built one)

pub built_take : (n : ℕ) (ts : List TokenTree) → IsBuilt (forest ts) → IsBuilt (forest (take n ts))
built_take zero ts h = tt
built_take (suc n) [] h = tt
built_take (suc n) (Group g ∷ ts) h = (h.0, h.1, built_take n ts h.2)
built_take (suc n) (Ident i ∷ ts) h = (h.0, h.1, built_take n ts h.2)
built_take (suc n) (Punct p ∷ ts) h = (h.0, h.1, built_take n ts h.2)
built_take (suc n) (Literal l ∷ ts) h = (h.0, h.1, built_take n ts h.2)

-- a list with copies of the first trees of another one at the end
pub built_copies : (n : ℕ) (items new ts : List TokenTree) → forest new ≡ chain (forest items) (forest (take n ts))
    → IsBuilt (forest items) → IsBuilt (forest ts) → IsBuilt (forest new)
built_copies n items new ts copied built trees =
    subst IsBuilt (sym copied)
    (IsBuilt-joined (forest items) (forest (take n ts)) built (built_take n ts trees))

pub copies_begun : (items new ts : List TokenTree) → new ≡ items
    → forest new ≡ chain (forest items) (forest (take 0 ts))
copies_begun items new ts same = ap forest same ∙ sym (joined_nil (forest items))

-- one more copy
pub copies_more : (n : ℕ) (old : Forest) (items new trees : List TokenTree) (t copy : TokenTree) → n < length trees
    → t ≡ get_or trees n t → copy ≡ t → forest items ≡ chain old (forest (take n trees)) → new ≡ items ++ copy ∷ []
    → forest new ≡ chain old (forest (take (n + 1) trees))
copies_more n old items new trees t copy within is cloned so_far put =
    ap forest put
    ∙ (forest-push items copy
    ∙ (ap (λ f. chain f (alone copy)) so_far
    ∙ (joined_assoc old (forest (take n trees)) (alone copy)
    ∙ ap (chain old)
    (copied_more trees n t copy (forest (take n trees)) (chain (forest (take n trees)) (alone copy)) within is cloned
    refl refl))))
