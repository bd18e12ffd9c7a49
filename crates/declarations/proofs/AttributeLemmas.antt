-- Attributes at the start of trees, and the path of an attribute.
use Rattle.std.proofs.Common.{◌≡◌, ◌≤◌, refl, sym, ◌∙◌, ap, suc, Bool, true, false, List, [], ◌∷◌, length, drop}
use Rattle.std.proofs.Common.{arith}
use Rattle.std.specs.List.{prefix_len}
use Rattle.pm_token.specs.Leaf.{Mark}
use Rattle.pm_stream.specs.DocGroup.{trees_of}
use Rattle.pm_stream.specs.Forest.{Forest}
use Rattle.pm_stream.specs.Trees.{forest}
use Rattle.pm_stream.specs.declared.stream.Group.{Group as Grouped}
use Rattle.pm_stream.specs.declared.stream.TokenTree.{TokenTree}
use Rattle.pm_stream.specs.declared.stream.TokenTree.TheVariants.{Group, Ident, Literal, Punct}
use Rattle.pm_stream.proofs.DocLemmas.{trees_of-forest}
use Rattle.declarations.specs.Attribute.{attributes_in, goes_on, is_inner}

-- ---- whether the trees begin with an attribute

-- no attribute begins with a mark that neither a group nor another mark follows
pub no_mark : (hash : Mark) (rest : List TokenTree)
    → ((group : Grouped) (after : List TokenTree) → rest ≡ Group group ∷ after → ⊥)
    → ((mark : Mark) (after : List TokenTree) → rest ≡ Punct mark ∷ after → ⊥)
    → attributes_in (Punct hash ∷ rest) ≡ []
no_mark hash [] no_group none = refl
no_mark hash (Group g ∷ after) no_group none = absurd (no_group g after refl)
no_mark hash (Ident i ∷ after) no_group none = refl
no_mark hash (Punct mark ∷ after) no_group none = absurd (none mark after refl)
no_mark hash (Literal l ∷ after) no_group none = refl

-- no attribute begins with two marks that no group follows
pub no_group : (hash mark : Mark) (rest : List TokenTree)
    → ((group : Grouped) (after : List TokenTree) → rest ≡ Group group ∷ after → ⊥)
    → attributes_in (Punct hash ∷ Punct mark ∷ rest) ≡ []
no_group hash mark [] none = refl
no_group hash mark (Group g ∷ after) none = absurd (none g after refl)
no_group hash mark (Ident i ∷ after) none = refl
no_group hash mark (Punct m ∷ after) none = refl
no_group hash mark (Literal l ∷ after) none = refl

module _ (hash : Mark) (group : Grouped) (after : List TokenTree) where
  pub inner_at : (mark : Mark) → is_inner hash mark group ≡ true
      → attributes_in (Punct hash ∷ Punct mark ∷ Group group ∷ after)
      ≡ record { marks = Punct hash ∷ Punct mark ∷ []; group = group } ∷ attributes_in after
  inner_at mark h = rw h refl

  pub not_inner : (mark : Mark) → is_inner hash mark group ≡ false
      → attributes_in (Punct hash ∷ Punct mark ∷ Group group ∷ after) ≡ []
  not_inner mark h = rw h refl

-- ---- the path of an attribute

-- the trees inside a group are those of its stream
pub held_trees : (trees : List TokenTree) (stream held : Forest) → forest trees ≡ stream → stream ≡ held
    → trees_of held ≡ trees
held_trees trees stream held whole same = ap trees_of (sym same ∙ sym whole) ∙ trees_of-forest trees

within_cons : (b : Bool) (tree : TokenTree) (trees : List TokenTree) → goes_on tree ≡ b
    → prefix_len goes_on trees ≤ length trees → prefix_len goes_on (tree ∷ trees) ≤ length (tree ∷ trees)
within_cons false tree trees is here = rw is (omega arith)
within_cons true tree trees is here = rw is (omega arith)

pub path_within : (trees : List TokenTree) → prefix_len goes_on trees ≤ length trees
path_within [] = omega arith
path_within (tree ∷ trees) = within_cons (goes_on tree) tree trees refl (path_within trees)

stops_cons : (b : Bool) (tree : TokenTree) (trees : List TokenTree) → goes_on tree ≡ b
    → prefix_len goes_on (drop (prefix_len goes_on trees) trees) ≡ 0
    → prefix_len goes_on (drop (prefix_len goes_on (tree ∷ trees)) (tree ∷ trees)) ≡ 0
stops_cons false tree trees is here =
    let n : prefix_len goes_on (tree ∷ trees) ≡ 0 = rw is refl in
    ap (λ k. prefix_len goes_on (drop k (tree ∷ trees))) n ∙ n
stops_cons true tree trees is here =
    let n : prefix_len goes_on (tree ∷ trees) ≡ suc (prefix_len goes_on trees) = rw is (omega arith) in
    ap (λ k. prefix_len goes_on (drop k (tree ∷ trees))) n ∙ here

-- no path goes on with the trees after a path
pub path_stops : (trees : List TokenTree) → prefix_len goes_on (drop (prefix_len goes_on trees) trees) ≡ 0
path_stops [] = refl
path_stops (tree ∷ trees) = stops_cons (goes_on tree) tree trees refl (path_stops trees)
