-- The signs of two lists of trees, one after the other.
use Rattle.std.proofs.Common.{◌≡◌, refl, sym, ◌∙◌, ap, subst, ℕ, ◌==◌, Bool, true, false, List, [], ◌∷◌, ◌++◌, Option}
use Rattle.std.proofs.Common.{Some, None, eqb-true, if◌then◌else◌}
use Rattle.std.proofs.lemmas.Bool.{both_ways}
use Rattle.pm_stream.specs.declared.stream.TokenTree.{TokenTree}
use Rattle.pm_stream.specs.declared.stream.TokenTree.TheVariants.{Group, Ident, Literal, Punct}
use Rattle.proc_macro2.specs.Leaf.{is_joint}
use Rattle.item_tables.specs.declared.class.SignClass.{SignClass}
use Rattle.item_tables.specs.declared.class.SignClass.TheVariants as classes
use Rattle.declarations.specs.Signs.{Sign, joint_class, loose_class, mark_class, pair_class, signs, signs_after}
use Rattle.declarations.specs.Signs.{tree_class}

-- ---- which marks can be read with the tree after them

-- whether a mark of this class can be read as one sign with the tree after it
abbrev pub may_pair : SignClass → Bool
may_pair classes.Colon = true
may_pair classes.Minus = true
may_pair classes.Less = true
may_pair classes.LessJoint = true
may_pair classes.Bar = true
may_pair classes.Hash = true
may_pair classes.Mark = true
may_pair _ = false

not_mark : (m n : ℕ) (j : Bool) → may_pair (mark_class m j) ≡ false → may_pair (mark_class n j) ≡ true
    → (m == n) ≡ false
not_mark m n j h at = go (m == n) refl
  where
    go : (b : Bool) → (m == n) ≡ b → b ≡ false
    go false e = refl
    go true e =
        let same : m ≡ n = eqb-true m n e in
        absurd (both_ways _ (sym (ap (λ x. may_pair (mark_class x j)) same) ∙ h) at)

less_pairs : (j : Bool) → may_pair (mark_class 60 j) ≡ true
less_pairs true = refl
less_pairs false = refl

no_joint : (m q : ℕ) (j : Bool) → may_pair (mark_class m j) ≡ false → joint_class m q ≡ None
no_joint m q j h =
    rw (
      not_mark m 58 j h refl,
      not_mark m 45 j h refl,
      not_mark m 60 j h (less_pairs j),
      not_mark m 124 j h refl,
      not_mark m 35 j h refl,
    ) refl

no_loose : (m q : ℕ) (j : Bool) → may_pair (mark_class m j) ≡ false → loose_class m q ≡ None
no_loose m q j h = rw (not_mark m 35 j h refl) refl

-- a tree whose class is none of these is a sign of its own, whatever follows it
pub no_pair : (first second : TokenTree) → may_pair (tree_class first) ≡ false → pair_class first second ≡ None
no_pair (Group g) second h = refl
no_pair (Ident i) second h = refl
no_pair (Literal l) second h = refl
no_pair (Punct p) (Punct q) h = go (is_joint p.spacing) refl
  where
    go : (b : Bool) → is_joint p.spacing ≡ b
        → (if b then joint_class p.mark q.mark else loose_class p.mark q.mark) ≡ None
    go true e = no_joint p.mark q.mark (is_joint p.spacing) h
    go false e = no_loose p.mark q.mark (is_joint p.spacing) h
no_pair (Punct p) (Ident i) h = rw (not_mark p.mark 39 (is_joint p.spacing) h refl) refl
no_pair (Punct p) (Group g) h = refl
no_pair (Punct p) (Literal l) h = refl

-- ---- lists of signs after which any tree begins another sign

-- a tree that is a sign
abbrev pub single : TokenTree → Sign
single tree = record { class = tree_class tree; trees = tree ∷ [] }

-- the last sign is not read with the tree after it
abbrev pub Calm : List Sign → Type 0
Calm [] = Unit {0}
Calm (sign ∷ []) = (first second : TokenTree) → sign ≡ single first → pair_class first second ≡ None
Calm (sign ∷ (next ∷ rest)) = Calm (next ∷ rest)

pub calm_tail : (sign : Sign) (rest : List Sign) → Calm (sign ∷ rest) → Calm rest
calm_tail sign [] h = tt
calm_tail sign (next ∷ rest) h = h

pub calm_append : (xs ys : List Sign) → Calm xs → Calm ys → Calm (xs ++ ys)
calm_append [] ys a b = b
calm_append (x ∷ []) [] a b = a
calm_append (x ∷ []) (y ∷ ys) a b = b
calm_append (x ∷ (z ∷ xs)) ys a b = calm_append (z ∷ xs) ys a b

-- one sign whose class is not that of such a mark
pub calm_one : (sign : Sign) → may_pair sign.class ≡ false → Calm (sign ∷ [])
calm_one sign h = λ first second e.
    no_pair first second (ap (λ (s : Sign). may_pair s.class) (sym e) ∙ h)

-- ---- the signs of two lists

abbrev with_first : Option TokenTree → List TokenTree → List TokenTree
with_first None trees = trees
with_first (Some first) trees = first ∷ trees

-- what comes after a first tree, if it is known whether it is read with the next
abbrev after_pair : Option SignClass → TokenTree → TokenTree → List TokenTree → List Sign
after_pair None first tree rest = single first ∷ signs_after (Some tree) rest
after_pair (Some class) first tree rest =
    record { class = class; trees = first ∷ tree ∷ [] } ∷ signs_after None rest

after_is : (first tree : TokenTree) (rest : List TokenTree)
    → signs_after (Some first) (tree ∷ rest) ≡ after_pair (pair_class first tree) first tree rest
after_is first tree rest =
    elim (pair_class first tree) as (λ o. (elim o as (λ x. List Sign) [
      | None ↦ record { class = tree_class first; trees = first ∷ [] } ∷ signs_after (Some tree) rest
      | Some class ↦ record { class = class; trees = first ∷ tree ∷ [] } ∷ signs_after None rest
    ]) ≡ after_pair o first tree rest) [ None ↦ refl | Some class ↦ refl ]

seam_after : (first : Option TokenTree) (a b : List TokenTree) → Calm (signs_after first a)
    → signs_after first (a ++ b) ≡ signs_after first a ++ signs b
seam_after None [] b h = refl
seam_after None (x ∷ a) b h = seam_after (Some x) a b h
seam_after (Some f) [] [] h = refl
seam_after (Some f) [] (t ∷ b) h =
    after_is f t b ∙ ap (λ o. after_pair o f t b) (h f t refl)
seam_after (Some f) (x ∷ a) b h =
    after_is f x (a ++ b)
    ∙ (go (pair_class f x) (subst Calm (after_is f x a) h) (seam_after (Some x) a b) (seam_after None a b)
    ∙ ap (λ ss. ss ++ signs b) (sym (after_is f x a)))
  where
    go : (o : Option SignClass) → Calm (after_pair o f x a)
        → (Calm (signs_after (Some x) a) → signs_after (Some x) (a ++ b) ≡ signs_after (Some x) a ++ signs b)
        → (Calm (signs a) → signs (a ++ b) ≡ signs a ++ signs b)
        → after_pair o f x (a ++ b) ≡ after_pair o f x a ++ signs b
    go None calm one two =
        ap (λ ss. single f ∷ ss) (one (calm_tail (single f) (signs_after (Some x) a) calm))
    go (Some class) calm one two =
        let sign : Sign = record { class = class; trees = f ∷ x ∷ [] } in
        ap (λ ss. sign ∷ ss) (two (calm_tail sign (signs a) calm))

-- after calm signs, the signs of two lists are those of each
pub seam : (a b : List TokenTree) → Calm (signs a) → signs (a ++ b) ≡ signs a ++ signs b
seam a b h = seam_after None a b h
