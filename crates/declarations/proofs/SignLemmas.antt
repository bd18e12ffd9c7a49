-- How trees begin with a sign.
use Rattle.std.proofs.Common.{◌≡◌, refl, sym, ◌∙◌, ap, suc, ◌==◌, Bool, false, List, [], ◌∷◌, Option, Some, None}
use Rattle.std.proofs.Common.{◌++◌, length, arith}
use Rattle.std.proofs.lemmas.Bool.Decides.{nat_tests}
use Rattle.pm_token.specs.Leaf.{Name}
use Rattle.pm_stream.specs.DocGroup.{trees_of as list_of}
use Rattle.pm_stream.specs.Forest.{Forest}
use Rattle.pm_stream.specs.Size.{is_nil}
use Rattle.pm_stream.specs.Trees.{forest}
use Rattle.pm_stream.specs.declared.stream.Group.{Group as Grouped}
use Rattle.pm_stream.specs.declared.stream.TokenTree.{TokenTree}
use Rattle.pm_stream.specs.declared.stream.TokenTree.TheVariants.{Group, Ident, Punct, Literal}
use Rattle.pm_stream.proofs.DocLemmas.{trees_of-forest}
use Rattle.declarations.specs.Signs.{Sign, signs, signs_after, pair_class, tree_class, BeginsWith, is_restriction}
use Rattle.declarations.specs.Signs.{classes_of, group_class, trees_of}
use Rattle.declarations.specs.Bare.{innermost, innermost_trees}
use Rattle.declarations.specs.Signs.{held_class, is_pub, is_visibility, may_restrict, restricts, restricts_in}
use Rattle.declarations.specs.Signs.{unseen_class}
use Rattle.item_tables.specs.declared.class.SignClass.{SignClass}

-- the signs of trees, if it is known whether the first two trees are one sign
abbrev pub pair_signs : Option SignClass → TokenTree → TokenTree → List TokenTree → List Sign
pair_signs None first second after = record { class = tree_class first; trees = first ∷ [] } ∷ signs (second ∷ after)
pair_signs (Some class) first second after = record { class = class; trees = first ∷ second ∷ [] } ∷ signs after

pub signs-cons : (first second : TokenTree) (after : List TokenTree)
    → signs (first ∷ second ∷ after) ≡ pair_signs (pair_class first second) first second after
signs-cons first second after =
    elim (pair_class first second) as (λ o. (elim o as (λ x. List Sign) [
      | None ↦ record { class = tree_class first; trees = first ∷ [] } ∷ signs_after (Some second) after
      | Some class ↦ record { class = class; trees = first ∷ second ∷ [] } ∷ signs_after None after
    ]) ≡ pair_signs o first second after) [ None ↦ refl | Some class ↦ refl ]

-- the first two trees are read as one sign
pub begins_two : (trees : List TokenTree) (class : SignClass) (after : List TokenTree) (first second : TokenTree)
    (rest : List TokenTree) → trees ≡ first ∷ rest → rest ≡ second ∷ after → pair_class first second ≡ Some class
    → BeginsWith trees class after
begins_two trees class after first second rest whole next pair =
    let all : trees ≡ first ∷ second ∷ after = cc in
    record {
      front = first ∷ second ∷ [];
      whole = all;
      fewer = rw all (omega arith);
      read = ap signs all ∙ signs-cons first second after ∙ ap (λ o. pair_signs o first second after) pair;
    }

-- the first tree is a sign of its own, and others follow
pub begins_one : (trees : List TokenTree) (rest : List TokenTree) (first second : TokenTree)
    (after : List TokenTree) → trees ≡ first ∷ rest → rest ≡ second ∷ after → pair_class first second ≡ None
    → BeginsWith trees (tree_class first) rest
begins_one trees rest first second after whole next pair =
    let all : trees ≡ first ∷ second ∷ after = cc in
    record {
      front = first ∷ [];
      whole = whole;
      fewer = rw whole (omega arith);
      read =
          ap signs all ∙ signs-cons first second after ∙ ap (λ o. pair_signs o first second after) pair
          ∙ ap (λ ts. record { class = tree_class first; trees = first ∷ [] } ∷ signs ts) (sym next);
    }

-- the first tree is a sign of its own, and is the last tree
pub begins_last : (trees : List TokenTree) (rest : List TokenTree) (first : TokenTree) → trees ≡ first ∷ rest
    → length rest ≡ 0 → BeginsWith trees (tree_class first) rest
begins_last trees [] first whole none = record {
  front = first ∷ [];
  whole = whole;
  fewer = rw whole (omega arith);
  read = rw whole refl;
}
begins_last trees (second ∷ rest) first whole none = absurd (omega arith)

pub signs_group : (g : Grouped) (rest : List TokenTree) → signs (Group g ∷ rest)
    ≡ record { class = group_class g.delimiter g.stream; trees = Group g ∷ [] } ∷ signs rest
signs_group g [] = refl
signs_group g (tree ∷ rest) = refl

-- ---- restrictions

more_than_none : (rest : List TokenTree) → false ≡ (suc (length rest) == 0)
more_than_none rest = grind (arith, nat_tests)

pub nil_forest : (rest : List TokenTree) → is_nil (forest rest) ≡ (length rest == 0)
nil_forest [] = refl
nil_forest (Group g ∷ rest) = more_than_none rest
nil_forest (Ident i ∷ rest) = more_than_none rest
nil_forest (Punct p ∷ rest) = more_than_none rest
nil_forest (Literal l ∷ rest) = more_than_none rest

pub restriction_first : (stream : Forest) (trees : List TokenTree) (first : TokenTree) (rest : List TokenTree)
    (ident : Name) (alone : Bool) → forest trees ≡ stream → trees ≡ first ∷ rest → first ≡ Ident ident
    → alone ≡ (length rest == 0) → restricts ident alone ≡ is_restriction stream
restriction_first stream trees first rest ident alone held whole is none =
    let all : stream ≡ forest (Ident ident ∷ rest) = sym held ∙ ap forest whole ∙ ap (λ f. forest (f ∷ rest)) is in
    let nil_rest : is_nil (forest rest) ≡ alone = nil_forest rest ∙ sym none in
    ap (λ a. restricts ident a) (sym nil_rest) ∙ ap is_restriction (sym all)

-- ---- trees of signs

abbrev with_first : Option TokenTree → List TokenTree → List TokenTree
with_first None trees = trees
with_first (Some first) trees = first ∷ trees

trees_after : (first : Option TokenTree) (trees : List TokenTree)
    → trees_of (signs_after first trees) ≡ with_first first trees
trees_after None [] = refl
trees_after None (tree ∷ rest) = trees_after (Some tree) rest
trees_after (Some first) [] = refl
trees_after (Some first) (tree ∷ rest) =
    elim (pair_class first tree) as (λ o. trees_of (elim o as (λ x. List Sign) [
      | None ↦ record { class = tree_class first; trees = first ∷ [] } ∷ signs_after (Some tree) rest
      | Some class ↦ record { class = class; trees = first ∷ tree ∷ [] } ∷ signs_after None rest
    ]) ≡ first ∷ tree ∷ rest) [
      | None ↦ ap (λ ts. first ∷ ts) (trees_after (Some tree) rest)
      | Some class ↦ ap (λ ts. first ∷ tree ∷ ts) (trees_after None rest)
    ]

-- the trees of the signs are all trees
pub trees_of-signs : (trees : List TokenTree) → trees_of (signs trees) ≡ trees
trees_of-signs trees = trees_after None trees

none_of : (all : List Sign) → classes_of all ≡ [] → all ≡ []
none_of [] none = refl
none_of (sign ∷ all) none = cc

pub no_signs : (trees : List TokenTree) → classes_of (signs trees) ≡ [] → trees ≡ []
no_signs trees none =
    sym (trees_of-signs trees) ∙ ap trees_of (none_of (signs trees) none)

-- the trees after the first sign
pub record AfterFirstSign (trees : List TokenTree) (sign : Sign) (after : List Sign) : Type 0 where
  pub rest : List TokenTree
  pub whole : trees ≡ sign.trees ++ rest
  pub read : signs rest ≡ after

pub after_first_sign : (trees : List TokenTree) (sign : Sign) (after : List Sign) → signs trees ≡ sign ∷ after
    → AfterFirstSign trees sign after
after_first_sign [] sign after read = cc
after_first_sign (first ∷ []) sign after read =
    let one : Sign = record { class = tree_class first; trees = first ∷ [] } in
    let is : one ≡ sign = cc in
    let none : [] ≡ after = cc in
    record { rest = []; whole = ap (λ s. s.trees ++ []) is; read = none }
after_first_sign (first ∷ second ∷ rest) sign after read =
    elim (pair_class first second) as (λ o. pair_signs o first second rest ≡ sign ∷ after
    → AfterFirstSign (first ∷ second ∷ rest) sign after) [
      | None ↦ λ h.
          let one : Sign = record { class = tree_class first; trees = first ∷ [] } in
          let is : one ≡ sign = cc in
          let more : signs (second ∷ rest) ≡ after = cc in
          record { rest = second ∷ rest; whole = ap (λ s. s.trees ++ second ∷ rest) is; read = more }
      | Some class ↦ λ h.
          let two : Sign = record { class = class; trees = first ∷ second ∷ [] } in
          let is : two ≡ sign = cc in
          let more : signs rest ≡ after = cc in
          record { rest = rest; whole = ap (λ s. s.trees ++ rest) is; read = more }
    ] (sym (signs-cons first second rest) ∙ read)

-- ---- groups without delimiters

-- the class of a group without delimiters that holds no visibility
pub unseen_other : (inside held : Forest) (trees : List TokenTree) (b : Bool) → held ≡ innermost inside
    → forest trees ≡ held → b ≡ is_visibility held → b ≡ false → (class : SignClass) → class ≡ held_class trees
    → class ≡ unseen_class inside
unseen_other inside held trees b same whole is unlike class found =
    let all : trees ≡ innermost_trees inside = sym (trees_of-forest trees) ∙ ap list_of (whole ∙ same) in
    let none : is_visibility (innermost inside) ≡ false = ap is_visibility (sym same) ∙ sym is ∙ unlike in
    found ∙ ap held_class all ∙ rw none refl

pub visibility_first : (stream : Forest) (trees : List TokenTree) (first : TokenTree) (rest : List TokenTree)
    (ident : Name) → forest trees ≡ stream → trees ≡ first ∷ rest → first ≡ Ident ident
    → is_pub ident (may_restrict (forest rest)) ≡ is_visibility stream
visibility_first stream trees first rest ident held whole is =
    let all : stream ≡ forest (Ident ident ∷ rest) = sym held ∙ ap forest whole ∙ ap (λ f. forest (f ∷ rest)) is in
    ap is_visibility (sym all)

pub restricting_first : (trees : List TokenTree) (first : TokenTree) (rest : List TokenTree) (g : Grouped)
    (last : Bool) → trees ≡ first ∷ rest → first ≡ Group g → last ≡ (length rest == 0)
    → restricts_in g.delimiter g.stream last ≡ may_restrict (forest trees)
restricting_first trees first rest g last whole is none =
    let all : forest trees ≡ forest (Group g ∷ rest) = ap forest whole ∙ ap (λ f. forest (f ∷ rest)) is in
    let nil_rest : is_nil (forest rest) ≡ last = nil_forest rest ∙ sym none in
    ap (λ l. restricts_in g.delimiter g.stream l) (sym nil_rest) ∙ ap may_restrict (sym all)
