-- Which trees the first signs are.
use Rattle.std.proofs.Common.{◌≡◌, refl, sym, ◌∙◌, ap, subst, Bool, true, false, ◌&&◌, ◌||◌, List, [], ◌∷◌}
use Rattle.grammars.specs.First.{heads}
use Rattle.grammars.specs.Grammar.{Sign as SignRule}
use Rattle.pm_stream.specs.declared.stream.TokenTree.{TokenTree}
use Rattle.pm_stream.specs.declared.stream.TokenTree.TheVariants.{Group, Ident, Punct, Literal}
use Rattle.declarations.specs.Parts.{is_mark}
use Rattle.declarations.specs.Reader.{classes_in}
use Rattle.declarations.specs.Signs as signs_in
use Rattle.declarations.specs.Signs.{Sign, signs}
use Rattle.item_tables.specs.declared.class.SignClass.{SignClass}
use Rattle.declarations.specs.rules.Names.{Label, Name as RuleName}
use Rattle.declarations.proofs.SortLemmas.{FirstTree, IsTree, MayBeGroup, clash, first_tree, group_sort, literals}
use Rattle.declarations.proofs.SortLemmas.{marks, name_sort, names, one as one_tree, pairs, sort_of, two as two_trees}

-- ---- marks

mark_tree : (trees : List TokenTree) (sign : Sign) → FirstTree trees sign → sort_of sign.class ≡ marks
    → (tree : TokenTree) × (is_mark tree ≡ true) × IsTree trees sign tree
mark_tree trees sign (two_trees pair) sort =
    let same : pairs ≡ marks = sym pair ∙ sort in
    cc
mark_tree trees sign (one_tree (Punct p) is) sort = (Punct p, refl, is)
mark_tree trees sign (one_tree (Ident i) is) sort =
    let same : marks ≡ names =
    clash sign (Ident i) marks names (ap (λ s. s.class) is.is) sort (name_sort i) in
    cc
mark_tree trees sign (one_tree (Group g) is) sort =
    absurd (subst MayBeGroup (sym (ap (λ s. sort_of s.class) is.is) ∙ sort) (group_sort g g.delimiter))
mark_tree trees sign (one_tree (Literal l) is) sort =
    let same : marks ≡ literals = clash sign (Literal l) marks literals (ap (λ s. s.class) is.is) sort refl in
    cc

-- a sign with the class of one mark is this mark
pub is_mark_sign : (trees : List TokenTree) (sign : Sign) (after : List Sign) → signs trees ≡ sign ∷ after
    → sort_of sign.class ≡ marks → (tree : TokenTree) × (is_mark tree ≡ true) × IsTree trees sign tree
is_mark_sign trees sign after read sort = mark_tree trees sign (first_tree trees sign after read) sort

-- ---- one sign

pub or_nothing : (x y : Bool) → (x || false && y) ≡ x
or_nothing true y = refl
or_nothing false y = refl

-- the first sign passes no test that only other trees pass
pub no_sign : (passes : SignClass → Bool) (trees : List TokenTree)
    → ((sign : Sign) (after : List Sign) → signs trees ≡ sign ∷ after
    → passes sign.class ≡ true → ⊥)
    → heads {N = RuleName} {L = Label} (SignRule passes) (classes_in trees) ≡ false
unfolding classes_in
no_sign passes trees none = go (signs trees) refl
  where
    first : (sign : Sign) (after : List Sign) (b : Bool) → signs trees ≡ sign ∷ after
        → passes sign.class ≡ b
        → b ≡ false
    first sign after false e h = refl
    first sign after true e h = absurd (none sign after e h)

    go : (all : List Sign) → signs trees ≡ all
        → heads {N = RuleName} {L = Label} (SignRule passes) (signs_in.classes_of (signs trees)) ≡ false
    go [] e = rw e refl
    go (sign ∷ after) e = rw e (first sign after (passes sign.class) e refl)
