-- The trees of what a header is written as.
use Rattle.std.proofs.Common.{◌≡◌, refl, sym, ◌∙◌, ap, subst, All, true, List, [], ◌∷◌, ◌++◌, map, append_assoc}
use Rattle.std.proofs.Common.{append-nil, codes}
use Rattle.std.proofs.lemmas.List.Elements.{All-cons, All-head, All-nil, All-tail}
use Rattle.pm_stream.specs.InOrder.{token_tree}
use Rattle.pm_stream.specs.declared.stream.TokenTree.{TokenTree}
use Rattle.pm_stream.specs.declared.stream.TokenTree.TheVariants.{Group, Ident, Literal, Punct}
use Rattle.pm_stream.proofs.DocLemmas.{trees_of-forest}
use Rattle.proc_macro2.specs.Building.{split}
use Rattle.proc_macro2.specs.DocGroup.{trees_of}
use Rattle.proc_macro2.specs.Forest.{Forest, chain, group, leaf, nil}
use Rattle.proc_macro2.specs.Leaf.{Name}
use Rattle.proc_macro2.specs.Trees.{GoesInside, alone}
use Rattle.proc_macro2.proofs.WholeTrees.{stands_whole}
use Rattle.item_tables.specs.declared.class.SignClass.{SignClass}
use Rattle.declarations.specs.Param.{EndsElement, HasBounds, HasDefault, HasName, IsAfterWhere, IsParamAt, IsWithin}
use Rattle.declarations.specs.Param.{MayHave, ParamTrees, PredicateTrees, ReadsConstant, comma, last, left_out}
use Rattle.declarations.specs.Param.{negative, of_type, one_sign, stands}
use Rattle.declarations.specs.Signs.{BeginsWith}
use Rattle.declarations.specs.rules.Parts.{parameter, predicate}
use Rattle.declarations.specs.rules.Types.{type}
use Rattle.declarations.specs.declared.generics.ParamKind.{ParamKind}
use Rattle.declarations.specs.declared.generics.ParamKind.TheVariants as kinds
use Rattle.item_headers.specs.Header.{AreParams, ArePredicates, HasParams, HasPredicates, front, header, impl_generics}
use Rattle.item_headers.specs.Header.{keyword, param_in, predicate_in, type_generics, where_with}
use Rattle.item_headers.specs.Lists.{led, list_trees, listed_after, mark, pushed_trees}
use Rattle.item_headers.specs.declared.lists.Lead.TheVariants as leads
use Rattle.item_headers.specs.declared.params.Form.TheVariants as forms
use Rattle.item_headers.proofs.DerivedLemmas.{Derived}
use Rattle.item_headers.proofs.HeaderPartLemmas.{angle_trees, where_trees}
use Rattle.item_headers.proofs.ParamReadingLemmas.{AllDerived, declared, keyword_trees, led_trees, mark_tree}
use Rattle.item_headers.proofs.ParamReadingLemmas.{more_listed, param_derived, predicate_derived, predicated, word_tree}
use Rattle.item_headers.proofs.SelfTypeLemmas.{AllNamed, argument_trees, param_named, param_typed}

-- ---- streams as lists

pub chain_trees : (a b : Forest) → trees_of (chain a b) ≡ trees_of a ++ trees_of b
chain_trees nil b = refl
chain_trees (leaf token lo hi rest) b = ap (λ ts. token_tree token lo hi ∷ ts) (chain_trees rest b)
chain_trees (group d lo hi inside rest) b =
    ap (λ ts. Group (record { delimiter = d; stream = inside; span = record { lo = lo; hi = hi } }) ∷ ts)
    (chain_trees rest b)

-- the trees of two streams whose trees are known
pub chain_two : (a b : Forest) (x y : List TokenTree) → trees_of a ≡ x → trees_of b ≡ y → trees_of (chain a b) ≡ x ++ y
chain_two a b x y p q = chain_trees a b ∙ (ap (λ ts. ts ++ trees_of b) p ∙ ap (λ ts. x ++ ts) q)

pub alone_trees : (tree : TokenTree) → trees_of (alone tree) ≡ tree ∷ []
alone_trees tree = trees_of-forest (tree ∷ [])

-- trees of a stream are pushed as they are
pub pushed_same : (trees : List TokenTree) → All GoesInside trees → trees_of (pushed_trees trees) ≡ trees
pushed_same [] all = refl
pushed_same (tree ∷ trees) all =
    chain_trees (split tree) (pushed_trees trees)
    ∙ (ap (λ f. trees_of f ++ trees_of (pushed_trees trees)) (stands_whole tree (All-head GoesInside tree trees all))
    ∙ (ap (λ ts. ts ++ trees_of (pushed_trees trees)) (alone_trees tree)
    ∙ ap (λ ts. tree ∷ ts) (pushed_same trees (All-tail GoesInside tree trees all))))

all_front : (xs ys : List TokenTree) → All GoesInside (xs ++ ys) → All GoesInside xs
all_front [] ys all = All-nil GoesInside
all_front (x ∷ xs) ys all =
    All-cons GoesInside x xs (All-head GoesInside x (xs ++ ys) all)
    (all_front xs ys (All-tail GoesInside x (xs ++ ys) all))

all_back : (xs ys : List TokenTree) → All GoesInside (xs ++ ys) → All GoesInside ys
all_back [] ys all = all
all_back (x ∷ xs) ys all = all_back xs ys (All-tail GoesInside x (xs ++ ys) all)

-- the same for trees that are split
all_parts : (trees xs ys : List TokenTree) → trees ≡ xs ++ ys → All GoesInside trees
    → All GoesInside xs × All GoesInside ys
all_parts trees xs ys whole all =
    let same = subst (λ ts. All GoesInside ts) whole all in (all_front xs ys same, all_back xs ys same)

-- ---- the parts of parameters and predicates are parts of the item's trees

-- the parts that are written may be put into a stream as they are
pub record GoesWhole (param : ParamTrees) : Type 0 where
  pub attributes : All GoesInside param.attributes
  pub name : All GoesInside param.name
  pub bounds : All GoesInside param.bounds

after_sign : (trees rest : List TokenTree) (class : SignClass) → BeginsWith trees class rest → All GoesInside trees
    → All GoesInside rest
after_sign trees rest class at all = (all_parts trees at.front rest at.whole all).1

after_may : (class : SignClass) (form : List TokenTree → List TokenTree → List TokenTree → Type 0)
    (trees part rest : List TokenTree)
    → ((ts : List TokenTree) → form ts part rest → ts ≡ part ++ rest)
    → MayHave class form trees part rest → All GoesInside trees
    → All GoesInside part × All GoesInside rest
after_may class form trees part rest f (stands left at reads) all =
    all_parts left part rest (f left reads) (after_sign trees left class at all)
after_may class form trees part rest f (left_out lacking none same) all = (
  subst (λ ts. All GoesInside ts) (sym none) (All-nil GoesInside),
  subst (λ ts. All GoesInside ts) (sym same) all,
)

name_goes : (kind : ParamKind) (trees name rest : List TokenTree) → HasName kind trees name rest
    → All GoesInside trees
    → All GoesInside name × All GoesInside rest
name_goes kinds.Lifetime trees name rest h all = all_parts trees name rest h.whole all
name_goes kinds.Type trees name rest h all = all_parts trees name rest h.sign.whole all
name_goes kinds.Const trees name rest h all =
    all_parts h.left name rest h.reads.sign.whole (after_sign trees h.left _ h.begins all)

bounds_go : (kind : ParamKind) (trees bounds rest : List TokenTree) → HasBounds kind trees bounds rest
    → All GoesInside trees
    → All GoesInside bounds × All GoesInside rest
bounds_go kinds.Lifetime trees bounds rest h all = after_may _ _ trees bounds rest (λ ts r. r.whole) h all
bounds_go kinds.Type trees bounds rest h all = after_may _ _ trees bounds rest (λ ts r. r.whole) h all
bounds_go kinds.Const trees bounds rest h all =
    all_parts h.left bounds rest h.reads.whole (after_sign trees h.left _ h.begins all)

constant_whole : (trees part rest : List TokenTree) → ReadsConstant trees part rest → trees ≡ part ++ rest
constant_whole trees part rest (one_sign class is sign) = sign.whole
constant_whole trees part rest (negative left one two whole) = whole
constant_whole trees part rest (of_type reads) = reads.whole

default_goes : (kind : ParamKind) (trees default rest : List TokenTree) → HasDefault kind trees default rest
    → All GoesInside trees
    → All GoesInside rest
default_goes kinds.Lifetime trees default rest h all = subst (λ ts. All GoesInside ts) (sym h.1) all
default_goes kinds.Type trees default rest h all = (after_may _ _ trees default rest (λ ts r. r.whole) h all).1
default_goes kinds.Const trees default rest h all =
    (after_may _ _ trees default rest (λ ts r. constant_whole ts default rest r) h all).1

end_goes : (trees rest : List TokenTree) → EndsElement trees rest → All GoesInside trees → All GoesInside rest
end_goes trees rest (comma at) all = after_sign trees rest _ at all
end_goes trees rest (last none same) all = subst (λ ts. All GoesInside ts) (sym same) (All-nil GoesInside)

param_goes : (trees rest : List TokenTree) (param : ParamTrees) → IsParamAt trees param rest → All GoesInside trees
    → GoesWhole param × All GoesInside rest
param_goes trees rest param at all =
    let one = all_parts trees param.attributes at.from_name at.attributes.whole all in
    let two = name_goes param.kind at.from_name param.name at.from_bounds at.name one.1 in
    let three = bounds_go param.kind at.from_bounds param.bounds at.from_default at.bounds two.1 in
    let four = default_goes param.kind at.from_default param.default at.from_end at.default three.1 in (
      record { attributes = one.0; name = two.0; bounds = three.0 },
      end_goes at.from_end rest at.ends four,
    )

-- ---- what is written for a parameter and for a predicate

led_same : (trees : List TokenTree) → All GoesInside trees → trees_of (led 58 trees) ≡ led_trees trees
led_same [] all = refl
led_same (tree ∷ trees) all = ap (λ ts. mark_tree 58 ∷ ts) (pushed_same (tree ∷ trees) all)

keyword_same : (kind : ParamKind) → trees_of (keyword kind) ≡ keyword_trees kind
keyword_same kinds.Const = refl
keyword_same _ = refl

pub declared_same : (param : ParamTrees) → GoesWhole param → trees_of (param_in forms.Declared param) ≡ declared param
declared_same param goes =
    chain_two _ _ param.attributes _ (pushed_same param.attributes goes.attributes)
    (chain_two _ _ (keyword_trees param.kind) _ (keyword_same param.kind)
    (chain_two _ _ param.name _ (pushed_same param.name goes.name) (led_same param.bounds goes.bounds)))

pub predicated_same : (p : PredicateTrees) → All GoesInside p.bounded → All GoesInside p.bounds
    → trees_of (predicate_in p) ≡ predicated p
predicated_same p one two =
    chain_two _ _ p.bounded _ (pushed_same p.bounded one) (ap (λ ts. mark_tree 58 ∷ ts) (pushed_same p.bounds two))

-- ---- lists

-- the parts of each parameter may be put into a stream as they are
abbrev pub AllWhole : List ParamTrees → Type 0
AllWhole [] = Unit {0}
AllWhole (param ∷ params) = GoesWhole param × AllWhole params

-- the parts of each predicate may be put into a stream as they are
abbrev pub AllPredicates : List PredicateTrees → Type 0
AllPredicates [] = Unit {0}
AllPredicates (p ∷ ps) = All GoesInside p.bounded × All GoesInside p.bounds × AllPredicates ps

more_declared : (params : List ParamTrees) → AllWhole params
    → trees_of (listed_after true leads.Angle (map (param_in forms.Declared) params))
    ≡ more_listed (map declared params)
more_declared [] all = refl
more_declared (param ∷ params) all =
    ap (λ ts. mark_tree 44 ∷ ts)
    (chain_two _ _ (declared param) _ (declared_same param all.0) (more_declared params all.1))

abbrev pub name_of : ParamTrees → List TokenTree
name_of param = param.name

more_named : (params : List ParamTrees) → AllWhole params
    → trees_of (listed_after true leads.Angle (map (param_in forms.Named) params)) ≡ more_listed (map name_of params)
more_named [] all = refl
more_named (param ∷ params) all =
    ap (λ ts. mark_tree 44 ∷ ts)
    (chain_two _ _ param.name _ (pushed_same param.name all.0.name) (more_named params all.1))

more_predicated : (ps : List PredicateTrees) → AllPredicates ps
    → trees_of (listed_after true leads.Where (map predicate_in ps)) ≡ more_listed (map predicated ps)
more_predicated [] all = refl
more_predicated (p ∷ ps) all =
    ap (λ ts. mark_tree 44 ∷ ts)
    (chain_two _ _ (predicated p) _ (predicated_same p all.0 all.1) (more_predicated ps all.2))

-- the parameters without defaults in angle brackets, or nothing if there are none
abbrev pub generic_trees : List ParamTrees → List TokenTree
generic_trees [] = []
generic_trees (param ∷ params) = angle_trees (declared param) (map declared params)

pub generics_same : (params : List ParamTrees) → AllWhole params
    → trees_of (impl_generics params) ≡ generic_trees params
generics_same [] all = refl
generics_same (param ∷ params) all =
    ap (λ ts. mark_tree 60 ∷ ts)
    (chain_two _ (mark 62) _ _
    (chain_two _ _ (declared param) _ (declared_same param all.0) (more_declared params all.1)) refl)

pub arguments_same : (params : List ParamTrees) → AllWhole params
    → trees_of (type_generics params) ≡ argument_trees (map name_of params)
arguments_same [] all = refl
arguments_same (param ∷ params) all =
    ap (λ ts. mark_tree 60 ∷ ts)
    (chain_two _ (mark 62) _ _
    (chain_two _ _ param.name _ (pushed_same param.name all.0.name) (more_named params all.1)) refl)

pub where_same : (ps : List PredicateTrees) → AllPredicates ps
    → trees_of (where_with ps []) ≡ where_trees (map predicated ps)
where_same ps all =
    ap (λ fs. trees_of (list_trees leads.Where fs)) (append-nil (map predicate_in ps)) ∙ go ps all
  where
    go : (ps : List PredicateTrees) → AllPredicates ps
        → trees_of (list_trees leads.Where (map predicate_in ps)) ≡ where_trees (map predicated ps)
    go [] all = refl
    go (p ∷ ps) all =
        ap (λ ts. word_tree (codes "where") ∷ ts)
        (chain_two _ _ (predicated p) _ (predicated_same p all.0 all.1) (more_predicated ps all.2))

-- ---- from the item

-- the names of all type parameters are types
abbrev pub AllTyped : List ParamTrees → Type 0
AllTyped [] = Unit {0}
AllTyped (param ∷ params) = (param.kind ≡ kinds.Type → Derived type param.name) × AllTyped params

-- what is known of the parameters of an item
pub record ParamsKnown (params : List ParamTrees) : Type 0 where
  pub whole : AllWhole params
  pub derived : AllDerived parameter (map declared params)
  pub named : AllNamed (map name_of params)
  pub typed : AllTyped params

params_known : (trees : List TokenTree) (params : List ParamTrees) (left : List TokenTree)
    → AreParams trees params left → All GoesInside trees
    → ParamsKnown params
params_known trees [] left are all = record { whole = tt; derived = tt; named = tt; typed = tt }
params_known trees (param ∷ params) left are all =
    let goes = param_goes trees are.0 param are.1 all in
    let more = params_known are.0 params left are.2 goes.1 in
    record {
      whole = (goes.0, more.whole);
      derived = (param_derived trees are.0 param are.1, more.derived);
      named = (param_named trees are.0 param are.1, more.named);
      typed = (param_typed trees are.0 param are.1, more.typed);
    }

within_goes : (trees inside : List TokenTree) → IsWithin trees inside → All GoesInside trees → All GoesInside inside
within_goes [] inside within all = subst (λ ts. All GoesInside ts) (sym within) (All-nil GoesInside)
within_goes (first ∷ rest) inside within all =
    (all_parts rest inside (within.0 ∷ []) within.1 (All-tail GoesInside first rest all)).0

pub item_params : (trees : List TokenTree) (params : List ParamTrees) → HasParams trees params → All GoesInside trees
    → ParamsKnown params
item_params trees params has all =
    params_known has.inside params [] has.all (within_goes trees has.inside has.within all)

-- what is known of the predicates of an item
pub record PredicatesKnown (ps : List PredicateTrees) : Type 0 where
  pub whole : AllPredicates ps
  pub derived : AllDerived predicate (map predicated ps)

predicates_known : (trees : List TokenTree) (ps : List PredicateTrees) (left : List TokenTree)
    → ArePredicates trees ps left → All GoesInside trees
    → PredicatesKnown ps
predicates_known trees [] left are all = record { whole = tt; derived = tt }
predicates_known trees (p ∷ ps) left are all =
    let at = are.1 in
    let one = all_parts trees p.bounded at.from_colon at.bounded.whole all in
    let two = all_parts at.bounds.left p.bounds at.from_end at.bounds.reads.whole
    (after_sign at.from_colon at.bounds.left _ at.bounds.begins one.1) in
    let more = predicates_known are.0 ps left are.2 (end_goes at.from_end are.0 at.ends two.1) in
    record {
      whole = (one.0, two.0, more.whole);
      derived = (predicate_derived trees are.0 p at, more.derived);
    }

clause_goes : (trees inside : List TokenTree) → IsAfterWhere trees inside → All GoesInside trees
    → All GoesInside inside
clause_goes [] inside after all = subst (λ ts. All GoesInside ts) (sym after) (All-nil GoesInside)
clause_goes (Ident i ∷ rest) inside after all =
    subst (λ ts. All GoesInside ts) (sym after.1) (All-tail GoesInside (Ident i) rest all)
clause_goes (Group g ∷ rest) inside after all = absurd after
clause_goes (Punct p ∷ rest) inside after all = absurd after
clause_goes (Literal l ∷ rest) inside after all = absurd after

pub item_predicates : (trees : List TokenTree) (ps : List PredicateTrees) → HasPredicates trees ps
    → All GoesInside trees
    → PredicatesKnown ps
item_predicates trees ps has all =
    predicates_known has.inside ps [] has.all (clause_goes trees has.inside has.after all)

-- ---- the whole header

pub header_same : (params : List ParamTrees) (name : Name) (path clause : Forest) (rest : List TokenTree)
    → trees_of (header params name path clause) ++ rest
    ≡ word_tree (codes "impl") ∷ (trees_of (impl_generics params) ++ (trees_of path ++ (word_tree (codes "for")
    ∷ ((Ident name ∷ trees_of (type_generics params)) ++ (trees_of clause ++ rest)))))
header_same params name path clause rest =
    let g = trees_of (impl_generics params) in
    let p = trees_of path in
    let t : List TokenTree = word_tree (codes "for") ∷ Ident name ∷ trees_of (type_generics params) in
    let c = trees_of clause in
    ap (λ ts. ts ++ rest) (chain_trees (front params name path) clause
    ∙ ap (λ ts. (word_tree (codes "impl") ∷ ts) ++ c) (chain_trees (impl_generics params) _
    ∙ ap (λ ts. g ++ ts) (chain_trees path _
    ∙ ap (λ ts. p ++ word_tree (codes "for") ∷ ts) (chain_trees (alone (Ident name)) (type_generics params)))))
    ∙ ap (λ ts. word_tree (codes "impl") ∷ ts)
    (append_assoc (g ++ (p ++ t)) c rest
    ∙ (append_assoc g (p ++ t) (c ++ rest) ∙ ap (λ ts. g ++ ts) (append_assoc p t (c ++ rest))))
