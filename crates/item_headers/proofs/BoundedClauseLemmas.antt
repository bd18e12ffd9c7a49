-- The where clause with a bound on each type parameter is read as a where clause.
use Rattle.std.proofs.Common.{◌≡◌, refl, ◌∙◌, ap, true, List, [], ◌∷◌, ◌++◌, codes, map}
use Rattle.pm_stream.specs.declared.stream.TokenTree.{TokenTree}
use Rattle.proc_macro2.specs.DocGroup.{trees_of}
use Rattle.proc_macro2.specs.Forest.{Forest}
use Rattle.item_tables.specs.declared.class.SignClass.TheVariants as classes
use Rattle.declarations.specs.Param.{ParamTrees, PredicateTrees}
use Rattle.declarations.specs.Whole.{ReadsAll}
use Rattle.declarations.specs.rules.Names.{Bounded, Bounds, G, Rest, one}
use Rattle.declarations.specs.rules.Parts.{predicate}
use Rattle.declarations.specs.rules.Pieces.{ByRule}
use Rattle.declarations.specs.rules.Types.{bounds, type}
use Rattle.declarations.specs.declared.generics.ParamKind.{ParamKind}
use Rattle.declarations.specs.declared.generics.ParamKind.TheVariants as kinds
use Rattle.item_headers.specs.Header.{bounded_as, bounds_on_types, predicate_in, where_with}
use Rattle.item_headers.specs.Lists.{list_trees, listed_after}
use Rattle.item_headers.specs.declared.lists.Lead.TheVariants as leads
use Rattle.item_headers.proofs.DerivedLemmas.{Derived, derived_both, derived_mark}
use Rattle.item_headers.proofs.HeaderPartLemmas.{where_trees}
use Rattle.item_headers.proofs.ParamReadingLemmas.{AllDerived, bounds_part, colon_derived, mark_tree, more_listed}
use Rattle.item_headers.proofs.ParamReadingLemmas.{predicated, word_tree}
use Rattle.item_headers.proofs.WrittenLemmas.{AllPredicates, AllTyped, AllWhole, GoesWhole, chain_two, predicated_same}
use Rattle.item_headers.proofs.WrittenLemmas.{pushed_same}

-- ---- the trees

-- `T: bound` for the parameter, if it is a type, before the others
abbrev bounded_kind : List TokenTree → ParamTrees → ParamKind → List (List TokenTree) → List (List TokenTree)
bounded_kind bound param kinds.Lifetime rest = rest
bounded_kind bound param kinds.Type rest = (param.name ++ mark_tree 58 ∷ bound) ∷ rest
bounded_kind bound param kinds.Const rest = rest

-- `T: bound` for each parameter that is a type
abbrev pub bounded_lists : List TokenTree → List ParamTrees → List (List TokenTree)
bounded_lists bound [] = []
bounded_lists bound (param ∷ params) = bounded_kind bound param param.kind (bounded_lists bound params)

more_same : (fs : List Forest) → trees_of (listed_after true leads.Where fs) ≡ more_listed (map trees_of fs)
more_same [] = refl
more_same (f ∷ fs) = ap (λ ts. mark_tree 44 ∷ ts) (chain_two f _ (trees_of f) _ refl (more_same fs))

-- a list after `where`
pub list_same : (fs : List Forest) → trees_of (list_trees leads.Where fs) ≡ where_trees (map trees_of fs)
list_same [] = refl
list_same (f ∷ fs) = ap (λ ts. word_tree (codes "where") ∷ ts) (chain_two f _ (trees_of f) _ refl (more_same fs))

kind_same : (kind : ParamKind) (bound : Forest) (param : ParamTrees) → GoesWhole param → (rest : List Forest)
    (ys : List (List TokenTree)) → map trees_of rest ≡ ys
    → map trees_of (bounded_as bound param kind rest) ≡ bounded_kind (trees_of bound) param kind ys
kind_same kinds.Lifetime bound param goes rest ys same = same
kind_same kinds.Type bound param goes rest ys same =
    ap (λ ts. ts ∷ map trees_of rest)
    (chain_two _ _ param.name (mark_tree 58 ∷ trees_of bound) (pushed_same param.name goes.name) refl)
    ∙ ap (λ xs. (param.name ++ mark_tree 58 ∷ trees_of bound) ∷ xs) same
kind_same kinds.Const bound param goes rest ys same = same

bounds_same : (bound : Forest) (params : List ParamTrees) → AllWhole params
    → map trees_of (bounds_on_types bound params) ≡ bounded_lists (trees_of bound) params
bounds_same bound [] all = refl
bounds_same bound (param ∷ params) all =
    kind_same param.kind bound param all.0 (bounds_on_types bound params) (bounded_lists (trees_of bound) params)
    (bounds_same bound params all.1)

all_same : (ps : List PredicateTrees) → AllPredicates ps → (fs : List Forest) (ys : List (List TokenTree))
    → map trees_of fs ≡ ys
    → map trees_of (map predicate_in ps ++ fs) ≡ map predicated ps ++ ys
all_same [] all fs ys same = same
all_same (p ∷ ps) all fs ys same =
    ap (λ ts. ts ∷ map trees_of (map predicate_in ps ++ fs)) (predicated_same p all.0 all.1)
    ∙ ap (λ xs. predicated p ∷ xs) (all_same ps all.2 fs ys same)

pub bounded_same : (ps : List PredicateTrees) (bound : Forest) (params : List ParamTrees) → AllPredicates ps
    → AllWhole params
    → trees_of (where_with ps (bounds_on_types bound params))
    ≡ where_trees (map predicated ps ++ bounded_lists (trees_of bound) params)
bounded_same ps bound params all whole =
    list_same (map predicate_in ps ++ bounds_on_types bound params)
    ∙ ap where_trees (all_same ps all (bounds_on_types bound params) (bounded_lists (trees_of bound) params)
    (bounds_same bound params whole))

-- ---- the rules derive them

bound_derived : (bound : List TokenTree) → ReadsAll (ByRule bounds) bound → Derived bounds bound
bound_derived bound reads =
    bounds_part bound bound []
    (record {
      piece = reads.piece;
      read = reads.read;
      taken = reads.taken;
      whole = reads.whole;
      stands = reads.stands.0;
    })

one_derived : (name bound : List TokenTree) → Derived type name → Derived bounds bound
    → Derived predicate (name ++ mark_tree 58 ∷ bound)
one_derived name bound d b =
    derived_mark Bounded _ (name ++ mark_tree 58 ∷ bound)
    (derived_both type _ name (mark_tree 58 ∷ bound) d
    (derived_mark Rest _ (mark_tree 58 ∷ bound)
    (derived_both (one classes.Colon) _ (mark_tree 58 ∷ []) bound colon_derived (derived_mark Bounds bounds bound b))))

kind_derived : (kind : ParamKind) (bound : List TokenTree) (param : ParamTrees) (rest : List (List TokenTree))
    → (kind ≡ kinds.Type → Derived type param.name) → Derived bounds bound → AllDerived predicate rest
    → AllDerived predicate (bounded_kind bound param kind rest)
kind_derived kinds.Lifetime bound param rest f b all = all
kind_derived kinds.Type bound param rest f b all = (one_derived param.name bound (f refl) b, all)
kind_derived kinds.Const bound param rest f b all = all

bounded_derived : (bound : List TokenTree) (params : List ParamTrees) → AllTyped params → Derived bounds bound
    → AllDerived predicate (bounded_lists bound params)
bounded_derived bound [] all b = tt
bounded_derived bound (param ∷ params) all b =
    kind_derived param.kind bound param (bounded_lists bound params) all.0 b (bounded_derived bound params all.1 b)

both_derived : (g : G) (xs ys : List (List TokenTree)) → AllDerived g xs → AllDerived g ys → AllDerived g (xs ++ ys)
both_derived g [] ys a b = b
both_derived g (x ∷ xs) ys a b = (a.0, both_derived g xs ys a.1 b)

-- the predicates of the item and the bounds on its type parameters
pub all_derived : (ps : List PredicateTrees) (params : List ParamTrees) (bound : List TokenTree)
    → AllDerived predicate (map predicated ps) → AllTyped params → ReadsAll (ByRule bounds) bound
    → AllDerived predicate (map predicated ps ++ bounded_lists bound params)
all_derived ps params bound all typed reads =
    both_derived predicate (map predicated ps) (bounded_lists bound params) all
    (bounded_derived bound params typed (bound_derived bound reads))
