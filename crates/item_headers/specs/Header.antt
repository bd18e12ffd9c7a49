-- The trees that are written for the parameters and the predicates of an item.
use Rattle.std.specs.Prelude.{◌≡◌, List, [], ◌∷◌, ◌++◌, codes, map}
use Rattle.declarations.specs.Param.{IsAfterWhere, IsParamAt, IsPredicateAt, IsWithin, ParamTrees, PredicateTrees}
use Rattle.declarations.specs.declared.generics.ParamKind.{ParamKind}
use Rattle.declarations.specs.declared.generics.ParamKind.TheVariants as kinds
use Rattle.proc_macro2.specs.Forest.{Forest, nil, chain}
use Rattle.proc_macro2.specs.Trees.{alone}
use Rattle.pm_stream.specs.declared.stream.TokenTree.{TokenTree}
use Rattle.pm_stream.specs.declared.stream.TokenTree.TheVariants.{Ident}
use Rattle.proc_macro2.specs.Leaf.{Name}
use Rattle.item_headers.specs.Lists.{led, list_trees, mark, pushed_trees, word}
use Rattle.item_headers.specs.declared.lists.Lead.{Lead}
use Rattle.item_headers.specs.declared.lists.Lead.TheVariants as leads
use Rattle.item_headers.specs.declared.params.Form.{Form}
use Rattle.item_headers.specs.declared.params.Form.TheVariants as forms

-- ---- the parameters and predicates of an item

-- whether the trees are the given parameters, followed by the trees that are left
abbrev pub AreParams : List TokenTree → List ParamTrees → List TokenTree → Type 0
AreParams trees [] left = trees ≡ left
AreParams trees (param ∷ params) left =
    (rest : List TokenTree) × IsParamAt trees param rest × AreParams rest params left

-- whether the parameters are all that are in the brackets
pub record HasParams (generics : List TokenTree) (params : List ParamTrees) : Type 0 where
  pub inside : List TokenTree
  pub within : IsWithin generics inside
  pub all : AreParams inside params []

-- whether the trees are the given predicates, followed by the trees that are left
abbrev pub ArePredicates : List TokenTree → List PredicateTrees → List TokenTree → Type 0
ArePredicates trees [] left = trees ≡ left
ArePredicates trees (predicate ∷ predicates) left =
    (rest : List TokenTree) × IsPredicateAt trees predicate rest × ArePredicates rest predicates left

-- whether the predicates are all that are in the where clause
pub record HasPredicates (clause : List TokenTree) (predicates : List PredicateTrees) : Type 0 where
  pub inside : List TokenTree
  pub after : IsAfterWhere clause inside
  pub all : ArePredicates inside predicates []

-- ---- the trees that are written

-- the keyword of a parameter: `const`, or none
abbrev pub keyword : ParamKind → Forest
keyword kinds.Const = word (codes "const")
keyword _ = nil

-- a parameter in the given form: without its default, or only its name
abbrev pub param_in : Form → ParamTrees → Forest
param_in forms.Declared param =
    chain (pushed_trees param.attributes)
    (chain (keyword param.kind) (chain (pushed_trees param.name) (led 58 param.bounds)))
param_in forms.Named param = pushed_trees param.name

-- `>` (62), or nothing if there are no parameters
abbrev pub closing_angle : List ParamTrees → Forest
closing_angle [] = nil
closing_angle (param ∷ params) = mark 62

-- the parameters in angle brackets, or nothing if there are none
abbrev pub generics : Lead → Form → List ParamTrees → Forest
generics lead form params = chain (list_trees lead (map (param_in form) params)) (closing_angle params)

-- `<'a, T: A, const N: usize>`: the parameters without defaults, or nothing if there are none
abbrev pub impl_generics : List ParamTrees → Forest
impl_generics params = generics leads.Angle forms.Declared params

-- `<'a, T, N>`: the parameters' names, as in a type
abbrev pub type_generics : List ParamTrees → Forest
type_generics params = generics leads.Angle forms.Named params

-- `::<'a, T, N>`: the parameters' names, as in an expression
abbrev pub turbofish : List ParamTrees → Forest
turbofish params = generics leads.Turbofish forms.Named params

-- a predicate: a type, `:` (58) and its bounds
abbrev pub predicate_in : PredicateTrees → Forest
predicate_in predicate = chain (pushed_trees predicate.bounded) (chain (mark 58) (pushed_trees predicate.bounds))

-- the bound on a parameter of the given kind, if it is a type, before the other bounds
abbrev pub bounded_as : Forest → ParamTrees → ParamKind → List Forest → List Forest
bounded_as bound param kinds.Lifetime rest = rest
bounded_as bound param kinds.Type rest = chain (pushed_trees param.name) (chain (mark 58) bound) ∷ rest
bounded_as bound param kinds.Const rest = rest

-- the bound on the parameter, if it is a type, before the other bounds
abbrev pub with_bound : Forest → ParamTrees → List Forest → List Forest
with_bound bound param rest = bounded_as bound param param.kind rest

-- `T: bound` for each parameter that is a type
abbrev pub bounds_on_types : Forest → List ParamTrees → List Forest
bounds_on_types bound [] = []
bounds_on_types bound (param ∷ params) = with_bound bound param (bounds_on_types bound params)

-- `where`, the predicates of the item and then more predicates, or nothing if there are none
abbrev pub where_with : List PredicateTrees → List Forest → Forest
where_with predicates more = list_trees leads.Where (map predicate_in predicates ++ more)

-- `impl`, the parameters, the trait, `for` and the type with its arguments
abbrev pub front : List ParamTrees → Name → Forest → Forest
front params name path =
    chain (word (codes "impl")) (chain (impl_generics params) (chain path (chain (word (codes "for"))
    (chain (alone (Ident name)) (type_generics params)))))

-- `impl<'a, T> Trait for Name<'a, T>` and a where clause
abbrev pub header : List ParamTrees → Name → Forest → Forest → Forest
header params name path clause = chain (front params name path) clause
