-- The meaning of the error `Fault`: parts of the item are not those of the grammar.
use Rattle.std.specs.Prelude.{List}
use Rattle.declarations.specs.Param.{ParamTrees, PredicateTrees}
use Rattle.item_headers.specs.Header.{HasParams, HasPredicates}
use Rattle.item_headers.specs.declared.errors.HeaderError.{HeaderError}
use Rattle.item_headers.specs.declared.errors.HeaderError.TheVariants as errors
use Rattle.pm_stream.specs.declared.stream.TokenTree.{TokenTree}

-- if the error is `Fault`, the statement holds
abbrev pub IfFault : HeaderError → Type 0 → Type 0
IfFault (errors.Fault fault) statement = statement
IfFault (errors.Keyword error) statement = Unit {0}
IfFault (errors.Quote error) statement = Unit {0}

-- whether the trees are not the generic parameters of an item
abbrev pub HasNoParams : List TokenTree → Type 0
HasNoParams generics = (params : List ParamTrees) → HasParams generics params → ⊥

-- whether the trees are not the where clause of an item
abbrev pub HasNoPredicates : List TokenTree → Type 0
HasNoPredicates clause = (predicates : List PredicateTrees) → HasPredicates clause predicates → ⊥

-- whether the trees are not the generic parameters and the where clause of an item
abbrev pub HasNotBoth : List TokenTree → List TokenTree → Type 0
HasNotBoth generics clause =
    (params : List ParamTrees) (predicates : List PredicateTrees) → HasParams generics params
    → HasPredicates clause predicates → ⊥
