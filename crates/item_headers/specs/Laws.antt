-- The law of headers: what `impl_header` writes, followed by a body in braces, is one `impl` with known parts.
use Rattle.std.specs.Prelude.{◌≡◌, ◌↔◌, All, false, List, [], ◌∷◌, ◌++◌, Option, Some, None, codes}
use Rattle.std.specs.Borrow.{Bor}
use Rattle.pm_stream.specs.declared.stream.Group.{Group as Grouped}
use Rattle.pm_stream.specs.declared.stream.TokenTree.{TokenTree}
use Rattle.pm_stream.specs.declared.stream.TokenTree.TheVariants.{Group, Ident}
use Rattle.proc_macro2.specs.DocGroup.{trees_of}
use Rattle.proc_macro2.specs.Forest.{Forest}
use Rattle.proc_macro2.specs.Leaf.{Name}
use Rattle.proc_macro2.specs.Trees.{GoesInside}
use Rattle.proc_macro2.specs.declared.Delimiter.TheVariants as delimiters
use Rattle.declarations.specs.Impl.{IsImpl, has_generics}
use Rattle.declarations.specs.Item.{IsNameClass}
use Rattle.declarations.specs.Param.{HasNo, ParamTrees, PredicateTrees}
use Rattle.declarations.specs.Reader.{classes_in}
use Rattle.declarations.specs.Reading.{Reads}
use Rattle.declarations.specs.Signs.{name_class}
use Rattle.declarations.specs.Whole.{ReadsAll}
use Rattle.item_tables.specs.declared.class.SignClass.TheVariants as classes
use Rattle.declarations.specs.declared.implementation.Impl.{Impl}
use Rattle.declarations.specs.rules.ImplItems.{impl_item}
use Rattle.declarations.specs.rules.Parts.{where_clause}
use Rattle.declarations.specs.rules.Pieces.{ByRule}
use Rattle.declarations.specs.rules.Types.{bounds, type}
use Rattle.item_headers.specs.Header.{HasParams, HasPredicates, bounds_on_types, header, impl_generics}
use Rattle.item_headers.specs.Header.{type_generics, where_with}
use Rattle.item_headers.specs.Lists.{word}

-- the word `for`, as a header has it
abbrev pub for_trees : List TokenTree
for_trees = trees_of (word (codes "for"))

-- whether the trees can be the trait of an item with these generic parameters. Before `for` they are read as a type,
-- and this type does not begin with `!`. If there are no parameters, it does not begin as parameters do, as in `<T>::A`
pub record IsTraitOf (params : List ParamTrees) (path : List TokenTree) : Type 0 where
  pub reads : Reads (ByRule type) (path ++ for_trees) path for_trees
  pub positive : HasNo classes.Exclamation path
  pub plain : params ≡ [] → has_generics (classes_in path) ≡ false

-- whether the `impl` has this trait
abbrev pub HasTrait : Option (Bor (List TokenTree)) → List TokenTree → Type 0
HasTrait (Some name) path = name.now ≡ path
HasTrait None path = ⊥

-- whether these are all parts of the `impl`
pub record HasOnly (angles path target clause : List TokenTree) (block : Grouped) (item : Impl) : Type 0 where
  pub attributes : item.attributes.now ≡ []
  pub visibility : item.visibility.now ≡ []
  pub qualifiers : item.qualifiers.now ≡ []
  pub generics : item.generics.now ≡ angles
  pub constness : item.constness.now ≡ []
  pub negation : item.negation.now ≡ []
  pub trait_path : HasTrait item.trait_path path
  pub self_type : item.self_type.now ≡ target
  pub where_clause : item.where_clause.now ≡ clause
  pub body : item.body.now ≡ block

-- the trees are one `impl`, and these are its parts in each reading
pub record IsImplOf (trees angles path target clause : List TokenTree) (block : Grouped) : Type 0 where
  pub all : ReadsAll (ByRule impl_item) trees
  pub parts : (item : Impl) → IsImpl trees item ↔ HasOnly angles path target clause block item

-- whether the trees are read as a where clause before this body
abbrev pub IsClauseBefore : List TokenTree → Grouped → Type 0
IsClauseBefore clause body = Reads (ByRule where_clause) (clause ++ Group body ∷ []) clause (Group body ∷ [])

-- the header with this where clause and then a body in braces are an `impl` of the trait for the item's type, with the
-- item's parameters without defaults. The item's trees are those of a stream
abbrev pub HeaderWithClauseReads : Type 0
HeaderWithClauseReads = (generics : List TokenTree) (params : List ParamTrees) (name : Name) (path clause : Forest)
    (body : Grouped)
    → All GoesInside generics → HasParams generics params → IsNameClass (name_class name)
    → IsTraitOf params (trees_of path) → body.delimiter ≡ delimiters.Brace → IsClauseBefore (trees_of clause) body
    → IsImplOf (trees_of (header params name path clause) ++ Group body ∷ []) (trees_of (impl_generics params))
    (trees_of path) (Ident name ∷ trees_of (type_generics params)) (trees_of clause) body

-- the item's where clause is read before a body
abbrev pub ClauseReads : Type 0
ClauseReads = (clause : List TokenTree) (predicates : List PredicateTrees) (body : Grouped) → All GoesInside clause
    → HasPredicates clause predicates → body.delimiter ≡ delimiters.Brace
    → IsClauseBefore (trees_of (where_with predicates [])) body

-- the item's where clause with a bound on each type parameter is read before a body, if the trees of the bound are
-- bounds
abbrev pub BoundedClauseReads : Type 0
BoundedClauseReads = (generics clause : List TokenTree) (params : List ParamTrees) (predicates : List PredicateTrees)
    (bound : Forest) (body : Grouped)
    → All GoesInside generics → All GoesInside clause → HasParams generics params → HasPredicates clause predicates
    → ReadsAll (ByRule bounds) (trees_of bound) → body.delimiter ≡ delimiters.Brace
    → IsClauseBefore (trees_of (where_with predicates (bounds_on_types bound params))) body

-- the header of an item and then a body in braces are an `impl` of the trait for the item's type, with the item's
-- parameters without defaults and with its predicates. The item's trees are those of a stream
abbrev pub HeaderReads : Type 0
HeaderReads = (generics clause : List TokenTree) (params : List ParamTrees) (predicates : List PredicateTrees)
    (name : Name) (path : Forest) (body : Grouped)
    → All GoesInside generics → All GoesInside clause → HasParams generics params → HasPredicates clause predicates
    → IsNameClass (name_class name) → IsTraitOf params (trees_of path) → body.delimiter ≡ delimiters.Brace
    → IsImplOf (trees_of (header params name path (where_with predicates [])) ++ Group body ∷ [])
    (trees_of (impl_generics params)) (trees_of path) (Ident name ∷ trees_of (type_generics params))
    (trees_of (where_with predicates [])) body
