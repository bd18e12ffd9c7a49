-- The parts of a function, in reading order.
use Rattle.std.specs.Prelude.{◌≡◌, List, [], ◌∷◌, ◌⊎◌, Option, Some, None, true}
use Rattle.std.specs.Borrow.{Bor}
use Rattle.pm_token.specs.Leaf.{Name}
use Rattle.pm_token.specs.declared.delimiters.Delimiter.TheVariants as delimiters
use Rattle.pm_stream.specs.declared.stream.Group.{Group as Grouped}
use Rattle.pm_stream.specs.declared.stream.TokenTree.{TokenTree}
use Rattle.pm_stream.specs.declared.stream.TokenTree.TheVariants.{Group, Ident}
use Rattle.declarations.specs.Item.{IsNameClass}
use Rattle.declarations.specs.Reading.{Reads}
use Rattle.declarations.specs.Signs.{BeginsWith, group_class, name_class}
use Rattle.declarations.specs.Whole.{ReadsAll}
use Rattle.item_tables.specs.declared.class.SignClass.TheVariants as classes
use Rattle.item_tables.specs.declared.class.Keyword.TheVariants as keywords
use Rattle.declarations.specs.declared.function.Function.{Function}
use Rattle.item_tables.specs.Classes.{is_block}
use Rattle.declarations.specs.rules.Functions as rule
use Rattle.declarations.specs.rules.Names.{key}
use Rattle.declarations.specs.rules.Parts.{attributes, generics, visibility, where_clause}
use Rattle.declarations.specs.rules.Pieces.{ByRule}
use Rattle.declarations.specs.rules.Types.{type}

-- the trees begin with this name, which is not a keyword
pub record IsNameAt (trees : List TokenTree) (name : Name) (rest : List TokenTree) : Type 0 where
  pub whole : trees ≡ Ident name ∷ rest
  pub is_name : IsNameClass (name_class name)

-- the trees begin with this group in parentheses
pub record AreParentheses (trees : List TokenTree) (group : Grouped) (rest : List TokenTree) : Type 0 where
  pub whole : trees ≡ Group group ∷ rest
  pub round : group.delimiter ≡ delimiters.Parenthesis

-- the trees begin with `->` and this type
pub record HasArrow (trees returned rest : List TokenTree) : Type 0 where
  pub from_type : List TokenTree
  pub arrow : BeginsWith trees classes.Arrow from_type
  pub type_read : Reads (ByRule type) from_type returned rest

-- the trees begin with `->` and this type, or with no return type
abbrev pub HasReturn : List TokenTree → List TokenTree → List TokenTree → Type 0
HasReturn trees returned rest = HasArrow trees returned rest ⊎ ((returned ≡ []) × (trees ≡ rest))

-- the group is a block: braces, or a group without delimiters that holds only braces, perhaps in more such groups
abbrev pub IsBlock : Grouped → Type 0
IsBlock group = is_block (group_class group.delimiter group.stream) ≡ true

-- the trees begin with this block, or with `;`
abbrev pub HasBody : Option (Bor Grouped) → List TokenTree → List TokenTree → Type 0
HasBody (Some body) trees rest = (trees ≡ Group body.now ∷ rest) × IsBlock body.now
HasBody None trees rest = BeginsWith trees classes.Semicolon rest

-- the trees after the parameters begin with this return type, this where clause and this body
pub record HasEnd (trees returned clause : List TokenTree) (body : Option (Bor Grouped)) (rest : List TokenTree)
    : Type 0 where
  pub from_clause : List TokenTree
  pub from_body : List TokenTree
  pub return_type : HasReturn trees returned from_clause
  pub clause_read : Reads (ByRule where_clause) from_clause clause from_body
  pub body_read : HasBody body from_body rest

-- the trees begin with these parts of a function, in this order
pub record HasFunctionParts (trees : List TokenTree) (function : Function) (rest : List TokenTree) : Type 0 where
  pub from_visibility : List TokenTree
  pub from_qualifiers : List TokenTree
  pub from_fn : List TokenTree
  pub fn_word : List TokenTree
  pub from_name : List TokenTree
  pub from_generics : List TokenTree
  pub from_parameters : List TokenTree
  pub from_return : List TokenTree
  pub attributes : Reads (ByRule attributes) trees function.attributes.now from_visibility
  pub visibility : Reads (ByRule visibility) from_visibility function.visibility.now from_qualifiers
  pub qualifiers : Reads (ByRule rule.qualifiers) from_qualifiers function.qualifiers.now from_fn
  pub keyword : Reads (ByRule (key keywords.Fn)) from_fn fn_word from_name
  pub name : IsNameAt from_name function.name.now from_generics
  pub generics : Reads (ByRule generics) from_generics function.generics.now from_parameters
  pub parameters : AreParentheses from_parameters function.parameters.now from_return
  pub end : HasEnd from_return function.return_type.now function.where_clause.now function.body rest

-- the trees are a function, and these are its parts
pub record IsFunction (trees : List TokenTree) (function : Function) : Type 0 where
  pub all : ReadsAll (ByRule rule.function_item) trees
  pub parts : HasFunctionParts trees function []
