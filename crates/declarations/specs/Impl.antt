-- The parts of an `impl`, in reading order.
use Rattle.std.specs.Prelude.{◌≡◌, Bool, true, false, ◌&&◌, ◌||◌, List, [], ◌∷◌, ◌⊎◌, Option, Some, None}
use Rattle.std.specs.Borrow.{Bor}
use Rattle.grammars.specs.Grammar.{Then, perhaps}
use Rattle.pm_token.specs.declared.delimiters.Delimiter.TheVariants as delimiters
use Rattle.pm_stream.specs.declared.stream.Group.{Group as Grouped}
use Rattle.pm_stream.specs.declared.stream.TokenTree.{TokenTree}
use Rattle.pm_stream.specs.declared.stream.TokenTree.TheVariants.{Group}
use Rattle.declarations.specs.Param.{HasNo}
use Rattle.declarations.specs.Reader.{classes_in}
use Rattle.declarations.specs.Reading.{Reads}
use Rattle.declarations.specs.Signs.{BeginsWith}
use Rattle.declarations.specs.Whole.{ReadsAll}
use Rattle.item_tables.specs.declared.class.SignClass.{SignClass}
use Rattle.item_tables.specs.declared.class.SignClass.TheVariants as classes
use Rattle.item_tables.specs.declared.class.Keyword.TheVariants as keywords
use Rattle.declarations.specs.declared.implementation.Impl.{Impl}
use Rattle.item_tables.specs.Classes.{is_word, one_of, opens}
use Rattle.declarations.specs.rules.ImplItems as rule
use Rattle.declarations.specs.rules.Names.{G, key, one}
use Rattle.declarations.specs.rules.Parts.{attributes, generics, visibility, where_clause}
use Rattle.declarations.specs.rules.Pieces.{ByRule}
use Rattle.declarations.specs.rules.Types.{type}

-- ---- grammars between `impl` and the where clause

-- `const` before a trait, or nothing
abbrev pub may_const : G
may_const = perhaps (key keywords.Const)

-- `for` and a type
abbrev pub for_type : G
for_type = Then (key keywords.For) type

-- `for` and a type, or nothing
abbrev pub may_for : G
may_for = perhaps for_type

-- a type, or a trait, `for` and a type
abbrev pub target_types : G
target_types = Then type may_for

-- ---- whether generic parameters follow

-- whether the sign after a word shows that the word is a generic parameter
abbrev pub ends_parameter : SignClass → Bool
ends_parameter = one_of (classes.Colon ∷ classes.Equals ∷ classes.Comma ∷ classes.Greater ∷ [])

-- whether the sign alone shows that a `<` before it begins generic parameters
abbrev pub begins_parameter : SignClass → Bool
begins_parameter =
    one_of (classes.Greater ∷ classes.Hash ∷ classes.Lifetime ∷ classes.Keyword keywords.Const ∷ [])

-- whether the signs after a word show that it is a generic parameter
abbrev pub goes_on_parameter : List SignClass → Bool
goes_on_parameter [] = false
goes_on_parameter (c ∷ cs) = ends_parameter c

-- whether the signs after a `<` show that it begins generic parameters
abbrev pub begins_generics : List SignClass → Bool
begins_generics [] = false
begins_generics (c ∷ cs) = begins_parameter c || is_word c && goes_on_parameter cs

-- whether the signs after `impl` begin with generic parameters, and not with a type
abbrev pub has_generics : List SignClass → Bool
has_generics [] = false
has_generics (c ∷ cs) = opens c && begins_generics cs

-- ---- the parts

-- the trees begin with these generic parameters in angle brackets, or with none
abbrev pub HasGenerics : List TokenTree → List TokenTree → List TokenTree → Type 0
HasGenerics trees part rest =
    ((has_generics (classes_in trees) ≡ true) × Reads (ByRule generics) trees part rest)
    ⊎ ((has_generics (classes_in trees) ≡ false) × (part ≡ []) × (trees ≡ rest))

-- the trees begin with this trait, `for`, and the type that has the trait
pub record HasTrait (trees name self_type rest : List TokenTree) : Type 0 where
  pub from_for : List TokenTree
  pub from_type : List TokenTree
  pub trait_read : Reads (ByRule type) trees name from_for
  pub for_read : BeginsWith from_for (classes.Keyword keywords.For) from_type
  pub type_read : Reads (ByRule type) from_type self_type rest

-- the trees begin with this trait, if there is one, and with this type
abbrev pub HasTypes : Option (Bor (List TokenTree)) → List TokenTree → List TokenTree → List TokenTree → Type 0
HasTypes (Some name) trees self_type rest = HasTrait trees name.now self_type rest
HasTypes None trees self_type rest = Reads (ByRule type) trees self_type rest

-- the trees begin with `!`, and with a trait and a type or with a type
pub record IsNegative (trees negation : List TokenTree) (name : Option (Bor (List TokenTree)))
    (self_type rest : List TokenTree) : Type 0 where
  pub from_types : List TokenTree
  pub not_read : Reads (ByRule (one classes.Exclamation)) trees negation from_types
  pub types : HasTypes name from_types self_type rest

-- the trees begin with a `!` that is the type
pub record IsNever (trees negation : List TokenTree) (name : Option (Bor (List TokenTree)))
    (self_type rest : List TokenTree) : Type 0 where
  pub no_not : negation ≡ []
  pub no_trait : name ≡ None
  pub type_read : Reads (ByRule (one classes.Exclamation)) trees self_type rest

-- the trees begin with a trait and a type or with a type, and not with `!`
pub record IsPositive (trees negation : List TokenTree) (name : Option (Bor (List TokenTree)))
    (self_type rest : List TokenTree) : Type 0 where
  pub no_not : negation ≡ []
  pub types : HasTypes name trees self_type rest
  pub positive : HasNo classes.Exclamation trees

-- the trees begin with this trait and this type, perhaps with a `!` before them
abbrev pub HasTarget : List TokenTree → List TokenTree → Option (Bor (List TokenTree)) → List TokenTree
    → List TokenTree → Type 0
HasTarget trees negation name self_type rest =
    IsPositive trees negation name self_type rest
    ⊎ (IsNegative trees negation name self_type rest ⊎ IsNever trees negation name self_type rest)

-- the trees begin with these parts and with `impl`
pub record HasFront (trees attributed visible qualified rest : List TokenTree) : Type 0 where
  pub from_visibility : List TokenTree
  pub from_qualifiers : List TokenTree
  pub from_impl : List TokenTree
  pub attributes : Reads (ByRule attributes) trees attributed from_visibility
  pub visibility : Reads (ByRule visibility) from_visibility visible from_qualifiers
  pub qualifiers : Reads (ByRule rule.impl_qualifiers) from_qualifiers qualified from_impl
  pub keyword : BeginsWith from_impl (classes.Keyword keywords.Impl) rest

-- the trees after `impl` begin with these generic parameters, perhaps `const`, this trait and this type
pub record HasHeader (trees parameters constness negation : List TokenTree) (name : Option (Bor (List TokenTree)))
    (self_type rest : List TokenTree) : Type 0 where
  pub from_const : List TokenTree
  pub from_target : List TokenTree
  pub generics : HasGenerics trees parameters from_const
  pub constant : Reads (ByRule may_const) from_const constness from_target
  pub target : HasTarget from_target negation name self_type rest

-- the trees begin with this where clause and this body in braces
pub record HasBraces (trees clause : List TokenTree) (body : Grouped) (rest : List TokenTree) : Type 0 where
  pub from_body : List TokenTree
  pub clause_read : Reads (ByRule where_clause) trees clause from_body
  pub whole : from_body ≡ Group body ∷ rest
  pub braces : body.delimiter ≡ delimiters.Brace

-- the trees begin with these parts of an `impl`, in this order
pub record HasImplParts (trees : List TokenTree) (item : Impl) (rest : List TokenTree) : Type 0 where
  pub from_header : List TokenTree
  pub from_clause : List TokenTree
  pub front : HasFront trees item.attributes.now item.visibility.now item.qualifiers.now from_header
  pub header : HasHeader from_header item.generics.now item.constness.now item.negation.now item.trait_path
      item.self_type.now from_clause
  pub end : HasBraces from_clause item.where_clause.now item.body.now rest

-- the trees are an `impl`, and these are its parts
pub record IsImpl (trees : List TokenTree) (item : Impl) : Type 0 where
  pub all : ReadsAll (ByRule rule.impl_item) trees
  pub parts : HasImplParts trees item []
