-- The parts of a field, in reading order.
use Rattle.std.specs.Prelude.{◌≡◌, List, [], ◌∷◌, ◌++◌, Some, None}
use Rattle.pm_stream.specs.declared.stream.TokenTree.{TokenTree}
use Rattle.pm_stream.specs.declared.stream.TokenTree.TheVariants.{Ident}
use Rattle.pm_token.specs.Leaf.{Name}
use Rattle.grammars.specs.Grammar.{Mark}
use Rattle.declarations.specs.Forms.{AreAttributes, IsVisibility, IsType}
use Rattle.declarations.specs.Function.{IsNameAt}
use Rattle.declarations.specs.Item.{IsNameClass}
use Rattle.declarations.specs.Reader.{Finds}
use Rattle.declarations.specs.Reading.{Reads}
use Rattle.declarations.specs.Signs.{BeginsWith, name_class, tree_class}
use Rattle.declarations.specs.Whole.{ReadsAll}
use Rattle.item_tables.specs.declared.class.SignClass.{SignClass}
use Rattle.item_tables.specs.declared.class.SignClass.TheVariants as classes
use Rattle.declarations.specs.declared.field.Field.{Field}
use Rattle.declarations.specs.rules.Names.{G, Named, seq, word}
use Rattle.declarations.specs.rules.Parameters.{with_type}
use Rattle.declarations.specs.rules.Parts as rule
use Rattle.declarations.specs.rules.Pieces.{ByRule}
use Rattle.declarations.specs.rules.Types.{type}

-- the trees are attributes, a visibility and the rest. Attributes and visibility are what their rules read
pub record HasFront (trees attributes visibility rest : List TokenTree) : Type 0 where
  pub whole : trees ≡ attributes ++ (visibility ++ rest)
  pub attributes_read : Reads AreAttributes trees attributes (visibility ++ rest)
  pub visibility_read : Reads IsVisibility (visibility ++ rest) visibility rest

-- the field has this name
abbrev pub IsNamed : Name → Field → Type 0
IsNamed ident field = elim field.name [ None ↦ ⊥ | Some name ↦ name.now ≡ ident ]

-- the trees are a named field with these parts: attributes, a visibility, a name, `:` and a type
pub record HasFieldParts (trees : List TokenTree) (field : Field) : Type 0 where
  pub ident : Name
  pub colon : TokenTree
  pub front : HasFront trees field.attributes.now field.visibility.now (Ident ident ∷ colon ∷ field.field_type.now)
  pub name : IsNamed ident field
  pub is_name : IsNameClass (name_class ident)
  pub is_colon : tree_class colon ≡ classes.Colon
  pub type_read : ReadsAll IsType field.field_type.now

-- the trees are a field without a name, with these parts: attributes, a visibility and a type
pub record HasTypeParts (trees : List TokenTree) (field : Field) : Type 0 where
  pub front : HasFront trees field.attributes.now field.visibility.now field.field_type.now
  pub none : field.name ≡ None
  pub type_read : ReadsAll IsType field.field_type.now

-- the trees begin with a field of this form that has these parts, and the rest comes after it
pub record IsFieldAt (form : List SignClass → List SignClass → Type 0) (has_parts : List TokenTree → Field → Type 0)
    (trees : List TokenTree) (field : Field) (rest : List TokenTree) : Type 0 where
  pub part : List TokenTree
  pub reads : Reads form trees part rest
  pub parts : has_parts part field

-- ---- what the functions find

-- a field after its attributes and its visibility: a name, `:` and a type
abbrev pub field_rest : G
field_rest = seq (Mark Named ∷ word ∷ with_type ∷ [])

-- the trees begin with these attributes and this visibility
pub record ReadsFront (trees attributes visibility rest : List TokenTree) : Type 0 where
  pub from_visibility : List TokenTree
  pub attributes_found : Finds rule.attributes trees from_visibility
  pub visibility_found : Finds rule.visibility from_visibility rest
  pub attributes_whole : trees ≡ attributes ++ from_visibility
  pub visibility_whole : from_visibility ≡ visibility ++ rest

-- the trees begin with `:` and this type
pub record HasColonType (trees ty rest : List TokenTree) : Type 0 where
  pub from_type : List TokenTree
  pub colon : BeginsWith trees classes.Colon from_type
  pub type_read : Reads (ByRule type) from_type ty rest

-- the trees begin with this name, `:` and this type
pub record HasNameType (trees : List TokenTree) (ident : Name) (ty rest : List TokenTree) : Type 0 where
  pub from_colon : List TokenTree
  pub named : IsNameAt trees ident from_colon
  pub typed : HasColonType from_colon ty rest
