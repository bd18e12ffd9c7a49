-- The parts of a variant, in reading order.
use Rattle.std.specs.Prelude.{◌≡◌, List, [], ◌∷◌, ◌⊎◌}
use Rattle.grammars.specs.Grammar.{Mark}
use Rattle.pm_token.specs.Leaf.{Name}
use Rattle.pm_token.specs.declared.delimiters.Delimiter.TheVariants as delimiters
use Rattle.pm_stream.specs.declared.stream.TokenTree.{TokenTree}
use Rattle.pm_stream.specs.declared.stream.TokenTree.TheVariants.{Group, Ident}
use Rattle.declarations.specs.Field.{HasFront}
use Rattle.declarations.specs.Forms.{IsVariant, IsExpression}
use Rattle.declarations.specs.Function.{IsNameAt}
use Rattle.declarations.specs.Item.{IsNameClass}
use Rattle.declarations.specs.Reading.{Reads}
use Rattle.declarations.specs.Signs.{BeginsWith, name_class, tree_class}
use Rattle.declarations.specs.Whole.{ReadsAll}
use Rattle.item_tables.specs.declared.class.SignClass.TheVariants as classes
use Rattle.declarations.specs.declared.item.Fields.{Fields}
use Rattle.declarations.specs.declared.item.Fields.TheVariants as fields
use Rattle.declarations.specs.declared.variant.Variant.{Variant}
use Rattle.declarations.specs.rules.Expressions.{expression}
use Rattle.declarations.specs.rules.Names.{G, Named, seq, word}
use Rattle.declarations.specs.rules.Parts as rule
use Rattle.declarations.specs.rules.Pieces.{ByRule}

-- the group of the fields, if there is one, and then the rest
abbrev pub with_fields : Fields → List TokenTree → List TokenTree
with_fields (fields.Named g) rest = Group g.now ∷ rest
with_fields (fields.Tuple g) rest = Group g.now ∷ rest
with_fields fields.Unit rest = rest

-- the group of the fields has the delimiters that its kind of fields requires
abbrev pub AreDelimited : Fields → Type 0
AreDelimited (fields.Named g) = g.now.delimiter ≡ delimiters.Brace
AreDelimited (fields.Tuple g) = g.now.delimiter ≡ delimiters.Parenthesis
AreDelimited fields.Unit = Unit {0}

-- the trees are `=` and this discriminant, or there are none
abbrev pub IsValue : List TokenTree → List TokenTree → Type 0
IsValue [] discriminant = discriminant ≡ []
IsValue (mark ∷ more) discriminant =
    (discriminant ≡ more) × (tree_class mark ≡ classes.Equals) × ReadsAll IsExpression discriminant

-- the trees are a variant with these parts
pub record HasVariantParts (trees : List TokenTree) (variant : Variant) : Type 0 where
  pub value : List TokenTree
  pub front : HasFront trees variant.attributes.now variant.visibility.now
      (Ident variant.name.now ∷ with_fields variant.fields value)
  pub is_name : IsNameClass (name_class variant.name.now)
  pub delimited : AreDelimited variant.fields
  pub is_value : IsValue value variant.discriminant.now

-- the trees begin with a variant that has these parts, and the rest comes after it
pub record IsVariantAt (trees : List TokenTree) (variant : Variant) (rest : List TokenTree) : Type 0 where
  pub part : List TokenTree
  pub reads : Reads IsVariant trees part rest
  pub parts : HasVariantParts part variant

-- ---- what the functions find

-- a variant after its attributes and its visibility: a name, perhaps fields, perhaps a discriminant
abbrev pub variant_rest : G
variant_rest = seq (Mark Named ∷ word ∷ rule.variant_fields ∷ rule.discriminant ∷ [])

-- the trees begin with `=` and this discriminant
pub record HasEquals (trees discriminant rest : List TokenTree) : Type 0 where
  pub from_value : List TokenTree
  pub equals : BeginsWith trees classes.Equals from_value
  pub value_read : Reads (ByRule expression) from_value discriminant rest

-- the trees begin with `=` and this discriminant, or with no discriminant
abbrev pub HasDiscriminant : List TokenTree → List TokenTree → List TokenTree → Type 0
HasDiscriminant trees discriminant rest =
    HasEquals trees discriminant rest ⊎ ((discriminant ≡ []) × (trees ≡ rest))

-- the trees begin with this name, these fields and this discriminant
pub record HasVariantRest (trees : List TokenTree) (ident : Name) (found : Fields) (discriminant rest : List TokenTree)
    : Type 0 where
  pub from_fields : List TokenTree
  pub from_value : List TokenTree
  pub named : IsNameAt trees ident from_fields
  pub fields : from_fields ≡ with_fields found from_value
  pub delimited : AreDelimited found
  pub value : HasDiscriminant from_value discriminant rest
