-- The parts of a struct, an enum or a union.
use Rattle.std.specs.Prelude.{◌≡◌, List, [], ◌∷◌, ◌++◌, Bool, true, false, not}
use Rattle.pm_token.specs.Leaf.{Name}
use Rattle.pm_token.specs.declared.delimiters.Delimiter.TheVariants as delimiters
use Rattle.pm_stream.specs.declared.stream.TokenTree.{TokenTree}
use Rattle.pm_stream.specs.declared.stream.TokenTree.TheVariants.{Group, Ident}
use Rattle.declarations.specs.Forms.{IsItem, AreAttributes, IsVisibility, AreGenerics, IsWhere}
use Rattle.declarations.specs.Reading.{Reads}
use Rattle.declarations.specs.Signs.{signs, classes_of, name_class}
use Rattle.declarations.specs.Whole.{ReadsAll}
use Rattle.item_tables.specs.declared.class.SignClass.{SignClass}
use Rattle.item_tables.specs.declared.class.SignClass.TheVariants as classes
use Rattle.item_tables.specs.declared.class.Keyword.TheVariants as keywords
use Rattle.item_tables.specs.declared.class.Word.TheVariants as words
use Rattle.declarations.specs.declared.item.Body.{Body}
use Rattle.declarations.specs.declared.item.Body.TheVariants as bodies
use Rattle.declarations.specs.declared.item.Fields.TheVariants as fields
use Rattle.declarations.specs.declared.item.TypeItem.{TypeItem}

-- ---- the trees from each part on

-- the trees after a where clause: fields or variants in braces, or a `;`
abbrev pub after_clause : Body → List TokenTree → List TokenTree
after_clause (bodies.Struct (fields.Named g)) semicolon = Group g.now ∷ semicolon
after_clause (bodies.Struct (fields.Tuple g)) semicolon = semicolon
after_clause (bodies.Struct fields.Unit) semicolon = semicolon
after_clause (bodies.Enum g) semicolon = Group g.now ∷ semicolon
after_clause (bodies.Union g) semicolon = Group g.now ∷ semicolon

-- the fields of a tuple struct, if there are some, and then the rest
abbrev pub with_tuple : Body → List TokenTree → List TokenTree
with_tuple (bodies.Struct (fields.Named g)) rest = rest
with_tuple (bodies.Struct (fields.Tuple g)) rest = Group g.now ∷ rest
with_tuple (bodies.Struct fields.Unit) rest = rest
with_tuple (bodies.Enum g) rest = rest
with_tuple (bodies.Union g) rest = rest

abbrev pub ending : Body → List TokenTree → List TokenTree → List TokenTree
ending body clause semicolon = with_tuple body (clause ++ after_clause body semicolon)

abbrev pub after_generics : TypeItem → List TokenTree
after_generics item = ending item.body item.where_clause.now item.semicolon.now

abbrev pub after_name : TypeItem → List TokenTree
after_name item = item.generics.now ++ after_generics item

abbrev pub after_visibility : TypeItem → List TokenTree
after_visibility item = Ident item.keyword.now ∷ Ident item.name.now ∷ after_name item

abbrev pub after_attributes : TypeItem → List TokenTree
after_attributes item = item.visibility.now ++ after_visibility item

-- all trees of the item's parts, in reading order
abbrev pub parts_of : TypeItem → List TokenTree
parts_of item = item.attributes.now ++ after_attributes item

-- ---- what each part is

-- a sign of this class can be a name
abbrev pub IsNameClass : SignClass → Type 0
IsNameClass (classes.Word word) = Unit {0}
IsNameClass class = ⊥

-- whether a sign of this class can be a name
abbrev pub is_name_class : SignClass → Bool
is_name_class (classes.Word word) = true
is_name_class class = false

-- whether an identifier is a keyword, and so cannot be a name
abbrev pub is_keyword : Name → Bool
is_keyword ident = not (is_name_class (name_class ident))

-- the item with this keyword has this body, and `;` exactly if it is a struct without braces
abbrev pub HasBody : SignClass → Body → List TokenTree → Type 0
HasBody (classes.Keyword keywords.Struct) (bodies.Struct (fields.Named g)) semicolon =
    (g.now.delimiter ≡ delimiters.Brace) × (semicolon ≡ [])
HasBody (classes.Keyword keywords.Struct) (bodies.Struct (fields.Tuple g)) semicolon =
    (g.now.delimiter ≡ delimiters.Parenthesis) × (classes_of (signs semicolon) ≡ classes.Semicolon ∷ [])
HasBody (classes.Keyword keywords.Struct) (bodies.Struct fields.Unit) semicolon =
    classes_of (signs semicolon) ≡ classes.Semicolon ∷ []
HasBody (classes.Keyword keywords.Enum) (bodies.Enum g) semicolon =
    (g.now.delimiter ≡ delimiters.Brace) × (semicolon ≡ [])
HasBody (classes.Word words.Union) (bodies.Union g) semicolon =
    (g.now.delimiter ≡ delimiters.Brace) × (semicolon ≡ [])
HasBody class body semicolon = ⊥

-- the trees after the generic parameters are this where clause and this body
pub record HasEnding (keyword : SignClass) (trees : List TokenTree) (body : Body) (clause semicolon : List TokenTree)
    : Type 0 where
  pub whole : trees ≡ ending body clause semicolon
  pub clause_reads : Reads IsWhere (clause ++ after_clause body semicolon) clause (after_clause body semicolon)
  pub shape : HasBody keyword body semicolon

-- the trees are an item with these parts. In order the parts are the trees, and each part is what its rule reads from
-- there on
pub record IsTypeItem (trees : List TokenTree) (item : TypeItem) : Type 0 where
  pub all : ReadsAll IsItem trees
  pub whole : trees ≡ parts_of item
  pub attributes : Reads AreAttributes trees item.attributes.now (after_attributes item)
  pub visibility : Reads IsVisibility (after_attributes item) item.visibility.now (after_visibility item)
  pub name : IsNameClass (name_class item.name.now)
  pub generics : Reads AreGenerics (after_name item) item.generics.now (after_generics item)
  pub end : HasEnding (name_class item.keyword.now) (after_generics item) item.body item.where_clause.now
      item.semicolon.now
