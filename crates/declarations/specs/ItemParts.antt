-- What the functions that read a struct, an enum or a union find, one part after the other.
use Rattle.std.specs.Prelude.{◌≡◌, List, [], ◌∷◌, ◌++◌, Option, Some, None}
use Rattle.grammars.specs.Grammar.{Mark, Sign, Then}
use Rattle.pm_token.specs.Leaf.{Name as Written}
use Rattle.pm_token.specs.declared.delimiters.Delimiter.TheVariants as delimiters
use Rattle.pm_stream.specs.declared.stream.TokenTree.{TokenTree}
use Rattle.pm_stream.specs.declared.stream.TokenTree.TheVariants.{Group, Ident}
use Rattle.declarations.specs.Function.{IsNameAt}
use Rattle.declarations.specs.Item.{HasBody, after_clause, with_tuple}
use Rattle.declarations.specs.Reading.{Reads}
use Rattle.declarations.specs.Signs.{BeginsWith, name_class}
use Rattle.item_tables.specs.Classes.{is_round}
use Rattle.item_tables.specs.declared.class.SignClass.{SignClass}
use Rattle.item_tables.specs.declared.class.SignClass.TheVariants as classes
use Rattle.item_tables.specs.declared.class.Keyword.TheVariants as keywords
use Rattle.item_tables.specs.declared.class.Word.TheVariants as words
use Rattle.declarations.specs.declared.item.Body.{Body}
use Rattle.declarations.specs.declared.item.Declared.{Declared}
use Rattle.declarations.specs.declared.item.Declared.TheVariants as declare
use Rattle.declarations.specs.declared.item.Fields.{Fields}
use Rattle.declarations.specs.declared.item.Fields.TheVariants as fields
use Rattle.declarations.specs.declared.item.Named.{Named}
use Rattle.declarations.specs.rules.Bodies.{body_end, name, semicolon, struct_rest, where_and_body}
use Rattle.declarations.specs.rules.Items.{type_keyword}
use Rattle.declarations.specs.rules.Names.{Fields as FieldsPart, Front, G, seq}
use Rattle.declarations.specs.rules.Parts.{generics, where_clause}
use Rattle.declarations.specs.rules.Pieces.{ByRule}

-- ---- grammars of parts

-- an item after its attributes and its visibility
abbrev pub item_rest : G
item_rest = Then (Mark Front) type_keyword

-- what this declares, after its generic parameters
abbrev pub end_of : Declared → G
end_of declare.Struct = struct_rest
end_of declare.Enum = where_and_body
end_of declare.Union = where_and_body

-- what this declares, from its name on
abbrev pub from_name : Declared → G
from_name declared = seq (name ∷ generics ∷ end_of declared ∷ [])

-- a where clause and `;`
abbrev pub clause_end : G
clause_end = Then where_clause semicolon

-- fields in parentheses, a where clause and `;`
abbrev pub tuple_end : G
tuple_end = seq (Mark FieldsPart ∷ Sign is_round ∷ clause_end ∷ [])

-- a where clause, and braces or `;`
abbrev pub plain_end : G
plain_end = Then where_clause body_end

-- ---- keywords

-- what a sign of this class declares
abbrev pub declared_by : SignClass → Option Declared
declared_by (classes.Keyword keywords.Struct) = Some declare.Struct
declared_by (classes.Keyword keywords.Enum) = Some declare.Enum
declared_by (classes.Word words.Union) = Some declare.Union
declared_by class = None

-- the class of the keyword
abbrev pub class_of : Declared → SignClass
class_of declare.Struct = classes.Keyword keywords.Struct
class_of declare.Enum = classes.Keyword keywords.Enum
class_of declare.Union = classes.Word words.Union

-- the trees begin with this keyword, which declares this
pub record IsKeywordAt (trees : List TokenTree) (keyword : Written) (declared : Declared) (rest : List TokenTree)
    : Type 0 where
  pub whole : trees ≡ Ident keyword ∷ rest
  pub class : name_class keyword ≡ class_of declared

-- ---- the body

-- the trees begin with this `;`
pub record IsSemicolonAt (trees semicolon rest : List TokenTree) : Type 0 where
  pub begins : BeginsWith trees classes.Semicolon rest
  pub whole : trees ≡ semicolon ++ rest

-- the trees begin with these fields in braces, or with this `;`
abbrev pub HasBodyAt : List TokenTree → Fields → List TokenTree → List TokenTree → Type 0
HasBodyAt trees (fields.Named g) mark rest =
    (trees ≡ Group g.now ∷ rest) × (g.now.delimiter ≡ delimiters.Brace) × (mark ≡ [])
HasBodyAt trees (fields.Tuple g) mark rest = ⊥
HasBodyAt trees fields.Unit mark rest = IsSemicolonAt trees mark rest

-- the trees begin with this where clause and this `;`
pub record HasClauseEnd (trees clause semicolon rest : List TokenTree) : Type 0 where
  pub from_semicolon : List TokenTree
  pub clause_read : Reads (ByRule where_clause) trees clause from_semicolon
  pub end : IsSemicolonAt from_semicolon semicolon rest

-- the trees after the generic parameters begin with this body, this where clause and this `;`
pub record HasEnd (keyword : SignClass) (trees : List TokenTree) (body : Body) (clause semicolon rest : List TokenTree)
    : Type 0 where
  pub from_clause : List TokenTree
  pub from_body : List TokenTree
  pub fields : trees ≡ with_tuple body from_clause
  pub clause_read : Reads (ByRule where_clause) from_clause clause from_body
  pub last : from_body ≡ after_clause body semicolon ++ rest
  pub shape : HasBody keyword body semicolon

-- the trees begin with this name and what follows it, where the keyword declares this
pub record HasNamed (declared : Declared) (trees : List TokenTree) (named : Named) (rest : List TokenTree) : Type 0
  where
    pub from_generics : List TokenTree
    pub from_end : List TokenTree
    pub name_read : IsNameAt trees named.name.now from_generics
    pub generics_read : Reads (ByRule generics) from_generics named.generics.now from_end
    pub end : HasEnd (class_of declared) from_end named.end.body named.end.where_clause.now named.end.semicolon.now rest

-- the trees begin with this keyword, this name and what follows it
pub record HasDeclared (trees : List TokenTree) (keyword : Written) (named : Named) (rest : List TokenTree) : Type 0
  where
    pub declared : Declared
    pub after_keyword : List TokenTree
    pub keyword_read : IsKeywordAt trees keyword declared after_keyword
    pub named_read : HasNamed declared after_keyword named rest
