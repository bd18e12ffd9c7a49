-- The kind and the name of an item.
use Rattle.std.specs.Prelude.{◌≡◌, Bool, true, List, [], ◌∷◌, Option, None}
use Rattle.grammars.specs.Grammar.{Many, Mark, Nothing, Sign, Then, perhaps}
use Rattle.pm_token.specs.Leaf.{Name}
use Rattle.pm_stream.specs.declared.stream.TokenTree.{TokenTree}
use Rattle.declarations.specs.ItemRest.{further_segment, trait_alias_rest, trait_body}
use Rattle.declarations.specs.Reader.{Remains}
use Rattle.declarations.specs.Reading.{Reads, first_name}
use Rattle.declarations.specs.Signs.{classes_of}
use Rattle.declarations.specs.declared.any_item.ItemKind.{ItemKind}
use Rattle.declarations.specs.declared.any_item.ItemKind.TheVariants as kinds
use Rattle.declarations.specs.rules.Bodies.{alias_rest, body_end, braces, constant_rest, function_rest, name}
use Rattle.declarations.specs.rules.Bodies.{semicolon, struct_rest, type_and_value, where_and_body}
use Rattle.declarations.specs.rules.Fronts.{as_name, crate_name, is_segment, new_name}
use Rattle.declarations.specs.rules.Impls.{impl_front}
use Rattle.declarations.specs.rules.Items.{call_name, macro_rest}
use Rattle.declarations.specs.rules.Names.{G, Named, Rest, Use, key, one, seq}
use Rattle.declarations.specs.rules.Parts.{attributes, generics, visibility}
use Rattle.declarations.specs.rules.Pieces.{ByRule}
use Rattle.declarations.specs.rules.Rules.{rules}
use Rattle.item_tables.specs.Classes.{all_of, one_of}
use Rattle.item_tables.specs.declared.class.SignClass.{SignClass}
use Rattle.item_tables.specs.declared.class.SignClass.TheVariants as signs
use Rattle.item_tables.specs.declared.class.Keyword.TheVariants as keywords
use Rattle.item_tables.specs.declared.class.Word.TheVariants as words

-- whether the sign can come between the visibility of an item and its keyword
abbrev pub is_qualifier : SignClass → Bool
is_qualifier = one_of (
    signs.Word words.Auto ∷ signs.Word words.Default ∷ signs.Word words.Gen ∷ signs.Word words.Safe
    ∷ signs.Keyword keywords.Async ∷ signs.Keyword keywords.Const ∷ signs.Keyword keywords.Extern
    ∷ signs.Keyword keywords.Unsafe ∷ signs.Literal ∷ [])

-- the path of a macro call, and its `!`
abbrev pub call_path : G
call_path = seq (
    perhaps (one signs.PathSeparator) ∷ Sign is_segment ∷ Many further_segment ∷ one signs.Exclamation ∷ [])

-- the keyword of an item of this kind, and what else comes before its name. A macro call has its path here, and a group
-- without delimiters has nothing
abbrev pub keyword_rule : ItemKind → G
keyword_rule kinds.Constant = key keywords.Const
keyword_rule kinds.Enum = key keywords.Enum
keyword_rule kinds.ExternBlock = Then (key keywords.Extern) (perhaps (one signs.Literal))
keyword_rule kinds.ExternCrate = Then (key keywords.Extern) (one signs.Crate)
keyword_rule kinds.Function = key keywords.Fn
keyword_rule kinds.Group = Nothing
keyword_rule kinds.Impl = key keywords.Impl
keyword_rule kinds.Macro = key keywords.Macro
keyword_rule kinds.MacroCall = call_path
keyword_rule kinds.Module = key keywords.Mod
keyword_rule kinds.Static = Then (key keywords.Static) (perhaps (key keywords.Mut))
keyword_rule kinds.Struct = key keywords.Struct
keyword_rule kinds.Trait = key keywords.Trait
keyword_rule kinds.TraitAlias = key keywords.Trait
keyword_rule kinds.TypeAlias = key keywords.Type
keyword_rule kinds.Union = one (signs.Word words.Union)
keyword_rule kinds.Use = key keywords.Use

-- an item of this kind from its name on, or from after its keyword if it has no name
abbrev pub named_rule : ItemKind → G
named_rule kinds.Constant = seq (Mark Named ∷ new_name ∷ constant_rest ∷ [])
named_rule kinds.Enum = seq (name ∷ generics ∷ where_and_body ∷ [])
named_rule kinds.ExternBlock = braces
named_rule kinds.ExternCrate = seq (Mark Named ∷ crate_name ∷ Mark Rest ∷ as_name ∷ semicolon ∷ [])
named_rule kinds.Function = seq (name ∷ generics ∷ function_rest ∷ [])
named_rule kinds.Group = one signs.Invisible
named_rule kinds.Impl = impl_front
named_rule kinds.Macro = Then name macro_rest
named_rule kinds.MacroCall = call_name
named_rule kinds.Module = Then name body_end
named_rule kinds.Static = Then name type_and_value
named_rule kinds.Struct = seq (name ∷ generics ∷ struct_rest ∷ [])
named_rule kinds.Trait = seq (name ∷ generics ∷ trait_body ∷ [])
named_rule kinds.TraitAlias = seq (name ∷ generics ∷ trait_alias_rest ∷ [])
named_rule kinds.TypeAlias = seq (name ∷ generics ∷ alias_rest ∷ [])
named_rule kinds.Union = seq (name ∷ generics ∷ where_and_body ∷ [])
named_rule kinds.Use = rules Use

-- the name of an item of this kind, where these are the trees from its name on
abbrev pub name_at : ItemKind → List TokenTree → Option Name
name_at kinds.ExternBlock trees = None
name_at kinds.Group trees = None
name_at kinds.Impl trees = None
name_at kinds.Use trees = None
name_at _ trees = first_name trees

-- the trees before the rest are signs that can come before the keyword of an item
pub record AreQualifiers (trees rest : List TokenTree) : Type 0 where
  pub remains : Remains rest trees
  pub are : all_of is_qualifier (classes_of remains.front) ≡ true

-- the trees before the rest are a part by the rule
abbrev pub ReadsUpTo : G → List TokenTree → List TokenTree → Type 0
ReadsUpTo g trees rest = (part : List TokenTree) × Reads (ByRule g) trees part rest

-- the trees begin with an item of this kind and this name: attributes, a visibility, qualifiers, the keyword of the
-- kind, and from the name on what the kind has there
pub record HasKind (trees rest : List TokenTree) (kind : ItemKind) (name : Option Name) : Type 0 where
  pub from_visibility : List TokenTree
  pub from_qualifiers : List TokenTree
  pub from_keyword : List TokenTree
  pub from_name : List TokenTree
  pub attributes : ReadsUpTo attributes trees from_visibility
  pub visibility : ReadsUpTo visibility from_visibility from_qualifiers
  pub qualifiers : AreQualifiers from_qualifiers from_keyword
  pub keyword : ReadsUpTo (keyword_rule kind) from_keyword from_name
  pub item : ReadsUpTo (named_rule kind) from_name rest
  pub is_name : name ≡ name_at kind from_name

-- an item that begins the trees has one kind and one name
abbrev pub OneKind : Type 0
OneKind =
    (trees rest : List TokenTree) (kind kind2 : ItemKind) (name name2 : Option Name) → HasKind trees rest kind name
    → HasKind trees rest kind2 name2
    → (kind2 ≡ kind) × (name2 ≡ name)
