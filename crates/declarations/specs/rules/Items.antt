-- Items, macro calls and imports.
use Rattle.std.specs.Prelude.{Bool, ◌||◌, [], ◌∷◌}
use Rattle.grammars.specs.Grammar.{Mark, Sign, To, Then, Either, Many, perhaps}
use Rattle.item_tables.specs.Classes.{is, one_of, keyword, is_round}
use Rattle.declarations.specs.rules.Names.{G, seq, alt, one, key, Async, Constant, Static, Alias, Struct, Enum, Union}
use Rattle.declarations.specs.rules.Names.{Trait, Impl, Module, Use, UsePath, Call, Visible, Front, Body}
use Rattle.declarations.specs.rules.Parts.{attributes, inner_attributes, visible, visibility, generics}
use Rattle.declarations.specs.rules.Bodies.{braces, semicolon, name, where_and_body}
use Rattle.declarations.specs.rules.Fronts.{fn, is_segment, as_name, extern_front, auto_front, safe_front}
use Rattle.declarations.specs.rules.Fronts.{default_front, gen_front, unsafe_front}
use Rattle.item_tables.specs.declared.class.SignClass.{SignClass}
use Rattle.item_tables.specs.declared.class.SignClass.TheVariants as signs
use Rattle.item_tables.specs.declared.class.Keyword.TheVariants as keywords
use Rattle.item_tables.specs.declared.class.Word.TheVariants as words

-- ---- macros and imports

-- the group of a macro call, and the `;` that must follow parentheses and brackets
abbrev pub call_end : G
call_end = Either braces
    (seq (Mark Body ∷ Sign (one_of (signs.Parentheses ∷ signs.Restriction ∷ signs.Brackets ∷ [])) ∷ semicolon ∷ []))

-- the rest of a macro call after its `!`
abbrev pub call_name : G
call_name = Either (Then name call_end) call_end

-- the rest of a macro call after a segment of its path
abbrev pub call : G
call = Either (Then (one signs.Exclamation) call_name) (Then (one signs.PathSeparator) (To is_segment Call))

-- the rest of a `macro` after its name
abbrev pub macro_rest : G
macro_rest = Then (perhaps (Sign is_round)) braces

-- the rest of an import after a segment of its path
abbrev pub use_segment : G
use_segment = Either (To (is signs.PathSeparator) UsePath) (Then as_name semicolon)

-- the rest of an import from a segment of its path, `*` or braces on
abbrev pub use_path : G
use_path = Either
    (Then (Sign is_segment) use_segment)
    (Then (Sign (one_of (signs.Star ∷ signs.Braces ∷ []))) semicolon)

-- ---- items

-- items that begin with a keyword
abbrev pub keyword_item : G
keyword_item = alt (
    To (keyword keywords.Async) Async
    ∷ To (keyword keywords.Const) Constant
    ∷ To (keyword keywords.Enum) Enum
    ∷ Then (key keywords.Extern) extern_front
    ∷ fn
    ∷ To (keyword keywords.Impl) Impl
    ∷ seq (key keywords.Macro ∷ name ∷ macro_rest ∷ [])
    ∷ To (keyword keywords.Mod) Module
    ∷ To (keyword keywords.Static) Static
    ∷ To (keyword keywords.Struct) Struct
    ∷ To (keyword keywords.Trait) Trait
    ∷ To (keyword keywords.Type) Alias
    ∷ Then (key keywords.Unsafe) unsafe_front
    ∷ To (keyword keywords.Use) Use
    ∷ [])

-- items after a visibility
abbrev pub declaration : G
declaration = alt (
    Then (one (signs.Word words.Auto)) auto_front
    ∷ Then (one (signs.Word words.Default)) default_front
    ∷ Then (one (signs.Word words.Gen)) gen_front
    ∷ Then (one (signs.Word words.Safe)) safe_front
    ∷ To (is (signs.Word words.Union)) Union
    ∷ keyword_item
    ∷ [])

-- whether the sign begins a macro call and no other item
abbrev pub begins_call : SignClass → Bool
begins_call c = is (signs.Word words.Plain) c || one_of (signs.SelfValue ∷ signs.Super ∷ signs.Crate ∷ []) c

-- items without a visibility. They may be macro calls, or groups without delimiters
abbrev pub private_item : G
private_item = alt (
    Then (one (signs.Word words.Auto)) (Either call auto_front)
    ∷ Then (one (signs.Word words.Default)) (Either call default_front)
    ∷ Then (one (signs.Word words.Gen)) (Either call gen_front)
    ∷ Then (one (signs.Word words.Safe)) (Either call safe_front)
    ∷ Then (one (signs.Word words.Union)) (Either call (seq (name ∷ generics ∷ where_and_body ∷ [])))
    ∷ Then (Sign begins_call) call
    ∷ Then (one signs.PathSeparator) (To is_segment Call)
    ∷ one signs.Invisible
    ∷ keyword_item
    ∷ [])

-- an item of any kind after its attributes
abbrev pub any_rest : G
any_rest = Either (seq (Mark Visible ∷ visible ∷ Mark Front ∷ declaration ∷ [])) (Then (Mark Front) private_item)

-- an item of any kind, or a group without delimiters
abbrev pub any_item : G
any_item = Then attributes any_rest

-- the keyword of a struct, an enum or a union, and the rest of the item
abbrev pub type_keyword : G
type_keyword = alt (
    To (keyword keywords.Struct) Struct
    ∷ To (keyword keywords.Enum) Enum
    ∷ To (is (signs.Word words.Union)) Union
    ∷ [])

-- a struct, an enum or a union, with its attributes and its visibility
abbrev pub type_item : G
type_item = seq (attributes ∷ visibility ∷ Mark Front ∷ type_keyword ∷ [])

-- a file: inner attributes, and then items
abbrev pub file : G
file = Then inner_attributes (Many any_item)
