-- Items from their names on: generic parameters, headers, and what an item ends with.
use Rattle.std.specs.Prelude.{not, [], ◌∷◌}
use Rattle.grammars.specs.Grammar.{Mark, Sign, Then, Either, Many, perhaps}
use Rattle.item_tables.specs.Classes.{is, is_block, is_round}
use Rattle.declarations.specs.rules.Names.{G, seq, one, word, Named, Bounds, OfType, Value, Fields, Returns, Body}
use Rattle.declarations.specs.rules.Names.{Rest}
use Rattle.declarations.specs.rules.Types.{type, bounds}
use Rattle.declarations.specs.rules.Parts.{with_bounds, generics, where_clause}
use Rattle.item_tables.specs.declared.class.SignClass.TheVariants as signs

-- ---- what an item ends with

-- the body of an item, in braces
abbrev pub braces : G
braces = Then (Mark Body) (one signs.Braces)

-- the `;` at the end of an item
abbrev pub semicolon : G
semicolon = Then (Mark Rest) (one signs.Semicolon)

-- a body in braces, or `;`
abbrev pub body_end : G
body_end = Either braces semicolon

-- the block of a function, which may be in a group without delimiters
abbrev pub block : G
block = Then (Mark Body) (Sign is_block)

-- a block, or `;`
abbrev pub function_end : G
function_end = Either block semicolon

-- the name of an item
abbrev pub name : G
name = Then (Mark Named) word

-- any sign except `;`
abbrev pub not_semicolon : G
not_semicolon = Sign (λ c. not (is signs.Semicolon c))

-- the expression of a constant, up to its `;`
abbrev pub until : G
until = Then not_semicolon (Many not_semicolon)

-- `=` and the expression of a constant, or nothing
abbrev pub constant_value : G
constant_value = perhaps (seq (Mark Rest ∷ one signs.Equals ∷ Mark Value ∷ until ∷ []))

-- ---- what follows the name and the generic parameters of an item

-- the rest of a struct: fields, a where clause, and a body or `;`
abbrev pub struct_rest : G
struct_rest = Either
    (seq (Mark Fields ∷ Sign is_round ∷ where_clause ∷ semicolon ∷ []))
    (Then where_clause body_end)

-- the rest of an enum, a union or an `impl`: a where clause and a body
abbrev pub where_and_body : G
where_and_body = Then where_clause braces

-- the rest of a function after its parameters: a return type, a where clause, and a block or `;`
abbrev pub returning : G
returning = seq (
    perhaps (seq (Mark Rest ∷ one signs.Arrow ∷ Mark Returns ∷ type ∷ [])) ∷ where_clause ∷ function_end ∷ [])

-- the rest of a function: its parameters, and what follows them
abbrev pub function_rest : G
function_rest = seq (Mark Fields ∷ Sign is_round ∷ returning ∷ [])

-- the rest of a constant or a static: its type and its value
abbrev pub type_and_value : G
type_and_value = seq (Mark Rest ∷ one signs.Colon ∷ Mark OfType ∷ type ∷ constant_value ∷ semicolon ∷ [])

-- `=`, the type of an alias and a where clause, or nothing
abbrev pub alias_value : G
alias_value = perhaps (seq (Mark Rest ∷ one signs.Equals ∷ Mark Value ∷ type ∷ where_clause ∷ []))

-- the rest of an alias: bounds, a where clause and its type
abbrev pub alias_rest : G
alias_rest = seq (with_bounds ∷ where_clause ∷ alias_value ∷ semicolon ∷ [])

-- the rest of a trait or a trait alias
abbrev pub trait_rest : G
trait_rest = Either
    (seq (Mark Rest ∷ one signs.Equals ∷ Mark Bounds ∷ bounds ∷ where_clause ∷ semicolon ∷ []))
    (seq (with_bounds ∷ where_clause ∷ braces ∷ []))

-- the rest of a constant after its name
abbrev pub constant_rest : G
constant_rest = Then generics type_and_value
