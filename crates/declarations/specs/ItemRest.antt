-- Pieces of the rules of items, each of which a function reads.
use Rattle.std.specs.Prelude.{Bool, not, ◌||◌, [], ◌∷◌}
use Rattle.grammars.specs.Grammar.{Mark, Sign, Then, To}
use Rattle.declarations.specs.rules.Bodies.{braces, semicolon, until}
use Rattle.declarations.specs.rules.Fronts.{as_name, is_segment}
use Rattle.declarations.specs.rules.Names.{Attributes, Body, Bounds, Fields, Function, G, Rest, Value, one, seq}
use Rattle.declarations.specs.rules.Parts.{where_clause, with_bounds}
use Rattle.declarations.specs.rules.Types.{bounds, type}
use Rattle.item_tables.specs.Classes.{is, is_round, is_word, keyword, one_of}
use Rattle.item_tables.specs.declared.class.SignClass.{SignClass}
use Rattle.item_tables.specs.declared.class.SignClass.TheVariants as signs
use Rattle.item_tables.specs.declared.class.Keyword.TheVariants as keywords

-- whether the sign can be in the expression of a constant, which ends before `;`
abbrev pub is_value : SignClass → Bool
is_value c = not (is signs.Semicolon c)

-- a group in parentheses
abbrev pub round : G
round = Sign is_round

-- the fields of a tuple struct, a where clause and `;`
abbrev pub tuple_rest : G
tuple_rest = seq (Mark Fields ∷ Sign is_round ∷ where_clause ∷ semicolon ∷ [])

-- `=` and the expression of a constant
abbrev pub value : G
value = seq (Mark Rest ∷ one signs.Equals ∷ Mark Value ∷ until ∷ [])

-- `=`, the type of an alias and a where clause
abbrev pub alias_type : G
alias_type = seq (Mark Rest ∷ one signs.Equals ∷ Mark Value ∷ type ∷ where_clause ∷ [])

-- `=`, the bounds of a trait alias, a where clause and `;`
abbrev pub trait_alias_rest : G
trait_alias_rest = seq (Mark Rest ∷ one signs.Equals ∷ Mark Bounds ∷ bounds ∷ where_clause ∷ semicolon ∷ [])

-- the bounds of a trait, a where clause and a body
abbrev pub trait_body : G
trait_body = seq (with_bounds ∷ where_clause ∷ braces ∷ [])

-- whether the sign is a group of a macro call that `;` must follow
abbrev pub is_call_group : SignClass → Bool
is_call_group = one_of (signs.Parentheses ∷ signs.Restriction ∷ signs.Brackets ∷ [])

-- the group of a macro call in parentheses or brackets, and `;`
abbrev pub round_call : G
round_call = seq (Mark Body ∷ Sign is_call_group ∷ semicolon ∷ [])

-- a function from its `fn` on
abbrev pub fn_item : G
fn_item = To (keyword keywords.Fn) Function

-- `::` and a segment of a path
abbrev pub further_segment : G
further_segment = Then (one signs.PathSeparator) (Sign is_segment)

-- whether the sign is a name or `_`
abbrev pub is_new_name : SignClass → Bool
is_new_name c = is_word c || is signs.Underscore c

-- whether the sign is the name of an external crate, or `self`
abbrev pub is_crate_name : SignClass → Bool
is_crate_name c = is_word c || is signs.SelfValue c

-- whether the sign is the last of an import's path, in place of a segment
abbrev pub is_use_list : SignClass → Bool
is_use_list = one_of (signs.Star ∷ signs.Braces ∷ [])

-- the end of an import whose last sign before `;` is no segment
abbrev pub use_list : G
use_list = Then (Sign is_use_list) semicolon

-- the end of an import after the last segment of its path
abbrev pub use_end : G
use_end = Then as_name semicolon

-- an inner attribute
abbrev pub inner_attribute : G
inner_attribute = seq (Mark Attributes ∷ one signs.HashBang ∷ one signs.Brackets ∷ [])
