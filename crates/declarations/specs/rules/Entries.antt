-- The entries of attributes' lists.
use Rattle.std.specs.Prelude.{Bool, ◌||◌, [], ◌∷◌}
use Rattle.grammars.specs.Grammar.{Mark, Sign, To, Then, Either, Many, perhaps}
use Rattle.item_tables.specs.Classes.{is, is_keyword, is_word, one_of}
use Rattle.declarations.specs.rules.Names.{G, seq, alt, one, comma_list, Named, Value, Body, Rest}
use Rattle.declarations.specs.rules.Names.{Expression, ExpressionOpen, ExpressionWhole, Closure}
use Rattle.declarations.specs.rules.Types.{angle}
use Rattle.declarations.specs.rules.Expressions.{from_range, one_operand}
use Rattle.item_tables.specs.declared.class.SignClass.{SignClass}
use Rattle.item_tables.specs.declared.class.SignClass.TheVariants as signs

-- whether the sign can be a segment of an entry's path: any identifier except `_`, `true` and `false`
abbrev pub is_entry_segment : SignClass → Bool
is_entry_segment c =
    is_word c || (is_keyword c || one_of (signs.SelfValue ∷ signs.SelfType ∷ signs.Super ∷ signs.Crate ∷ signs.As
    ∷ signs.Await ∷ signs.Jump ∷ []) c)

-- `::` and a segment
abbrev pub next_segment : G
next_segment = Then (one signs.PathSeparator) (Sign is_entry_segment)

-- more segments, each after `::`
abbrev pub more_segments : G
more_segments = Many next_segment

-- a segment and more of them
abbrev pub segments : G
segments = Then (Sign is_entry_segment) more_segments

-- the path of an entry
abbrev pub entry_path : G
entry_path = Then (perhaps (one signs.PathSeparator)) segments

-- whether the sign can follow an operand in an expression, but cannot begin the value of an entry
abbrev pub continues : SignClass → Bool
continues = one_of (signs.Equals ∷ signs.Greater ∷ signs.Arrow ∷ [])

-- the value of an entry: an expression that begins with neither `=` nor `>` nor `->`
abbrev pub entry_value : G
entry_value = alt (
    To one_operand ExpressionWhole
    ∷ angle ExpressionWhole
    ∷ To (one_of (signs.Lifetime ∷ signs.Jump ∷ [])) ExpressionOpen
    ∷ To (λ c. is_keyword c || one_of (signs.Minus ∷ signs.Star ∷ signs.And ∷ signs.Exclamation
    ∷ signs.PathSeparator ∷ signs.Bars ∷ []) c) Expression
    ∷ Then (one signs.Hash) (To (is signs.Brackets) Expression)
    ∷ To (is signs.Bar) Closure
    ∷ from_range
    ∷ [])

-- `=` and a value
abbrev pub with_value : G
with_value = seq (Mark Rest ∷ one signs.Equals ∷ Mark Value ∷ entry_value ∷ [])

-- whether the sign is a group with delimiters
abbrev pub is_list : SignClass → Bool
is_list = one_of (signs.Restriction ∷ signs.Parentheses ∷ signs.Brackets ∷ signs.Braces ∷ [])

-- the list of an entry, which is a group with delimiters
abbrev pub entry_list : G
entry_list = Then (Mark Body) (Sign is_list)

-- what follows the path of an entry: a list, a value or nothing
abbrev pub entry_rest : G
entry_rest = perhaps (Either entry_list with_value)

-- an entry with a path
abbrev pub named_entry : G
named_entry = seq (Mark Named ∷ entry_path ∷ entry_rest ∷ [])

-- whether the sign is a literal, `true` or `false`
abbrev pub is_literal : SignClass → Bool
is_literal = one_of (signs.Literal ∷ signs.Truth ∷ [])

-- a literal, `-` and a literal, `true` or `false`
abbrev pub entry_literal : G
entry_literal = Either (Then (one signs.Minus) (one signs.Literal)) (Sign is_literal)

-- an entry that is a literal, without a path
abbrev pub literal_entry : G
literal_entry = Then (Mark Value) entry_literal

-- an entry: a literal, or a path with what follows it
abbrev pub entry : G
entry = Either literal_entry named_entry

-- entries, with `,` between two and perhaps after the last
abbrev pub entries : G
entries = comma_list entry
