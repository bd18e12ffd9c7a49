-- The paths of types, and their generic arguments.
use Rattle.std.specs.Prelude.{Bool, ◌||◌, [], ◌∷◌}
use Rattle.grammars.specs.Grammar.{Mark, Sign, To, Then, Either, perhaps}
use Rattle.item_tables.specs.Classes.{is, is_round, is_word, one_of, opens}
use Rattle.declarations.specs.rules.Names.{Bounds, Named, OfType, Outside, Path, PathState, Range, Rest, Value}
use Rattle.declarations.specs.rules.Names.{AfterArguments, AfterName, AfterSeparator, G, seq, alt, one, comma_list}
use Rattle.declarations.specs.rules.Functions.{with_arrow}
use Rattle.declarations.specs.rules.Types.{bounds, other_operand, type}
use Rattle.item_tables.specs.declared.class.SignClass.{SignClass}
use Rattle.item_tables.specs.declared.class.SignClass.TheVariants as signs
use Rattle.item_tables.specs.declared.types.TypeState.TheVariants as types

-- ---- generic arguments

-- whether the sign is a constant by itself
abbrev pub is_constant : SignClass → Bool
is_constant = one_of (signs.Literal ∷ signs.Braces ∷ signs.Block ∷ signs.Truth ∷ [])

-- a constant: a literal, `-` and a literal, braces, `true` or `false`
abbrev pub constant : G
constant = Either (Then (one signs.Minus) (one signs.Literal)) (Sign is_constant)

-- what a name is bound to: a constant or a type
abbrev pub binding_value : G
binding_value = Either constant type

-- `=`, and a constant or a type
abbrev pub assignment : G
assignment = seq (Mark Rest ∷ one signs.Equals ∷ Mark Value ∷ binding_value ∷ [])

-- `:` and bounds
abbrev pub colon_bounds : G
colon_bounds = seq (Mark Rest ∷ one signs.Colon ∷ Mark Bounds ∷ bounds ∷ [])

-- what may follow a type that begins with a word: `=` and a constant or a type, `:` and bounds, or nothing
abbrev pub constraint : G
constraint = perhaps (Either assignment colon_bounds)

-- a type that begins with a word
abbrev pub word_type : G
word_type = To is_word (Range types.Whole Outside)

-- a type that begins with a word, and what may follow it
abbrev pub word_argument : G
word_argument = Then word_type constraint

-- a type, perhaps with `=` or `:` after it. It does not begin with a lifetime
abbrev pub type_argument : G
type_argument = Then (Mark OfType) (Either word_argument (other_operand Outside))

-- a generic argument: a lifetime, a constant, a type, or a name with `=` and a constant or a type, or `:` and bounds
abbrev pub generic_argument : G
generic_argument = alt (
    Then (Mark Named) (one signs.Lifetime)
    ∷ Then (Mark Value) constant
    ∷ type_argument
    ∷ [])

-- generic arguments, with `,` between two and perhaps after the last
abbrev pub generic_arguments : G
generic_arguments = comma_list generic_argument

-- ---- paths

-- whether the sign can be the name of a segment
abbrev pub is_segment : SignClass → Bool
is_segment c = is_word c || one_of (signs.SelfValue ∷ signs.SelfType ∷ signs.Super ∷ signs.Crate ∷ []) c

-- a segment and the rest of the path
abbrev pub segment : G
segment = To is_segment (Path AfterName)

-- `::`, a segment and the rest of the path
abbrev pub further_segment : G
further_segment = Then (one signs.PathSeparator) segment

-- generic arguments after their `<`, the `>` and the rest of the path
abbrev pub angle_rest : G
angle_rest = Then generic_arguments (To (is signs.Greater) (Path AfterArguments))

-- generic arguments in angle brackets, and the rest of the path
abbrev pub angle_arguments : G
angle_arguments = Then (Sign opens) angle_rest

-- the rest of a path after parentheses: `->` and a type, `::` and more segments, or nothing
abbrev pub round_rest : G
round_rest = perhaps (Either with_arrow further_segment)

-- parentheses and the rest of the path
abbrev pub round_arguments : G
round_arguments = Then (Sign is_round) round_rest

-- the rest of a path
abbrev pub path : PathState → G
path AfterName = perhaps (alt (
    angle_arguments ∷ round_arguments ∷ To (is signs.PathSeparator) (Path AfterSeparator) ∷ []))
path AfterSeparator = alt (angle_arguments ∷ round_arguments ∷ segment ∷ [])
path AfterArguments = perhaps further_segment

-- a path of a type
abbrev pub type_path : G
type_path = Then (perhaps (one signs.PathSeparator)) segment
