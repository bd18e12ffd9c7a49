-- The parameters of functions.
use Rattle.std.specs.Prelude.{Bool, false, not, ◌&&◌, ◌||◌, [], ◌∷◌}
use Rattle.grammars.specs.Grammar.{Mark, Sign, Then, Either, Many, perhaps}
use Rattle.item_tables.specs.Classes.{is, is_word, keyword, one_of}
use Rattle.declarations.specs.rules.Names.{G, seq, alt, one, key, comma_list}
use Rattle.declarations.specs.rules.Names.{Named, OfType, Outside, Parameter, Range, Rest}
use Rattle.declarations.specs.rules.Types.{angle, type}
use Rattle.declarations.specs.rules.Parts.{attributes}
use Rattle.item_tables.specs.declared.class.SignClass.{SignClass}
use Rattle.item_tables.specs.declared.class.SignClass.TheVariants as signs
use Rattle.item_tables.specs.declared.class.Keyword.TheVariants as keywords
use Rattle.item_tables.specs.declared.types.TypeState.TheVariants as types

-- ---- patterns

-- whether a pattern can begin with the sign, apart from angle brackets
abbrev pub is_pattern : SignClass → Bool
is_pattern c =
    is_word c || (keyword keywords.Mut c || (keyword keywords.Other c || one_of (signs.SelfType ∷ signs.Super
    ∷ signs.Crate ∷ signs.Underscore ∷ signs.Truth ∷ signs.Literal ∷ signs.PathSeparator ∷ signs.Restriction
    ∷ signs.Parentheses ∷ signs.Brackets ∷ signs.Invisible ∷ signs.And ∷ signs.Minus ∷ []) c))

-- whether the sign can be in a pattern after its first sign
abbrev pub continues : SignClass → Bool
continues c =
    is_pattern c || one_of (signs.SelfValue ∷ signs.Braces ∷ signs.Exclamation ∷ signs.Dot ∷ signs.Equals ∷ signs.Infix
    ∷ []) c

-- one more sign of a pattern
abbrev pub pattern_sign : G
pattern_sign = Sign continues

-- more signs of a pattern
abbrev pub pattern_signs : G
pattern_signs = Many pattern_sign

-- the end of a path from its angle brackets on, and perhaps fields in braces
abbrev pub pattern_angle : G
pattern_angle = Then (angle (Range types.Whole Outside)) (perhaps (one signs.Braces))

-- the rest of a pattern
abbrev pub pattern_rest : G
pattern_rest = Then pattern_signs (perhaps pattern_angle)

-- `..`
abbrev pub two_dots : G
two_dots = Then (one signs.Dot) (one signs.Dot)

-- a pattern that begins with `..`
abbrev pub dotted_pattern : G
dotted_pattern = Then two_dots pattern_rest

-- a pattern whose first sign is no `.` and does not pass the test
abbrev pub plain_but : (SignClass → Bool) → G
plain_but without = Either (Then (Sign (λ c. is_pattern c && not (without c))) pattern_rest) pattern_angle

-- a pattern that does not begin with `..`
abbrev pub plain_pattern : G
plain_pattern = plain_but (λ c. false)

-- a pattern whose first sign does not pass the test
abbrev pub pattern_but : (SignClass → Bool) → G
pattern_but without = Either dotted_pattern (plain_but without)

-- a pattern
abbrev pub pattern : G
pattern = Either dotted_pattern plain_pattern

-- ---- what follows a pattern or a receiver

-- `...`
abbrev pub dots : G
dots = Then two_dots (one signs.Dot)

-- `:` and a type
abbrev pub with_type : G
with_type = seq (Mark Rest ∷ one signs.Colon ∷ Mark OfType ∷ type ∷ [])

-- a type or `...`
abbrev pub typed_end : G
typed_end = Either dots type

-- `:` and a type or `...`
abbrev pub pattern_parameter : G
pattern_parameter = seq (Mark Rest ∷ one signs.Colon ∷ Mark OfType ∷ typed_end ∷ [])

-- a pattern and its type
abbrev pub typed_pattern : G
typed_pattern = Then pattern pattern_parameter

-- what follows `self` or `mut self`: `:` and a type, or nothing
abbrev pub self_type : G
self_type = perhaps with_type

-- ---- receivers

-- `self` or `mut self`
abbrev pub may_mutate : G
may_mutate = Either (Then (key keywords.Mut) (one signs.SelfValue)) (one signs.SelfValue)

-- a receiver after its `&`
abbrev pub receiver_rest : G
receiver_rest = Either (Then (one signs.Lifetime) may_mutate) may_mutate

-- a receiver: `self`, perhaps with `mut`, `&` and a lifetime before it
abbrev pub receiver : G
receiver = Either (Then (one signs.And) receiver_rest) may_mutate

-- ---- parameters

-- the rest of a parameter after `mut`
abbrev pub after_mut : G
after_mut = Either (Then (one signs.SelfValue) self_type) typed_pattern

-- the rest of a parameter after `& mut`
abbrev pub after_and_mut : G
after_and_mut = Either (one signs.SelfValue) typed_pattern

-- the rest of a parameter after `&`
abbrev pub after_and : G
after_and = alt (
    Then (one signs.Lifetime) may_mutate
    ∷ Then (key keywords.Mut) after_and_mut
    ∷ one signs.SelfValue
    ∷ Then (pattern_but (keyword keywords.Mut)) pattern_parameter
    ∷ [])

-- whether both a receiver and a pattern can begin with the sign
abbrev pub is_shared : SignClass → Bool
is_shared c = keyword keywords.Mut c || is signs.And c

-- a parameter after its attributes that does not begin with `..`: a receiver, or a pattern and its type
abbrev pub named_parameter : G
named_parameter = alt (
    Then (one signs.SelfValue) self_type
    ∷ Then (key keywords.Mut) after_mut
    ∷ Then (one signs.And) after_and
    ∷ Then (plain_but is_shared) pattern_parameter
    ∷ [])

-- the rest of a pattern after `..`, which a third `.` does not continue
abbrev pub rest_after_dots : G
rest_after_dots = Either (Then (Sign (λ c. continues c && not (is signs.Dot c))) pattern_rest) (perhaps pattern_angle)

-- the rest of a parameter after `..`: the third `.` of `...`, or the rest of a pattern and its type
abbrev pub after_dots : G
after_dots = Either (one signs.Dot) (Then rest_after_dots pattern_parameter)

-- a parameter after its attributes, if it begins with `..`
abbrev pub dotted_parameter : G
dotted_parameter = Then two_dots after_dots

-- a parameter after its attributes
abbrev pub parameter_rest : G
parameter_rest = Then (Mark Named) (Either dotted_parameter named_parameter)

-- a parameter of a function: attributes, and then a receiver, a pattern and its type, or `...`
abbrev pub function_parameter : G
function_parameter = Then (Mark Parameter) (Then attributes parameter_rest)

-- parameters of a function, with `,` between two and perhaps after the last
abbrev pub function_parameters : G
function_parameters = comma_list function_parameter
