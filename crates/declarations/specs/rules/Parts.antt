-- Attributes, visibilities, fields, variants, generic parameters and where clauses.
use Rattle.std.specs.Prelude.{true, [], ◌∷◌}
use Rattle.grammars.specs.Grammar.{Mark, Sign, Then, Either, Many, perhaps}
use Rattle.item_tables.specs.Classes.{is, is_block, is_round}
use Rattle.declarations.specs.rules.Names.{Outside, Attributes, Visible, Named, Generics, Parameter, Bounds, Default}
use Rattle.declarations.specs.rules.Names.{OfType, Value, Where, Bounded, Fields, Rest, G, seq, alt, one, key, word}
use Rattle.declarations.specs.rules.Names.{comma_list}
use Rattle.declarations.specs.rules.Types.{bounds, named_operand, operand_but, type}
use Rattle.declarations.specs.rules.Expressions.{expression}
use Rattle.item_tables.specs.declared.class.SignClass.TheVariants as signs
use Rattle.item_tables.specs.declared.class.Keyword.TheVariants as keywords

-- ---- attributes and visibilities

-- an attribute
abbrev pub attribute : G
attribute = seq (Mark Attributes ∷ one signs.Hash ∷ one signs.Brackets ∷ [])

-- any number of attributes
abbrev pub attributes : G
attributes = Many attribute

-- any number of inner attributes
abbrev pub inner_attributes : G
inner_attributes = Many (seq (Mark Attributes ∷ one signs.HashBang ∷ one signs.Brackets ∷ []))

-- a restriction, or nothing
abbrev pub restriction : G
restriction = perhaps (one signs.Restriction)

-- `pub`, perhaps with a restriction, or a group without delimiters that holds a visibility
abbrev pub visible : G
visible = Either (Then (key keywords.Pub) restriction) (one signs.Visibility)

-- a visibility, or nothing
abbrev pub visibility : G
visibility = perhaps (Then (Mark Visible) visible)

-- ---- fields

-- a field: attributes, a visibility, a name, `:` and a type
abbrev pub field : G
field = seq (attributes ∷ visibility ∷ Mark Named ∷ word ∷ Mark Rest ∷ one signs.Colon ∷ Mark OfType ∷ type ∷ [])

-- fields, with `,` between two and perhaps after the last
abbrev pub fields : G
fields = comma_list field

-- the type of a field that has no name, after `pub`. Parentheses that can be a restriction are one
abbrev pub public_type : G
public_type = Either
    (seq (one signs.Restriction ∷ Mark OfType ∷ type ∷ []))
    (Then (Mark OfType) (Either (named_operand Outside) (operand_but (is signs.Restriction) true Outside)))

-- a field without a name, after its attributes
abbrev pub tuple_field_rest : G
tuple_field_rest = alt (
    seq (Mark Visible ∷ key keywords.Pub ∷ public_type ∷ [])
    ∷ seq (Mark Visible ∷ one signs.Visibility ∷ Mark OfType ∷ type ∷ [])
    ∷ Then (Mark OfType) type
    ∷ [])

-- a field without a name: attributes, a visibility and a type
abbrev pub tuple_field : G
tuple_field = Then attributes tuple_field_rest

-- fields without names
abbrev pub tuple_fields : G
tuple_fields = comma_list tuple_field

-- ---- variants

-- the discriminant of a variant, or nothing
abbrev pub discriminant : G
discriminant = perhaps (seq (Mark Rest ∷ one signs.Equals ∷ Mark Value ∷ expression ∷ []))

-- the fields of a variant, or nothing
abbrev pub variant_fields : G
variant_fields = perhaps (Then (Mark Fields) (Either (Sign is_round) (one signs.Braces)))

-- a variant: attributes, a visibility, a name, perhaps fields, perhaps a discriminant
abbrev pub variant : G
variant = seq (attributes ∷ visibility ∷ Mark Named ∷ word ∷ variant_fields ∷ discriminant ∷ [])

-- variants, with `,` between two and perhaps after the last
abbrev pub variants : G
variants = comma_list variant

-- ---- generic parameters

-- `:` and bounds, or nothing
abbrev pub with_bounds : G
with_bounds = perhaps (seq (Mark Rest ∷ one signs.Colon ∷ Mark Bounds ∷ bounds ∷ []))

-- `=` and a type
abbrev pub default_type : G
default_type = seq (Mark Rest ∷ one signs.Equals ∷ Mark Default ∷ type ∷ [])

-- the default of a constant parameter
abbrev pub constant_default : G
constant_default = alt (
    Then (one signs.Minus) (one signs.Literal)
    ∷ one signs.Literal
    ∷ Sign is_block
    ∷ one signs.Truth
    ∷ type
    ∷ [])

-- `=` and the default of a constant parameter, or nothing
abbrev pub with_constant : G
with_constant = perhaps (seq (Mark Rest ∷ one signs.Equals ∷ Mark Default ∷ constant_default ∷ []))

-- a constant parameter, after `const`
abbrev pub constant_rest : G
constant_rest = seq (
    Mark Named ∷ word ∷ Mark Rest ∷ one signs.Colon ∷ Mark Bounds ∷ type ∷ with_constant ∷ [])

-- a generic parameter, after its attributes
abbrev pub parameter_rest : G
parameter_rest = alt (
    seq (Mark Named ∷ one signs.Lifetime ∷ with_bounds ∷ [])
    ∷ seq (Mark Named ∷ word ∷ with_bounds ∷ perhaps default_type ∷ [])
    ∷ seq (Mark Rest ∷ key keywords.Const ∷ constant_rest ∷ [])
    ∷ [])

-- a generic parameter: a lifetime, a type or a constant
abbrev pub parameter : G
parameter = seq (Mark Parameter ∷ attributes ∷ parameter_rest ∷ [])

-- generic parameters, with `,` between two and perhaps after the last
abbrev pub parameters : G
parameters = comma_list parameter

-- generic parameters and the `>` after them
abbrev pub closed_parameters : G
closed_parameters = seq (parameters ∷ Mark Rest ∷ one signs.Greater ∷ [])

-- generic parameters in angle brackets, or nothing
abbrev pub generics : G
generics = perhaps (Then (Mark Generics)
    (Either (Then (one signs.Less) closed_parameters) (Then (one signs.LessJoint) closed_parameters)))

-- ---- where clauses

-- a predicate: a type, `:` and bounds
abbrev pub predicate : G
predicate = seq (Mark Bounded ∷ type ∷ Mark Rest ∷ one signs.Colon ∷ Mark Bounds ∷ bounds ∷ [])

-- a where clause, or nothing
abbrev pub where_clause : G
where_clause = perhaps (seq (Mark Where ∷ key keywords.Where ∷ comma_list predicate ∷ []))
