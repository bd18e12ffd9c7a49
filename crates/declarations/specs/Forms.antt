-- The parts of declarations, each by its rule.
use Rattle.std.specs.Prelude.{List}
use Rattle.declarations.specs.rules.Expressions.{expression}
use Rattle.declarations.specs.rules.Items.{any_item, type_item}
use Rattle.declarations.specs.rules.Parts.{attributes, field, fields, generics, inner_attributes, tuple_field}
use Rattle.declarations.specs.rules.Parts.{tuple_fields, variant, variants, visibility, where_clause}
use Rattle.declarations.specs.rules.Pieces.{ByRule}
use Rattle.declarations.specs.rules.Types.{bounds, type}
use Rattle.item_tables.specs.declared.class.SignClass.{SignClass}

-- a type
abbrev pub IsType : List SignClass → List SignClass → Type 0
IsType = ByRule type

-- bounds, perhaps none
abbrev pub AreBounds : List SignClass → List SignClass → Type 0
AreBounds = ByRule bounds

-- any number of attributes, each `#` and brackets
abbrev pub AreAttributes : List SignClass → List SignClass → Type 0
AreAttributes = ByRule attributes

-- a visibility or nothing. It is `pub`, perhaps with a restriction, or a group without delimiters that holds one
abbrev pub IsVisibility : List SignClass → List SignClass → Type 0
IsVisibility = ByRule visibility

-- a field: attributes, a visibility, a name, `:` and a type
abbrev pub IsField : List SignClass → List SignClass → Type 0
IsField = ByRule field

-- a field without a name: attributes, a visibility and a type
abbrev pub IsTupleField : List SignClass → List SignClass → Type 0
IsTupleField = ByRule tuple_field

-- fields, with `,` between two and perhaps after the last
abbrev pub AreFields : List SignClass → List SignClass → Type 0
AreFields = ByRule fields

-- fields without names, with `,` between two and perhaps after the last
abbrev pub AreTupleFields : List SignClass → List SignClass → Type 0
AreTupleFields = ByRule tuple_fields

-- a variant: attributes, a visibility, a name, perhaps fields, and perhaps a discriminant
abbrev pub IsVariant : List SignClass → List SignClass → Type 0
IsVariant = ByRule variant

-- variants, with `,` between two and perhaps after the last
abbrev pub AreVariants : List SignClass → List SignClass → Type 0
AreVariants = ByRule variants

-- the expression of a discriminant. Only its end is found
abbrev pub IsExpression : List SignClass → List SignClass → Type 0
IsExpression = ByRule expression

-- generic parameters in angle brackets, or nothing
abbrev pub AreGenerics : List SignClass → List SignClass → Type 0
AreGenerics = ByRule generics

-- a where clause, or nothing
abbrev pub IsWhere : List SignClass → List SignClass → Type 0
IsWhere = ByRule where_clause

-- a struct, an enum or a union: attributes, a visibility, its keyword and name, generics, where clause and body
abbrev pub IsItem : List SignClass → List SignClass → Type 0
IsItem = ByRule type_item

-- any number of inner attributes, each `#!` and brackets
abbrev pub AreInnerAttributes : List SignClass → List SignClass → Type 0
AreInnerAttributes = ByRule inner_attributes

-- an item of any kind: what comes before its name, its name, header and body; or a group without delimiters
abbrev pub IsAnyItem : List SignClass → List SignClass → Type 0
IsAnyItem = ByRule any_item
