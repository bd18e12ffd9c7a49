-- Lists of parts with `,` between two.
use Rattle.std.specs.Prelude.{Bool, true, false, List}
use Rattle.pm_stream.specs.declared.stream.TokenTree.{TokenTree}
use Rattle.declarations.specs.Parameter.{LeadsTo}
use Rattle.declarations.specs.Reader.{Finds}
use Rattle.declarations.specs.declared.part_list.Element.{Element}
use Rattle.declarations.specs.declared.part_list.Element.TheVariants as elements
use Rattle.declarations.specs.rules.Names.{G, comma_list}
use Rattle.declarations.specs.rules.Parts.{field, parameter, predicate, tuple_field, variant}
use Rattle.declarations.specs.rules.Paths.{generic_argument}

-- the rule of an element
abbrev pub element_rule : Element → G
element_rule elements.Field = field
element_rule elements.TupleField = tuple_field
element_rule elements.Variant = variant
element_rule elements.Parameter = parameter
element_rule elements.Predicate = predicate
element_rule elements.Argument = generic_argument

-- the rule of a list
abbrev pub list_rule : Element → G
list_rule element = comma_list (element_rule element)

-- what is found of a list: more of it is to be read after a `,`, or this is all
abbrev pub IsNext : Element → Bool → List TokenTree → List TokenTree → Type 0
IsNext element true trees rest = LeadsTo (list_rule element) trees (list_rule element) rest
IsNext element false trees rest = Finds (list_rule element) trees rest
