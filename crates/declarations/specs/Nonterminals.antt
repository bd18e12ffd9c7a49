-- The rules of the grammar that data cite.
use Rattle.std.specs.Prelude.{ℕ, true}
use Rattle.grammars.specs.Grammar.{Then}
use Rattle.item_tables.specs.declared.class.SignClass.TheVariants as signs
use Rattle.declarations.specs.declared.syntax.Nonterminal.{Nonterminal}
use Rattle.declarations.specs.declared.syntax.Nonterminal.TheVariants as nonterminals
use Rattle.declarations.specs.rules.Bodies as bodies
use Rattle.declarations.specs.rules.Entries as entries
use Rattle.declarations.specs.rules.Fronts as fronts
use Rattle.declarations.specs.rules.Functions.{function_item}
use Rattle.declarations.specs.rules.ImplItems.{impl_item}
use Rattle.declarations.specs.rules.Impls as impls
use Rattle.declarations.specs.rules.Items as items
use Rattle.declarations.specs.rules.Names.{G, one}
use Rattle.declarations.specs.rules.Parameters as parameters
use Rattle.declarations.specs.rules.Parts as parts
use Rattle.declarations.specs.rules.Paths as paths

-- the rule of the grammar
abbrev pub rule_named : Nonterminal → G
rule_named nonterminals.Attributes = parts.attributes
rule_named nonterminals.Visibility = parts.visibility
rule_named nonterminals.Field = parts.field
rule_named nonterminals.TupleField = parts.tuple_field
rule_named nonterminals.Variant = parts.variant
rule_named nonterminals.WithBounds = parts.with_bounds
rule_named nonterminals.ConstantParameter = parts.constant_rest
rule_named nonterminals.GenericRest = parts.parameter_rest
rule_named nonterminals.Generic = parts.parameter
rule_named nonterminals.Generics = parts.generics
rule_named nonterminals.Predicate = parts.predicate
rule_named nonterminals.Where = parts.where_clause
rule_named nonterminals.TypeAndValue = bodies.type_and_value
rule_named nonterminals.FunctionFront = fronts.function_front
rule_named nonterminals.FunctionRest = bodies.function_rest
rule_named nonterminals.Function = function_item
rule_named nonterminals.Target = impls.target true
rule_named nonterminals.MoreGenerics = impls.more_parameters
rule_named nonterminals.Impl = impl_item
rule_named nonterminals.MarkedCall = Then (one signs.Exclamation) items.call_name
rule_named nonterminals.Call = items.call
rule_named nonterminals.DefaultFront = fronts.default_front
rule_named nonterminals.KeywordItem = items.keyword_item
rule_named nonterminals.TypeItem = items.type_item
rule_named nonterminals.AnyItem = items.any_item
rule_named nonterminals.EntryRest = entries.entry_rest
rule_named nonterminals.Entry = entries.entry
rule_named nonterminals.PatternRest = parameters.pattern_rest
rule_named nonterminals.Pattern = parameters.pattern
rule_named nonterminals.Typed = parameters.pattern_parameter
rule_named nonterminals.AfterAnd = parameters.after_and
rule_named nonterminals.NamedParameter = parameters.named_parameter
rule_named nonterminals.Parameter = parameters.function_parameter
rule_named nonterminals.Argument = paths.generic_argument

-- a number for the rule: at least that of its data
abbrev pub nonterminal_size : Nonterminal → ℕ
nonterminal_size nonterminals.Attributes = 9
nonterminal_size nonterminals.Visibility = 16
nonterminal_size nonterminals.Field = 47
nonterminal_size nonterminals.TupleField = 49
nonterminal_size nonterminals.Variant = 62
nonterminal_size nonterminals.WithBounds = 13
nonterminal_size nonterminals.ConstantParameter = 46
nonterminal_size nonterminals.GenericRest = 112
nonterminal_size nonterminals.Generic = 128
nonterminal_size nonterminals.Generics = 288
nonterminal_size nonterminals.Predicate = 16
nonterminal_size nonterminals.Where = 28
nonterminal_size nonterminals.TypeAndValue = 36
nonterminal_size nonterminals.FunctionFront = 735
nonterminal_size nonterminals.FunctionRest = 62
nonterminal_size nonterminals.Function = 439
nonterminal_size nonterminals.Target = 173
nonterminal_size nonterminals.MoreGenerics = 322
nonterminal_size nonterminals.Impl = 2686
nonterminal_size nonterminals.MarkedCall = 43
nonterminal_size nonterminals.Call = 96
nonterminal_size nonterminals.DefaultFront = 20393
nonterminal_size nonterminals.KeywordItem = 21104
nonterminal_size nonterminals.TypeItem = 1089
nonterminal_size nonterminals.AnyItem = 89724
nonterminal_size nonterminals.EntryRest = 19
nonterminal_size nonterminals.Entry = 52
nonterminal_size nonterminals.PatternRest = 15
nonterminal_size nonterminals.Pattern = 52
nonterminal_size nonterminals.Typed = 19
nonterminal_size nonterminals.AfterAnd = 172
nonterminal_size nonterminals.NamedParameter = 344
nonterminal_size nonterminals.Parameter = 427
nonterminal_size nonterminals.Argument = 61
