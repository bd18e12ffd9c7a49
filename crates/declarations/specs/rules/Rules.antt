-- The grammar of each named rule, and the signs that may follow it.
use Rattle.std.specs.Prelude.{Bool, false, true, ◌||◌, [], ◌∷◌}
use Rattle.grammars.specs.Grammar.{To, Then, Either, perhaps}
use Rattle.item_tables.specs.Classes.{is, keyword, one_of}
use Rattle.declarations.specs.rules.Names.{Inside, Outside, Target, Name, Range, Expression, ExpressionOpen}
use Rattle.declarations.specs.rules.Names.{ExpressionWhole, ExpressionLess, ExpressionDot, Closure, Cast, CastWhole}
use Rattle.declarations.specs.rules.Names.{Function, Qualified, Async, Constant, Static, Alias, Struct, Enum, Union}
use Rattle.declarations.specs.rules.Names.{Trait}
use Rattle.declarations.specs.rules.Names.{Impl, Module, Path, Use, UsePath, Call, G, seq, key}
use Rattle.declarations.specs.rules.Types.{range}
use Rattle.declarations.specs.rules.Expressions as expressions
use Rattle.declarations.specs.rules.Parts.{generics}
use Rattle.declarations.specs.rules.Bodies.{alias_rest, body_end, where_and_body, function_rest, name, struct_rest}
use Rattle.declarations.specs.rules.Bodies.{trait_rest, type_and_value}
use Rattle.declarations.specs.rules.Fronts.{async_front, const_front, function_front}
use Rattle.declarations.specs.rules.Items.{call, use_path}
use Rattle.declarations.specs.rules.Impls.{impl_front}
use Rattle.declarations.specs.rules.Paths.{path}
use Rattle.item_tables.specs.declared.class.SignClass.{SignClass}
use Rattle.item_tables.specs.declared.class.SignClass.TheVariants as signs
use Rattle.item_tables.specs.declared.class.Keyword.TheVariants as keywords

-- the grammar of each named rule
abbrev pub rules : Name → G
rules (Range state context) = range state context
rules Expression = expressions.expression
rules ExpressionOpen = expressions.open_end
rules ExpressionWhole = expressions.whole
rules ExpressionLess = expressions.less
rules ExpressionDot = expressions.dot
rules Closure = expressions.closure
rules Cast = expressions.cast
rules CastWhole = expressions.cast_whole
rules Function = seq (name ∷ generics ∷ function_rest ∷ [])
rules Qualified = function_front
rules Async = async_front
rules Constant = const_front
rules Static = seq (perhaps (key keywords.Mut) ∷ name ∷ type_and_value ∷ [])
rules Alias = seq (name ∷ generics ∷ alias_rest ∷ [])
rules Struct = seq (name ∷ generics ∷ struct_rest ∷ [])
rules Enum = seq (name ∷ generics ∷ where_and_body ∷ [])
rules Union = seq (name ∷ generics ∷ where_and_body ∷ [])
rules Trait = seq (name ∷ generics ∷ trait_rest ∷ [])
rules Impl = impl_front
rules Module = Then name body_end
rules Use = Either (To (is signs.PathSeparator) UsePath) use_path
rules UsePath = use_path
rules Call = call
rules (Path state) = path state

-- whether a sign of this class may follow the rule
abbrev pub follows : Name → SignClass → Bool
follows (Range state Inside) c = is signs.Greater c
follows (Range state Outside) c =
    keyword keywords.Where c
    || one_of (signs.Comma ∷ signs.Colon ∷ signs.Equals ∷ signs.Semicolon ∷ signs.Greater ∷ signs.Braces
    ∷ signs.Block ∷ []) c
follows (Range state Target) c = keyword keywords.Where c || is signs.Braces c
follows Expression c = is signs.Comma c
follows ExpressionOpen c = is signs.Comma c
follows ExpressionWhole c = is signs.Comma c
follows ExpressionLess c = is signs.Comma c
follows ExpressionDot c = is signs.Comma c
follows Closure c = is signs.Comma c
follows Cast c = is signs.Comma c
follows CastWhole c = is signs.Comma c
follows (Path state) c = false
follows _ c = true
