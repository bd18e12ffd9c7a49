-- The expressions of discriminants. Only their ends are found.
use Rattle.std.specs.Prelude.{Bool, not, ◌||◌, List, [], ◌∷◌}
use Rattle.grammars.specs.Grammar.{To, Then, Either, perhaps}
use Rattle.item_tables.specs.Classes.{is, is_keyword, is_word, one_of}
use Rattle.declarations.specs.rules.Names.{G, alt, one, Expression, ExpressionOpen, ExpressionWhole, ExpressionLess}
use Rattle.declarations.specs.rules.Names.{ExpressionDot, Closure, Cast, CastWhole}
use Rattle.declarations.specs.rules.Types.{angle}
use Rattle.item_tables.specs.declared.class.SignClass.{SignClass}
use Rattle.item_tables.specs.declared.class.SignClass.TheVariants as signs

-- the classes of groups that can be operands
abbrev pub groups : List SignClass
groups = signs.Restriction ∷ signs.Parentheses ∷ signs.Brackets ∷ signs.Braces ∷ signs.Block ∷ signs.Invisible ∷ []

-- whether the sign is a name in the type of a cast, which angle brackets may follow
abbrev pub cast_name : SignClass → Bool
cast_name c =
    is_word c || one_of (signs.SelfValue ∷ signs.SelfType ∷ signs.Super ∷ signs.Crate ∷ signs.Underscore
    ∷ signs.Truth ∷ []) c

-- whether the sign is an operand
abbrev pub one_operand : SignClass → Bool
one_operand c =
    one_of groups c || (is_word c || one_of (signs.SelfValue ∷ signs.SelfType ∷ signs.Super ∷ signs.Crate
    ∷ signs.Underscore ∷ signs.Truth ∷ signs.Literal ∷ signs.Await ∷ []) c)

-- what comes where an operand must come, except operands of one sign, angle brackets and ranges
abbrev pub other_operand : G
other_operand = alt (
    To (one_of (signs.Lifetime ∷ signs.Jump ∷ [])) ExpressionOpen
    ∷ To (λ c. is_keyword c || one_of (signs.Minus ∷ signs.Star ∷ signs.And ∷ signs.Exclamation ∷ signs.Equals
    ∷ signs.Greater ∷ signs.PathSeparator ∷ signs.Bars ∷ []) c) Expression
    ∷ Then (one signs.Hash) (To (is signs.Brackets) Expression)
    ∷ To (is signs.Bar) Closure
    ∷ To (is signs.Arrow) Cast
    ∷ [])

-- what comes where an operand must come, except ranges
abbrev pub wanted_operand : G
wanted_operand = alt (To one_operand ExpressionWhole ∷ angle ExpressionWhole ∷ other_operand ∷ [])

-- the `..` that begins a range
abbrev pub from_range : G
from_range = Then (one signs.Dot) (To (is signs.Dot) ExpressionOpen)

-- an expression, from where an operand must come
abbrev pub expression : G
expression = Either wanted_operand from_range

-- the rest of an expression, where an operand may come or the expression may end
abbrev pub open_end : G
open_end = perhaps (alt (
    To (is signs.Dot) ExpressionOpen
    ∷ To (is signs.Question) ExpressionWhole
    ∷ To (one_of (signs.Plus ∷ signs.Infix ∷ signs.Colon ∷ [])) Expression
    ∷ wanted_operand
    ∷ []))

-- what may follow an operand of an expression or of a cast, except `::` and `<`
abbrev pub operator : G
operator = alt (
    To (λ c. one_of groups c || one_of (signs.Question ∷ signs.Await ∷ []) c) ExpressionWhole
    ∷ To (is signs.Jump) ExpressionOpen
    ∷ To (is signs.Dot) ExpressionDot
    ∷ To (one_of (signs.As ∷ signs.Arrow ∷ [])) Cast
    ∷ To (λ c. is_keyword c || one_of (signs.Minus ∷ signs.Star ∷ signs.And ∷ signs.Exclamation ∷ signs.Equals
    ∷ signs.Greater ∷ signs.Plus ∷ signs.Infix ∷ signs.Colon ∷ signs.Bar ∷ signs.Bars ∷ signs.LessEquals ∷ []) c)
    Expression
    ∷ [])

-- the rest of an expression after an operand
abbrev pub whole : G
whole = perhaps (alt (
    To (one_of (signs.PathSeparator ∷ signs.Less ∷ [])) Expression
    ∷ To (is signs.LessJoint) ExpressionLess
    ∷ operator
    ∷ []))

-- the rest of an expression after a `Joint` `<` that is an operator, which a second mark may belong to
abbrev pub less : G
less = alt (
    To (one_of (signs.Less ∷ signs.LessJoint ∷ signs.LessEquals ∷ [])) Expression
    ∷ To one_operand ExpressionWhole
    ∷ other_operand
    ∷ from_range
    ∷ [])

-- the rest of an expression after an operand and `.`
abbrev pub dot : G
dot = Either (To (is signs.Dot) ExpressionOpen) wanted_operand

-- the rest of an expression from within the bars of a closure
abbrev pub closure : G
closure = alt (
    To (is signs.Bar) Expression
    ∷ angle Closure
    ∷ To (λ c. not (one_of (signs.Bar ∷ signs.Less ∷ signs.LessJoint ∷ signs.Semicolon ∷ []) c)) Closure
    ∷ [])

-- the rest of an expression from where the type of a cast must come
abbrev pub cast : G
cast = alt (
    To (one_of groups) ExpressionWhole
    ∷ To cast_name CastWhole
    ∷ angle CastWhole
    ∷ To (λ c. is_keyword c || one_of (signs.Lifetime ∷ signs.PathSeparator ∷ signs.Arrow ∷ signs.Star ∷ signs.And
    ∷ signs.Exclamation ∷ signs.As ∷ signs.Jump ∷ signs.Await ∷ signs.Literal ∷ []) c) Cast
    ∷ [])

-- the rest of an expression after a name in the type of a cast
abbrev pub cast_whole : G
cast_whole = perhaps (alt (To (is signs.PathSeparator) Cast ∷ angle CastWhole ∷ operator ∷ []))
