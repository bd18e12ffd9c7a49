-- The steps of the walk over an expression, up to its end. A step says where a sign leads.
use Rattle.std.specs.Prelude.{Bool, true, false, Option, None}
use Rattle.item_tables.specs.Moves.{open_angle, to_spot}
use Rattle.item_tables.specs.declared.class.SignClass.{SignClass}
use Rattle.item_tables.specs.declared.class.SignClass.TheVariants as signs
use Rattle.item_tables.specs.declared.walk_state.Continuation.TheVariants as rules
use Rattle.item_tables.specs.declared.walk_state.Shift.{Shift}
use Rattle.item_tables.specs.declared.walk_state.Spot.{Spot}
use Rattle.item_tables.specs.declared.walk_state.Spot.TheVariants as spots

-- the step where an operand must come
abbrev pub expression : SignClass → Option Shift
expression signs.Restriction = to_spot spots.ExpressionWhole
expression signs.Parentheses = to_spot spots.ExpressionWhole
expression signs.Brackets = to_spot spots.ExpressionWhole
expression signs.Braces = to_spot spots.ExpressionWhole
expression signs.Block = to_spot spots.ExpressionWhole
expression signs.Invisible = to_spot spots.ExpressionWhole
expression (signs.Word _) = to_spot spots.ExpressionWhole
expression signs.SelfValue = to_spot spots.ExpressionWhole
expression signs.SelfType = to_spot spots.ExpressionWhole
expression signs.Super = to_spot spots.ExpressionWhole
expression signs.Crate = to_spot spots.ExpressionWhole
expression signs.Underscore = to_spot spots.ExpressionWhole
expression signs.Truth = to_spot spots.ExpressionWhole
expression signs.Literal = to_spot spots.ExpressionWhole
expression signs.Await = to_spot spots.ExpressionWhole
expression signs.Less = open_angle rules.Angle
expression signs.LessJoint = open_angle rules.Angle
expression signs.Lifetime = to_spot spots.ExpressionOpen
expression signs.Jump = to_spot spots.ExpressionOpen
expression signs.Dot = to_spot spots.ExpressionRange
expression signs.Minus = to_spot spots.Expression
expression signs.Star = to_spot spots.Expression
expression signs.And = to_spot spots.Expression
expression signs.Exclamation = to_spot spots.Expression
expression signs.Equals = to_spot spots.Expression
expression signs.Greater = to_spot spots.Expression
expression signs.PathSeparator = to_spot spots.Expression
expression signs.Bars = to_spot spots.Expression
expression (signs.Keyword _) = to_spot spots.Expression
expression signs.Hash = to_spot spots.ExpressionHash
expression signs.Bar = to_spot spots.Closure
expression signs.Arrow = to_spot spots.Cast
expression _ = None

-- the step where an operand may come, or what follows an operand
abbrev pub expression_open : SignClass → Option Shift
expression_open signs.Dot = to_spot spots.ExpressionOpen
expression_open signs.Question = to_spot spots.ExpressionWhole
expression_open signs.Plus = to_spot spots.Expression
expression_open signs.Infix = to_spot spots.Expression
expression_open signs.Colon = to_spot spots.Expression
expression_open class = expression class

-- the step after an operand of an expression or of a cast
abbrev pub operator : SignClass → Option Shift
operator signs.Restriction = to_spot spots.ExpressionWhole
operator signs.Parentheses = to_spot spots.ExpressionWhole
operator signs.Brackets = to_spot spots.ExpressionWhole
operator signs.Braces = to_spot spots.ExpressionWhole
operator signs.Block = to_spot spots.ExpressionWhole
operator signs.Invisible = to_spot spots.ExpressionWhole
operator signs.Question = to_spot spots.ExpressionWhole
operator signs.Await = to_spot spots.ExpressionWhole
operator signs.Jump = to_spot spots.ExpressionOpen
operator signs.Dot = to_spot spots.ExpressionDot
operator signs.As = to_spot spots.Cast
operator signs.Arrow = to_spot spots.Cast
operator signs.Minus = to_spot spots.Expression
operator signs.Star = to_spot spots.Expression
operator signs.And = to_spot spots.Expression
operator signs.Exclamation = to_spot spots.Expression
operator signs.Equals = to_spot spots.Expression
operator signs.Greater = to_spot spots.Expression
operator signs.Plus = to_spot spots.Expression
operator signs.Infix = to_spot spots.Expression
operator signs.Colon = to_spot spots.Expression
operator signs.Bar = to_spot spots.Expression
operator signs.Bars = to_spot spots.Expression
operator signs.LessEquals = to_spot spots.Expression
operator (signs.Keyword _) = to_spot spots.Expression
operator _ = None

-- the step after an operand of an expression
abbrev pub expression_whole : SignClass → Option Shift
expression_whole signs.PathSeparator = to_spot spots.Expression
expression_whole signs.Less = to_spot spots.Expression
expression_whole signs.LessJoint = to_spot spots.ExpressionLess
expression_whole class = operator class

-- the step after a `Joint` `<` that is an operator. A second mark may belong to the operator, as in `<<`
abbrev pub expression_less : SignClass → Option Shift
expression_less signs.Less = to_spot spots.Expression
expression_less signs.LessJoint = to_spot spots.Expression
expression_less signs.LessEquals = to_spot spots.Expression
expression_less class = expression class

-- the step after an operand and `.`
abbrev pub expression_dot : SignClass → Option Shift
expression_dot signs.Dot = to_spot spots.ExpressionOpen
expression_dot class = expression class

-- the step within the bars of a closure
abbrev pub closure : SignClass → Option Shift
closure signs.Bar = to_spot spots.Expression
closure signs.Less = open_angle rules.ClosureAngle
closure signs.LessJoint = open_angle rules.ClosureAngle
closure signs.Semicolon = None
closure _ = to_spot spots.Closure

-- the step where the type of a cast must come
abbrev pub cast : SignClass → Option Shift
cast signs.Restriction = to_spot spots.ExpressionWhole
cast signs.Parentheses = to_spot spots.ExpressionWhole
cast signs.Brackets = to_spot spots.ExpressionWhole
cast signs.Braces = to_spot spots.ExpressionWhole
cast signs.Block = to_spot spots.ExpressionWhole
cast signs.Invisible = to_spot spots.ExpressionWhole
cast (signs.Word _) = to_spot spots.CastWhole
cast signs.SelfValue = to_spot spots.CastWhole
cast signs.SelfType = to_spot spots.CastWhole
cast signs.Super = to_spot spots.CastWhole
cast signs.Crate = to_spot spots.CastWhole
cast signs.Underscore = to_spot spots.CastWhole
cast signs.Truth = to_spot spots.CastWhole
cast signs.Less = open_angle rules.CastAngle
cast signs.LessJoint = open_angle rules.CastAngle
cast signs.Lifetime = to_spot spots.Cast
cast signs.PathSeparator = to_spot spots.Cast
cast signs.Arrow = to_spot spots.Cast
cast signs.Star = to_spot spots.Cast
cast signs.And = to_spot spots.Cast
cast signs.Exclamation = to_spot spots.Cast
cast signs.As = to_spot spots.Cast
cast signs.Jump = to_spot spots.Cast
cast signs.Await = to_spot spots.Cast
cast signs.Literal = to_spot spots.Cast
cast (signs.Keyword _) = to_spot spots.Cast
cast _ = None

-- the step after a name in the type of a cast
abbrev pub cast_whole : SignClass → Option Shift
cast_whole signs.PathSeparator = to_spot spots.Cast
cast_whole signs.Less = open_angle rules.CastAngle
cast_whole signs.LessJoint = open_angle rules.CastAngle
cast_whole class = operator class

-- the step from a state of an expression
abbrev pub spot_step : Spot → SignClass → Option Shift
spot_step spots.Expression class = expression class
spot_step spots.ExpressionOpen class = expression_open class
spot_step spots.ExpressionWhole class = expression_whole class
spot_step spots.ExpressionLess class = expression_less class
spot_step spots.ExpressionDot class = expression_dot class
spot_step spots.ExpressionRange signs.Dot = to_spot spots.ExpressionOpen
spot_step spots.ExpressionHash signs.Brackets = to_spot spots.Expression
spot_step spots.Closure class = closure class
spot_step spots.Cast class = cast class
spot_step spots.CastWhole class = cast_whole class
spot_step _ _ = None

-- whether an expression may end in this state
abbrev pub spot_ends : Spot → Bool
spot_ends spots.ExpressionOpen = true
spot_ends spots.ExpressionWhole = true
spot_ends spots.CastWhole = true
spot_ends _ = false
