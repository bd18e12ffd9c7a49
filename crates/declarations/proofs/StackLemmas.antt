-- What the grammar still has to read in a state of the tables, as a flat stack.
use Rattle.std.proofs.Common.{ℕ, zero, suc, Bool, true, false, List, [], ◌∷◌, Option, Some, None, if◌then◌else◌}
use Rattle.grammars.specs.Grammar.{To}
use Rattle.item_tables.specs.Classes.{is}
use Rattle.declarations.specs.rules.Names.{Context, Inside, Outside, Target, Name, Range, ExpressionOpen, Expression}
use Rattle.declarations.specs.rules.Names.{ExpressionWhole, CastWhole, Closure, G}
use Rattle.declarations.specs.rules.Types.{range}
use Rattle.declarations.specs.rules.Expressions as expressions
use Rattle.item_tables.specs.declared.class.SignClass.TheVariants as signs
use Rattle.item_tables.specs.declared.walk_state.WalkState.{WalkState}
use Rattle.item_tables.specs.declared.walk_state.Continuation.{Continuation}
use Rattle.item_tables.specs.declared.walk_state.Continuation.TheVariants as places
use Rattle.item_tables.specs.declared.walk_state.Spot.{Spot}
use Rattle.item_tables.specs.declared.walk_state.Spot.TheVariants as spots
use Rattle.item_tables.specs.declared.walk_state.State.{State}
use Rattle.item_tables.specs.declared.walk_state.State.TheVariants as states
use Rattle.item_tables.specs.declared.types.TypeState.{TypeState}
use Rattle.item_tables.specs.declared.types.TypeState.TheVariants as types

-- ---- types

-- the context of a type, outside of the angle brackets that it has
abbrev pub context_of : Continuation → Context
context_of places.Inside = Inside
context_of places.Target = Target
context_of _ = Outside

-- the rule that goes on after the outermost angle brackets
abbrev pub after_brackets : Continuation → Name
after_brackets places.Angle = ExpressionWhole
after_brackets places.CastAngle = CastWhole
after_brackets places.ClosureAngle = Closure
after_brackets rule = Range types.Whole (context_of rule)

-- what is left to read within so many angle brackets and one more
abbrev pub brackets_left : Continuation → ℕ → List G
brackets_left rule zero = To (is signs.Greater) (after_brackets rule) ∷ []
brackets_left rule (suc depth) = To (is signs.Greater) (Range types.Whole Inside) ∷ brackets_left rule depth

-- whether the tables reach a type outside of angle brackets
abbrev pub comes_outside : Continuation → Bool
comes_outside places.Angle = false
comes_outside places.CastAngle = false
comes_outside places.ClosureAngle = false
comes_outside rule = true

abbrev pub range_left : TypeState → ℕ → Continuation → Option (List G)
range_left state zero rule = if comes_outside rule then Some (range state (context_of rule) ∷ []) else None
range_left state (suc depth) rule = Some (range state Inside ∷ brackets_left rule depth)

-- ---- expressions

-- what is left to read in a state of an expression
abbrev pub spot_left : Spot → G
spot_left spots.Expression = expressions.expression
spot_left spots.ExpressionOpen = expressions.open_end
spot_left spots.ExpressionWhole = expressions.whole
spot_left spots.ExpressionLess = expressions.less
spot_left spots.ExpressionDot = expressions.dot
spot_left spots.ExpressionRange = To (is signs.Dot) ExpressionOpen
spot_left spots.ExpressionHash = To (is signs.Brackets) Expression
spot_left spots.Closure = expressions.closure
spot_left spots.Cast = expressions.cast
spot_left spots.CastWhole = expressions.cast_whole

-- ---- all states

-- what is left to read in a state, with so many angle brackets open
abbrev pub state_left : State → ℕ → Continuation → Option (List G)
state_left (states.Range state) depth rule = range_left state depth rule
state_left (states.At spot) zero rule = Some (spot_left spot ∷ [])
state_left (states.At spot) (suc depth) rule = None

-- what is left to read in a state, if the tables reach it
abbrev pub left_at : WalkState → Option (List G)
left_at place = state_left place.state place.depth place.rule

-- what is left to read after a step of the tables, if there is one, and if the tables reach the state
abbrev pub left_after : Option WalkState → Option (Option (List G))
left_after None = None
left_after (Some place) = Some (left_at place)

-- a stack after a step of the grammar, as one that the tables reach
abbrev pub stack_after : Option (List G) → Option (Option (List G))
stack_after None = None
stack_after (Some k) = Some (Some k)
