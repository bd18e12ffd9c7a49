-- The walk over a type, over bounds or over an expression: what may come next in each state.
use Rattle.std.specs.Prelude.{ℕ, ◌+◌, ◌-◌, ◌==◌, ◌&&◌, Bool, true, false, Option, Some, None, if◌then◌else◌}
use Rattle.item_tables.specs.Expression.{spot_ends, spot_step}
use Rattle.item_tables.specs.TypeStep.{may_end, step_of}
use Rattle.item_tables.specs.declared.class.SignClass.{SignClass}
use Rattle.item_tables.specs.declared.class.SignClass.TheVariants as signs
use Rattle.item_tables.specs.declared.class.Keyword.TheVariants as keywords
use Rattle.item_tables.specs.declared.walk_state.WalkState.{WalkState}
use Rattle.item_tables.specs.declared.walk_state.Continuation.{Continuation}
use Rattle.item_tables.specs.declared.walk_state.Continuation.TheVariants as rules
use Rattle.item_tables.specs.declared.walk_state.Shift.{Shift}
use Rattle.item_tables.specs.declared.walk_state.Spot.TheVariants as spots
use Rattle.item_tables.specs.declared.walk_state.State.{State}
use Rattle.item_tables.specs.declared.walk_state.State.TheVariants as states
use Rattle.item_tables.specs.declared.types.Turn.{Turn}
use Rattle.item_tables.specs.declared.types.Turn.TheVariants as turns
use Rattle.item_tables.specs.declared.types.TypeState.{TypeState}
use Rattle.item_tables.specs.declared.types.TypeState.TheVariants as types
use Rattle.item_tables.specs.declared.types.TypeStep.{TypeStep}

-- ---- within types and bounds

-- the number of open angle brackets after a sign
abbrev pub depth_after : Turn → ℕ → ℕ
depth_after turns.Stay depth = depth
depth_after turns.Open depth = depth + 1
depth_after turns.Close depth = depth - 1

-- whether no angle bracket is open. The arguments within brackets are read as if one were
abbrev pub is_outside : Continuation → ℕ → Bool
is_outside rules.Inside depth = false
is_outside rule depth = depth == 0

-- whether the sign closes the brackets around the arguments, which are not part of what is read
abbrev pub ends_inside : Continuation → ℕ → Turn → Bool
ends_inside rules.Inside depth turns.Close = depth == 0
ends_inside rule depth turn = false

-- the state after the angle brackets of an expression
abbrev pub after_angle : Continuation → TypeState → State
after_angle rules.Angle state = states.At spots.ExpressionWhole
after_angle rules.CastAngle state = states.At spots.CastWhole
after_angle rules.ClosureAngle state = states.At spots.Closure
after_angle _ state = states.Range state

-- the state after a step within a type. The step may close the angle brackets of an expression
abbrev pub range_state : Continuation → TypeState → Turn → ℕ → State
range_state rule state turns.Close depth = if depth == 0 then after_angle rule state else states.Range state
range_state rule state turns.Stay depth = states.Range state
range_state rule state turns.Open depth = states.Range state

abbrev pub after_range : Continuation → ℕ → Option TypeStep → Option WalkState
after_range rule depth None = None
after_range rule depth (Some taken) =
    if ends_inside rule depth taken.turn then None else Some (record {
      rule = rule;
      state = range_state rule taken.state taken.turn (depth_after taken.turn depth);
      depth = depth_after taken.turn depth;
    })

-- the step within a type or bounds
abbrev pub range_step : Continuation → ℕ → TypeState → SignClass → Option WalkState
range_step rule depth state class = after_range rule depth (step_of state class (is_outside rule depth))

-- the step after the type of an `impl`: `for`, and the type for which it is
abbrev pub for_step : Continuation → SignClass → Option WalkState
for_step rules.Target (signs.Keyword keywords.For) =
    Some (record { rule = rules.Outside; state = states.Range types.Wanted; depth = 0 })
for_step rule class = None

abbrev pub else_for : Option WalkState → Continuation → ℕ → TypeState → SignClass → Option WalkState
else_for (Some next) rule depth state class = Some next
else_for None rule depth state class = if (depth == 0) && may_end state then for_step rule class else None

-- ---- in all states

abbrev pub shift_state : ℕ → Option Shift → Option WalkState
shift_state depth None = None
shift_state depth (Some s) = Some (record { rule = s.rule; state = s.state; depth = depth_after s.turn depth })

abbrev pub step_from : State → Continuation → ℕ → SignClass → Option WalkState
step_from (states.Range state) rule depth class = else_for (range_step rule depth state class) rule depth state class
step_from (states.At spot) rule depth class = shift_state depth (spot_step spot class)

-- the state that a sign of this class leads to, or nothing if the sign cannot come next
abbrev pub step : WalkState → SignClass → Option WalkState
step place class = step_from place.state place.rule place.depth class

-- ---- where a part may end

-- whether a type may end in this state. Arguments may also end where one may begin
abbrev pub range_ends : Continuation → TypeState → Bool
range_ends rules.Inside types.Argument = true
range_ends rule state = may_end state

abbrev pub ends_at : State → Continuation → ℕ → Bool
ends_at (states.Range state) rule depth = (depth == 0) && range_ends rule state
ends_at (states.At spot) rule depth = spot_ends spot

-- whether what is read may end in this state
abbrev pub ends : WalkState → Bool
ends place = ends_at place.state place.rule place.depth
