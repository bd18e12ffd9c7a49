-- The states in which walks over types, bounds and expressions begin.
use Rattle.std.specs.Prelude.{ℕ}
use Rattle.item_tables.specs.declared.walk_state.WalkState.{WalkState}
use Rattle.item_tables.specs.declared.walk_state.Continuation.{Continuation}
use Rattle.item_tables.specs.declared.walk_state.Continuation.TheVariants as rules
use Rattle.item_tables.specs.declared.walk_state.Spot.TheVariants as spots
use Rattle.item_tables.specs.declared.walk_state.State.{State}
use Rattle.item_tables.specs.declared.walk_state.State.TheVariants as states
use Rattle.item_tables.specs.declared.types.TypeState.{TypeState}

-- a state in which no angle bracket is open
abbrev pub from_state : Continuation → State → WalkState
from_state rule state = record { rule = rule; state = state; depth = 0 }

-- this state of a type or bounds that stand alone, within so many angle brackets
abbrev pub in_range : TypeState → ℕ → WalkState
in_range state depth = record { rule = rules.Outside; state = states.Range state; depth = depth }

-- the state in which an expression begins
abbrev pub in_expression : WalkState
in_expression = from_state rules.Outside (states.At spots.Expression)
