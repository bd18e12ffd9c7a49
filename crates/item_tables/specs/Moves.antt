-- The moves from one state of the walk over an expression to another.
use Rattle.std.specs.Prelude.{Option, Some}
use Rattle.item_tables.specs.declared.walk_state.Continuation.{Continuation}
use Rattle.item_tables.specs.declared.walk_state.Continuation.TheVariants as rules
use Rattle.item_tables.specs.declared.walk_state.Shift.{Shift}
use Rattle.item_tables.specs.declared.walk_state.Spot.{Spot}
use Rattle.item_tables.specs.declared.walk_state.State.TheVariants as states
use Rattle.item_tables.specs.declared.types.Turn.TheVariants as turns
use Rattle.item_tables.specs.declared.types.TypeState.TheVariants as types

abbrev pub to_spot : Spot → Option Shift
to_spot spot = Some (record { rule = rules.Outside; state = states.At spot; turn = turns.Stay })

-- the move into angle brackets
abbrev pub open_angle : Continuation → Option Shift
open_angle rule = Some (record { rule = rule; state = states.Range types.Argument; turn = turns.Open })
