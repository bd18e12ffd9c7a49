-- The value of a content, made of its items.
use Rattle.std.specs.Prelude.{if◌then◌else◌, List, [], ◌∷◌, Option, Some, None, Result, Ok, Err}
use Rattle.std.specs.List.{filter_map}
use Rattle.literal_escaper.specs.declared.errors.EscapeError.{EscapeError}
use Rattle.literal_escaper.specs.Items.{Item}
use Rattle.literal_escaper.specs.Warning.{is_fault}

-- the unit, or none if the result is an error
abbrev pub unit_of : {U : Type 0} → Result U EscapeError → Option U
unit_of (Ok unit) = Some unit
unit_of (Err e) = None

-- the units of the items
abbrev pub units_of : {U : Type 0} → List (Item U) → List U
units_of items = filter_map (λ item. unit_of item.1) items

-- the error if the result has one that is no warning, and otherwise the error before
abbrev pub fault_or : {U : Type 0} → Option EscapeError → Result U EscapeError → Option EscapeError
fault_or before (Ok unit) = before
fault_or before (Err e) = if is_fault e then Some e else before

-- the last error among the items that is no warning, and otherwise the error before
abbrev pub last_fault_or : {U : Type 0} → Option EscapeError → List (Item U) → Option EscapeError
last_fault_or before [] = before
last_fault_or before (item ∷ items) = last_fault_or (fault_or before item.1) items

-- the last error among the items that is no warning
abbrev pub last_fault : {U : Type 0} → List (Item U) → Option EscapeError
last_fault items = last_fault_or None items

-- the units, or the error if there is one
abbrev pub value_or : {U : Type 0} → Option EscapeError → List U → Result (List U) EscapeError
value_or None units = Ok units
value_or (Some e) units = Err e

-- `content-value`: the units of the items, or the last error that is no warning, if there is one
abbrev pub value_of : {U : Type 0} → List (Item U) → Result (List U) EscapeError
value_of items = value_or (last_fault items) (units_of items)
