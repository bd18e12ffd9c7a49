-- Where an error is reported if trees are missing at the end of a group.
use Rattle.std.specs.Prelude.{◌≡◌, Option, Some, None}
use Rattle.pm_span.specs.Extent.{Extent}
use Rattle.pm_stream.specs.DelimSpan.{closing_span}
use Rattle.pm_stream.specs.declared.stream.Group.{Group as Grouped}
use Rattle.declarations.specs.declared.fault.Fault.{Fault}

-- the span, or this other one if there is none
abbrev pub or_extent : Option Extent → Option Extent → Option Extent
or_extent None end = end
or_extent (Some extent) end = Some extent

-- the error with this span, if it has none
abbrev pub ending_at : Option Extent → Fault → Fault
ending_at end fault = record { at = fault.at; span = or_extent fault.span end; expected = fault.expected }

-- the error is one of these, with this span if trees are missing at the end
abbrev pub EndsAt : Option Extent → (Fault → Type 0) → Fault → Type 0
EndsAt end fails fault = (found : Fault) × fails found × (fault ≡ ending_at end found)

-- the span of the group's closing delimiter
abbrev pub closing_of : Grouped → Option Extent
closing_of g = Some (closing_span g.span)
