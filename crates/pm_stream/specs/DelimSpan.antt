-- The spans of a group's delimiters. Each is a part of the span of the whole group.
use Rattle.std.specs.Prelude.{◌+◌, ◌-◌, min, max}
use Rattle.pm_span.specs.Extent.{Extent}

-- `open-span`: the span of a group's first character, which is empty if the group's span is empty
abbrev pub opening_span : Extent → Extent
opening_span span = record { lo = span.lo; hi = min (span.lo + 1) span.hi }

-- `close-span`: the span of a group's last character, which is empty if the group's span is empty
abbrev pub closing_span : Extent → Extent
closing_span span = record { lo = max (span.hi - 1) span.lo; hi = span.hi }
