-- The part of a span between two bounds. A bound counts characters from the span's first position.
use Rattle.std.specs.Prelude.{ℕ, ◌+◌, ◌&&◌, nat_le, if◌then◌else◌, Option, Some, None}
use Rattle.std.specs.declared.ops.Bound.{Bound}
use Rattle.std.specs.declared.ops.Bound.TheVariants.{Included, Excluded, Unbounded}
use Rattle.pm_span.specs.Extent.{Extent}

-- where the part begins: at an included bound, or one character after an excluded one
abbrev pub start_of : Extent → Bound ℕ → ℕ
start_of span (Included chars) = span.lo + chars
start_of span (Excluded chars) = span.lo + chars + 1
start_of span Unbounded = span.lo

-- where the part ends: one character after an included bound, or at an excluded one
abbrev pub end_of : Extent → Bound ℕ → ℕ
end_of span (Included chars) = span.lo + chars + 1
end_of span (Excluded chars) = span.lo + chars
end_of span Unbounded = span.hi

-- `subspan`: the part, or `None` if it would end before it begins or past the end of the span
abbrev pub subspan : Extent → Bound ℕ → Bound ℕ → Option Extent
subspan span start end =
    let lo = start_of span start in
    let hi = end_of span end in
    if nat_le lo hi && nat_le hi span.hi then Some (record { lo = lo; hi = hi }) else None
