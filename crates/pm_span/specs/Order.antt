-- How lines and columns are compared and hashed.
use Rattle.std.specs.Prelude.{◌≡◌, ◌<◌, ◌⊎◌}
use Rattle.pm_span.specs.declared.location.LineColumn.{LineColumn}

-- whether the first is on an earlier line, or on the same line at a smaller column
abbrev pub IsBefore : LineColumn → LineColumn → Type 0
IsBefore a b = (a.line < b.line) ⊎ ((a.line ≡ b.line) × (a.column < b.column))
