-- Which errors are warnings.
use Rattle.std.specs.Prelude.{Bool, true, false}
use Rattle.literal_escaper.specs.declared.errors.EscapeError.{EscapeError}
use Rattle.literal_escaper.specs.declared.errors.EscapeError.TheVariants.{UnskippedWhitespaceWarning}
use Rattle.literal_escaper.specs.declared.errors.EscapeError.TheVariants.{MultipleSkippedLinesWarning}

-- `fatal`: whether the error is not one of the two warnings
abbrev pub is_fault : EscapeError → Bool
is_fault UnskippedWhitespaceWarning = false
is_fault MultipleSkippedLinesWarning = false
is_fault _ = true
