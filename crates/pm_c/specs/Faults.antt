-- The errors in the content of a literal, as numbers for C.
use Rattle.std.specs.Prelude.{ℕ}
use Rattle.proc_macro2.specs.declared.EscapeError.{EscapeError}
use Rattle.proc_macro2.specs.declared.EscapeError.TheVariants as faults

-- the number of an error; the errors count from 0, in the order in which they are declared
abbrev pub fault_number : EscapeError → ℕ
fault_number faults.ZeroChars = 0
fault_number faults.MoreThanOneChar = 1
fault_number faults.LoneSlash = 2
fault_number faults.InvalidEscape = 3
fault_number faults.BareCarriageReturn = 4
fault_number faults.BareCarriageReturnInRawString = 5
fault_number faults.EscapeOnlyChar = 6
fault_number faults.TooShortHexEscape = 7
fault_number faults.InvalidCharInHexEscape = 8
fault_number faults.OutOfRangeHexEscape = 9
fault_number faults.NoBraceInUnicodeEscape = 10
fault_number faults.InvalidCharInUnicodeEscape = 11
fault_number faults.EmptyUnicodeEscape = 12
fault_number faults.UnclosedUnicodeEscape = 13
fault_number faults.LeadingUnderscoreUnicodeEscape = 14
fault_number faults.OverlongUnicodeEscape = 15
fault_number faults.LoneSurrogateUnicodeEscape = 16
fault_number faults.OutOfRangeUnicodeEscape = 17
fault_number faults.UnicodeEscapeInByte = 18
fault_number faults.NonAsciiCharInByte = 19
fault_number faults.NulInCStr = 20
fault_number faults.UnskippedWhitespaceWarning = 21
fault_number faults.MultipleSkippedLinesWarning = 22
