-- The messages of the errors.
use Rattle.std.specs.Prelude.{ℕ, List, codes}
use Rattle.literal_escaper.specs.declared.errors.EscapeError.{EscapeError}
use Rattle.literal_escaper.specs.declared.errors.EscapeError.TheVariants as errors

-- the message of an error
unfoldable pub escape_message : EscapeError → List ℕ
escape_message errors.ZeroChars = codes "no character stands between the quotes"
escape_message errors.MoreThanOneChar = codes "more than one character stands between the quotes"
escape_message errors.LoneSlash = codes "nothing follows the backslash"
escape_message errors.InvalidEscape = codes "no escape begins so"
escape_message errors.BareCarriageReturn = codes "CR that is not escaped"
escape_message errors.BareCarriageReturnInRawString = codes "CR in a raw string"
escape_message errors.EscapeOnlyChar = codes "this character stands here only escaped"
escape_message errors.TooShortHexEscape = codes "fewer than two digits in the escape"
escape_message errors.InvalidCharInHexEscape = codes "this is no digit to the base 16"
escape_message errors.OutOfRangeHexEscape = codes "an escape past ASCII where characters are wanted"
escape_message errors.NoBraceInUnicodeEscape = codes "no brace follows the front of the escape"
escape_message errors.InvalidCharInUnicodeEscape = codes "this is no digit to the base 16"
escape_message errors.EmptyUnicodeEscape = codes "no digit stands in the escape"
escape_message errors.UnclosedUnicodeEscape = codes "no brace ends the escape"
escape_message errors.LeadingUnderscoreUnicodeEscape = codes "an underscore before the digits of the escape"
escape_message errors.OverlongUnicodeEscape = codes "more than six digits in the escape"
escape_message errors.LoneSurrogateUnicodeEscape = codes "the code of a surrogate"
escape_message errors.OutOfRangeUnicodeEscape = codes "a code above 10FFFF"
escape_message errors.UnicodeEscapeInByte = codes "an escape of a character where bytes are wanted"
escape_message errors.NonAsciiCharInByte = codes "a character past ASCII where bytes are wanted"
escape_message errors.NulInCStr = codes "a zero in a C string"
escape_message errors.UnskippedWhitespaceWarning = codes "white space that is not skipped"
escape_message errors.MultipleSkippedLinesWarning = codes "more than one line end is skipped"
