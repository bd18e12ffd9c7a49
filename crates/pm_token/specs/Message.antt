-- The texts and the spans of the errors.
use Rattle.std.specs.Prelude.{ℕ, List, Option, Some, None, codes}
use Rattle.pm_span.specs.Extent.{Extent}
use Rattle.pm_token.specs.declared.errors.ParseError.{ParseError}
use Rattle.pm_token.specs.declared.errors.ParseError.TheVariants.{Lex, MapFull, Memory}
use Rattle.pm_token.specs.declared.literals.conversion.ConversionErrorKind.{ConversionErrorKind}
use Rattle.pm_token.specs.declared.literals.conversion.ConversionErrorKind.TheVariants as conversions

abbrev pub message : ParseError → List ℕ
message (Lex error) = codes "cannot parse string into token stream"
message MapFull = codes "map full"
message (Memory error) = codes "no memory"

-- the span of a syntax error
abbrev pub fault_span : ParseError → Option Extent
fault_span (Lex error) = Some error
fault_span MapFull = None
fault_span (Memory error) = None

-- the text of each error of a literal that has no value
abbrev pub conversion_message : ConversionErrorKind → List ℕ
conversion_message (conversions.FailedToUnescape error) = codes "cannot unescape the literal"
conversion_message conversions.InvalidLiteralKind = codes "the literal is of another kind or has a suffix"
conversion_message (conversions.Memory error) = codes "no memory"
