-- The texts and the spans of a buffer's errors.
use Rattle.std.specs.Prelude.{ℕ, List, Option, None, codes}
use Rattle.pm_span.specs.Extent.{Extent}
use Rattle.pm_token.specs.Message as parsing
use Rattle.token_buffer.specs.declared.errors.BufferError.{BufferError}
use Rattle.token_buffer.specs.declared.errors.BufferError.TheVariants.{Parse, TooLong}

abbrev pub message : BufferError → List ℕ
message (Parse error) = parsing.message error
message TooLong = codes "text too long"

-- the span of a syntax error
abbrev pub fault_span : BufferError → Option Extent
fault_span (Parse error) = parsing.fault_span error
fault_span TooLong = None
