-- The errors of a buffer.
use Rattle.pm_span.specs.Extent.{Extent}
use Rattle.pm_token.specs.Outcome.{IfLex}
use Rattle.pm_token.specs.declared.errors.ParseError.{ParseError}
use Rattle.token_buffer.specs.declared.errors.BufferError.{BufferError}
use Rattle.token_buffer.specs.declared.errors.BufferError.TheVariants.{Parse, TooLong}

-- whether this is true of the parse error, if the error is one
abbrev pub IfParse : BufferError → (ParseError → Type 0) → Type 0
IfParse (Parse error) holds = holds error
IfParse TooLong holds = Unit {0}

-- whether this is true of the fault's extent, if the error is a syntax error
abbrev pub IfFault : BufferError → (Extent → Type 0) → Type 0
IfFault error holds = IfParse error (λ parse. IfLex parse holds)

-- whether this is true, if the error is `TooLong`
abbrev pub IfTooLong : BufferError → Type 0 → Type 0
IfTooLong (Parse error) holds = Unit {0}
IfTooLong TooLong holds = holds
