-- The messages of the errors, and their spans.
use Rattle.std.specs.Prelude.{ℕ, List, Option, None}
use Rattle.declarations.specs.Fault.{fault_text}
use Rattle.item_headers.specs.declared.errors.HeaderError.{HeaderError}
use Rattle.item_headers.specs.declared.errors.HeaderError.TheVariants as errors
use Rattle.proc_macro2.specs.Extent.{Extent}
use Rattle.proc_macro2.specs.IdentFault.{ident_message}
use Rattle.quoting.specs.Message.{quote_message}

-- the message of the error
abbrev pub header_message : HeaderError → List ℕ
header_message (errors.Fault fault) = fault_text fault
header_message (errors.Keyword error) = ident_message error
header_message (errors.Quote error) = quote_message error

-- the span of the error, if it is `Fault` and has one
abbrev pub header_span : HeaderError → Option Extent
header_span (errors.Fault fault) = fault.span
header_span (errors.Keyword error) = None
header_span (errors.Quote error) = None
