-- The messages of the errors, their spans, and when they are equal.
use Rattle.std.specs.Prelude.{ℕ, Bool, ◌==◌, List, Option, Some, None, codes}
use Rattle.std.specs.Option.{option_eq}
use Rattle.std.specs.Ordering.{eq_of_both, on}
use Rattle.proc_macro2.specs.Extent.{Extent, extent_eq}
use Rattle.quoting.specs.declared.errors.QuoteError.{QuoteError}
use Rattle.proc_macro2.specs.Message.{fault_span, message}
use Rattle.proc_macro2.specs.declared.ParseError.TheVariants as parsing
use Rattle.quoting.specs.declared.errors.QuoteError.TheVariants.{NoneGroup, LoneQuote, Memory}
use Rattle.quoting.specs.declared.errors.TemplateError.{TemplateError}
use Rattle.quoting.specs.declared.errors.TemplateError.TheVariants.{NoHole, LoneList, NoList, UnequalLists}
use Rattle.quoting.specs.declared.errors.TemplateError.TheVariants.{NotIdent, NotFinite, TooDeep, Parse}
use Rattle.quoting.specs.declared.errors.TemplateError.TheVariants.{Memory as NoMemory}

-- the message of a quote's error
abbrev pub quote_message : QuoteError → List ℕ
quote_message NoneGroup = codes "a group has no delimiters"
quote_message LoneQuote = codes "no name and no literal follows a `'`"
quote_message (Memory error) = codes "no memory"

-- the message of a template's error
abbrev pub template_message : TemplateError → List ℕ
template_message (NoHole span) = codes "no hole of this name"
template_message (LoneList span) = codes "a list outside of a repetition"
template_message (NoList span) = codes "a repetition that names no list"
template_message (UnequalLists span) = codes "lists of different lengths"
template_message (NotIdent span) = codes "no name of an identifier"
template_message (NotFinite span) = codes "a float that is not finite"
template_message (TooDeep span) = codes "groups nested too deep"
template_message (Parse error) = message error
template_message (NoMemory error) = codes "no memory"

-- the span of the error, if it has one
abbrev pub template_span : TemplateError → Option Extent
template_span (NoHole span) = Some span
template_span (LoneList span) = Some span
template_span (NoList span) = Some span
template_span (UnequalLists span) = Some span
template_span (NotIdent span) = Some span
template_span (NotFinite span) = Some span
template_span (TooDeep span) = Some span
template_span (Parse error) = fault_span error
template_span (NoMemory error) = None

-- a number for the kind of the error. Each kind of parse error has its own
abbrev pub kind_of : TemplateError → ℕ
kind_of (NoHole span) = 0
kind_of (LoneList span) = 1
kind_of (NoList span) = 2
kind_of (UnequalLists span) = 3
kind_of (NotIdent span) = 4
kind_of (NotFinite span) = 10
kind_of (TooDeep span) = 5
kind_of (Parse (parsing.Lex error)) = 6
kind_of (Parse parsing.MapFull) = 7
kind_of (Parse (parsing.Memory error)) = 8
kind_of (NoMemory error) = 9

-- whether both errors are of one kind, with the same span or both without one
abbrev pub template_eq : TemplateError → TemplateError → Bool
template_eq = eq_of_both (on kind_of ◌==◌) (on template_span (option_eq extent_eq))
