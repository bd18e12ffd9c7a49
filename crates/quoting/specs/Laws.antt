-- The laws of respacing.
use Rattle.std.specs.Prelude.{◌≡◌, Some, None}
use Rattle.proc_macro2.specs.Forest.{Forest}
use Rattle.proc_macro2.specs.WellSpaced.{IsWellSpaced}
use Rattle.quoting.specs.Choice.{IsChoiceFor, IsHopeless, KeepsAllItMay}
use Rattle.quoting.specs.Fault.{first_fault}
use Rattle.quoting.specs.Respaced.{respace_marks}
use Rattle.quoting.specs.declared.errors.QuoteError.{QuoteError}

-- a respaced stream without a `first-fault` is well spaced
abbrev pub WellSpacedWithoutFault : Type 0
WellSpacedWithoutFault = (stream : Forest) → first_fault stream ≡ None → IsWellSpaced (respace_marks stream)

-- no choice of spacings makes a stream with a `first-fault` well spaced
abbrev pub AFaultIsHopeless : Type 0
AFaultIsHopeless = (stream : Forest) (fault : QuoteError) → first_fault stream ≡ Some fault → IsHopeless stream

-- respacing changes only spacings
abbrev pub OnlySpacing : Type 0
OnlySpacing = (stream : Forest) → IsChoiceFor stream (respace_marks stream)

-- a mark keeps its spacing if some well spaced choice of spacings keeps it
abbrev pub KeepsWhatItMay : Type 0
KeepsWhatItMay = (stream : Forest) → KeepsAllItMay stream (respace_marks stream)

-- respacing does not change a well spaced stream
abbrev pub NothingToDo : Type 0
NothingToDo = (stream : Forest) → IsWellSpaced stream → respace_marks stream ≡ stream
