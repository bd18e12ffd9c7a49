-- The laws of joining marks.
use Rattle.std.specs.Prelude.{ℕ, ◌≡◌, Bool, List, []}
use Rattle.layout.specs.Layout.{IsLayout}
use Rattle.layout.specs.Writing.{ReadsBack}
use Rattle.proc_macro2.specs.Forest.{Forest}
use Rattle.proc_macro2.specs.WellSpaced.{IsWellSpaced}
use Rattle.quoting.specs.Choice.{IsChoiceFor}
use Rattle.quoting.specs.Joined.{joined}
use Rattle.pretty_printer.specs.PrettyText.{IsPrettyText}

-- joining changes only spacings
abbrev pub OnlySpacing : Type 0
OnlySpacing = (wants : List Bool) (stream : Forest) → IsChoiceFor stream (joined wants stream)

-- joining again with the same answers changes nothing
abbrev pub JoinsOnce : Type 0
JoinsOnce = (wants : List Bool) (stream : Forest) → joined wants (joined wants stream) ≡ joined wants stream

-- a well spaced stream stays well spaced
abbrev pub StaysWellSpaced : Type 0
StaysWellSpaced = (wants : List Bool) (stream : Forest) → IsWellSpaced stream → IsWellSpaced (joined wants stream)

-- a stream is well spaced if it is when it is joined
abbrev pub WasWellSpaced : Type 0
WasWellSpaced = (wants : List Bool) (stream : Forest) → IsWellSpaced (joined wants stream) → IsWellSpaced stream

-- joining without an answer changes nothing
abbrev pub NothingWanted : Type 0
NothingWanted = (stream : Forest) → joined [] stream ≡ stream

-- the pretty text of a well spaced stream, whose marks are spaced as in this text, is a layout of it and reads back to
-- it
abbrev pub SpacedAsInItsText : Type 0
SpacedAsInItsText =
    (stream : Forest) (text : List ℕ) (pretty : IsPrettyText stream text) → IsWellSpaced stream
    → joined pretty.wants stream ≡ stream → IsLayout stream text × ReadsBack stream text
