-- The laws about layouts.
use Rattle.std.specs.Prelude.{ℕ, List}
use Rattle.pm_stream.specs.Forest.{Forest, IsBuilt}
use Rattle.pm_stream.specs.Printed.{printed}
use Rattle.pm_stream.specs.WellSpaced.{IsWellSpaced}
use Rattle.proc_macro2.specs.Laws.{Gives}
use Rattle.layout.specs.Layout.{IsLayout}

-- each layout of a built, well-spaced stream reads back to it
abbrev pub LayoutsComeBack : Type 0
LayoutsComeBack = (base : ℕ) (stream : Forest) (text : List ℕ) → IsBuilt stream → IsWellSpaced stream
    → IsLayout stream text → Gives base text stream

-- the printed text of a built, well-spaced stream is one of its layouts
abbrev pub PrintedIsLayout : Type 0
PrintedIsLayout = (stream : Forest) → IsBuilt stream → IsWellSpaced stream → IsLayout stream (printed stream)
