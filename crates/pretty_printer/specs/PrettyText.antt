-- The pretty text of a stream.
use Rattle.std.specs.Prelude.{ℕ, Bool, List}
use Rattle.layout.specs.Layout.{IsLayout}
use Rattle.layout.specs.Writing.{ReadsBack}
use Rattle.proc_macro2.specs.Forest.{Forest}
use Rattle.proc_macro2.specs.WellSpaced.{IsWellSpaced}
use Rattle.quoting.specs.Respaced.{respace_marks}
use Rattle.quoting.specs.Joined.{joined}

-- the text is a layout of the stream in which some marks are joined, and reads back to it
pub record IsJoinedLayout (stream : Forest) (text : List ℕ) : Type 0 where
  pub wants : List Bool
  pub layout : IsLayout (joined wants stream) text
  pub back : ReadsBack (joined wants stream) text

-- the text is a layout of the respaced stream in which some marks are joined, and reads back to it. A well spaced
-- stream need not be respaced
pub record IsPrettyText (stream : Forest) (text : List ℕ) : Type 0 where
  pub wants : List Bool
  pub layout : IsLayout (joined wants (respace_marks stream)) text
  pub back : ReadsBack (joined wants (respace_marks stream)) text
  pub unchanged : IsWellSpaced stream → IsLayout (joined wants stream) text × ReadsBack (joined wants stream) text
