-- The message and the kind of the error.
use Rattle.std.specs.Prelude.{ℕ, List, codes}
use Rattle.std.specs.IoError.{error_kind}
use Rattle.layout.specs.declared.errors.Kind.{Kind}
use Rattle.layout.specs.declared.errors.Kind.TheVariants as kinds
use Rattle.layout.specs.declared.errors.LayoutError.{LayoutError}
use Rattle.layout.specs.declared.errors.LayoutError.TheVariants.{NotWellSpaced, Memory, Write}

-- the message of the error
abbrev pub message : LayoutError → List ℕ
message NotWellSpaced = codes "no text parses back to this stream"
message (Memory error) = codes "no memory"
message (Write error) = codes "cannot write the text"

-- the kind of the error, which includes the kind of a writer's error
abbrev pub kind_of : LayoutError → Kind
kind_of NotWellSpaced = kinds.NotWellSpaced
kind_of (Memory error) = kinds.Memory
kind_of (Write error) = kinds.Write (error_kind error)
