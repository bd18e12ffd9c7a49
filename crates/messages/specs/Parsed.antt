-- The failures of a program that parses a text into a new map and writes a result.
use Rattle.std.specs.Prelude.{ℕ, ◌≡◌, ◌-◌, List, length, Option}
use Rattle.std.specs.Io.KnownBytes.{Keeps}
use Rattle.proc_macro2.specs.Files.{Fits, new_map, next_lo}
use Rattle.proc_macro2.specs.Parsing.{FaultAt}
use Rattle.proc_macro2.specs.CharOffset.{line_column}
use Rattle.proc_macro2.specs.declared.LineColumn.{LineColumn}
use Rattle.messages.specs.declared.errors.Failure.{Failure}
use Rattle.messages.specs.declared.errors.Failure.TheVariants.{Usage, Fault, NotUtf8, MapFull, Memory, Read, Write}

-- the position of the text's first character
abbrev pub first : ℕ
first = next_lo new_map

-- the line and column of a position in the text
abbrev pub line_column_of : List ℕ → ℕ → LineColumn
line_column_of text position = line_column text (position - first)

-- the program may fail in this way: at the text's fault or because the text is too long, before it wrote anything; or
-- because memory ran out or a write failed
abbrev pub MayFail : List ℕ → Option (List ℕ) → Option (List ℕ) → Failure → Type 0
MayFail text old new (Usage words) = ⊥
MayFail text old new (Fault start) =
    (position : ℕ) × FaultAt first text position × (start ≡ line_column_of text position) × Keeps old new
MayFail text old new (NotUtf8 byte) = ⊥
MayFail text old new MapFull = (Fits new_map (length text) → ⊥) × Keeps old new
MayFail text old new Memory = Unit {0}
MayFail text old new (Read error) = ⊥
MayFail text old new (Write error) = Unit {0}
