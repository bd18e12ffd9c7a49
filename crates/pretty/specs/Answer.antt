-- What the program writes for a text.
use Rattle.std.specs.Prelude.{ℕ, ◌≡◌, ◌&&◌, Bool, true, false, List, Option, nat_lt}
use Rattle.std.specs.Io.KnownBytes.{Appends, Keeps}
use Rattle.std.specs.Str.{encode_utf8_all}
use Rattle.lexical.specs.Cover.{IsCover}
use Rattle.lexical.specs.Piece.{Piece}
use Rattle.proc_macro2.specs.Forest.{Forest}
use Rattle.proc_macro2.specs.Parsing.{ParsesTo}
use Rattle.messages.specs.Parsed.{first}
use Rattle.layout.specs.Layout.{IsLayout}
use Rattle.quoting.specs.Joined.{joined}
use Rattle.relayout.specs.Comments.{IsCommented}
use Rattle.relayout.specs.Docs.{GivesDocs}
use Rattle.pretty.specs.Comments.{comments}
use Rattle.pretty.specs.Script.{code_of, script_line, with_line}

-- the text is a layout in which doc comments replace attributes, of the stream with some of its marks joined. It reads
-- back to this stream up to the spelling of doc literals
pub record IsPretty (stream : Forest) (text : List ℕ) : Type 0 where
  pub wants : List Bool
  pub laid : List ℕ
  pub layout : IsLayout (joined wants stream) laid
  pub commented : IsCommented true laid text
  pub back : (base : ℕ) → GivesDocs base text (joined wants stream)

-- a pretty text of the stream is appended to the output, after the first line of the script
abbrev pub WritesPretty : List ℕ → Forest → Option (List ℕ) → Option (List ℕ) → Type 0
WritesPretty line stream old new =
    (text : List ℕ) × IsPretty stream text × Appends old new (encode_utf8_all (with_line line text))

-- nothing is written if comments are denied; otherwise a pretty text of the stream
abbrev pub WritesUnless : Bool → List ℕ → Forest → Option (List ℕ) → Option (List ℕ) → Type 0
WritesUnless true line stream old new = Keeps old new
WritesUnless false line stream old new = WritesPretty line stream old new

-- the pretty text of the stream to which the code parses is written, after the first line of the script; nothing is
-- written if comments are denied and the code has some
pub record Writes (deny : Bool) (text : List ℕ) (count : ℕ) (old new : Option (List ℕ)) : Type 0 where
  pub pieces : List Piece
  pub covers : IsCover pieces (code_of text)
  pub counts : count ≡ comments pieces
  pub stream : Forest
  pub parses : ParsesTo first (code_of text) stream
  pub writes : WritesUnless (deny && nat_lt 0 count) (script_line text) stream old new
