-- A text with its lines indented.
use Rattle.std.specs.Prelude.{ℕ, List, Option}
use Rattle.std.specs.Io.KnownBytes.{Appends}
use Rattle.std.specs.List.{All}
use Rattle.std.specs.Str.{encode_utf8_all}
use Rattle.relayout.specs.Relaid.{IsRelaid}
use Rattle.relayout.specs.declared.white.White.{White}
use Rattle.relayout.specs.declared.white.White.TheVariants.{Kept, Space, Lines}

-- the choice keeps each line end, and all white space except at the starts and ends of lines
abbrev pub KeepsLines : White → Type 0
KeepsLines Kept = Unit {0}
KeepsLines Space = ⊥
KeepsLines (Lines tabs spaces) = Unit {0}

-- the text is the source with such choices for its white space: it has the same pieces except for white characters, and
-- the same tokens up to spans
abbrev pub IsIndented : List ℕ → List ℕ → Type 0
IsIndented source text = (choices : List White) × All KeepsLines choices × IsRelaid choices source text

-- the source with its lines indented is appended to the output
abbrev pub Writes : List ℕ → Option (List ℕ) → Option (List ℕ) → Type 0
Writes source old new = (text : List ℕ) × IsIndented source text × Appends old new (encode_utf8_all text)
