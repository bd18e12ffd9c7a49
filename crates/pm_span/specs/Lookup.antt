-- Look-ups of a span that a map holds. Exactly one file has all positions of the span.
use Rattle.std.specs.Prelude.{ℕ, ◌+◌, ◌-◌, ◌≤◌, ◌≡◌, List, length, min, max}
use Rattle.std.specs.declared.ops.Range.{Range}
use Rattle.pm_span.specs.Extent.{Extent}
use Rattle.pm_span.specs.Files.{Files, IsFile, Holds, file_name}
use Rattle.pm_span.specs.CharOffset.{line_column, byte_offset, between}
use Rattle.pm_span.specs.declared.location.LineColumn.{LineColumn}

-- `line`, `column`: whether the span begins at this line and column of its file
abbrev pub StartsAt : Files → Extent → LineColumn → Type 0
StartsAt map span start =
    (text : List ℕ) (lo : ℕ) → IsFile map text lo → lo ≤ span.lo → span.hi ≤ lo + length text
    → start ≡ line_column text (span.lo - lo)

-- `line`, `column`: whether the span ends at this line and column of its file
abbrev pub EndsAt : Files → Extent → LineColumn → Type 0
EndsAt map span end =
    (text : List ℕ) (lo : ℕ) → IsFile map text lo → lo ≤ span.lo → span.hi ≤ lo + length text
    → end ≡ line_column text (span.hi - lo)

-- `byte-offset`: whether the span begins and ends at these byte offsets of its file
abbrev pub HasBytes : Files → Extent → Range ℕ → Type 0
HasBytes map span bytes =
    (text : List ℕ) (lo : ℕ) → IsFile map text lo → lo ≤ span.lo → span.hi ≤ lo + length text
    → bytes ≡ record { start = byte_offset text (span.lo - lo); end = byte_offset text (span.hi - lo) }

-- `source-text`: whether this is the part of its file's text that the span covers
abbrev pub HasText : Files → Extent → List ℕ → Type 0
HasText map span source =
    (text : List ℕ) (lo : ℕ) → IsFile map text lo → lo ≤ span.lo → span.hi ≤ lo + length text
    → source ≡ between text (span.lo - lo) (span.hi - lo)

-- `file-name`: whether this is the name of the span's file
abbrev pub HasName : Files → Extent → List ℕ → Type 0
HasName map span name =
    (text : List ℕ) (lo : ℕ) (file : IsFile map text lo) → lo ≤ span.lo → span.hi ≤ lo + length text
    → name ≡ file_name (length file.before)

-- `source-text`: whether some file of the map has the span, and this is the text that the span covers there
pub record IsTextOf (map : Files) (span : Extent) (source : List ℕ) : Type 0 where
  pub held : Holds map span
  pub value : source ≡ between held.text (span.lo - held.lo) (span.hi - held.lo)

-- whether one file of the map has both spans
pub record AreInOneFile (map : Files) (first second : Extent) : Type 0 where
  pub text : List ℕ
  pub lo : ℕ
  pub file : IsFile map text lo
  pub first_from : lo ≤ first.lo
  pub first_to : first.hi ≤ lo + length text
  pub second_from : lo ≤ second.lo
  pub second_to : second.hi ≤ lo + length text

-- `join`: the smallest span that covers both
abbrev pub covering_span : Extent → Extent → Extent
covering_span first second = record { lo = min first.lo second.lo; hi = max first.hi second.hi }
