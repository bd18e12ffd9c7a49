-- What the program writes for a text, and its status.
use Rattle.std.specs.Prelude.{◌≡◌, ◌≤◌, ◌+◌, ◌^◌, ◌⊎◌, ℕ, Bool, true, false, List, [], ◌∷◌, ◌++◌, codes}
use Rattle.std.specs.Prelude.{decimal}
use Rattle.std.specs.Prelude.{length, Option, None, if◌then◌else◌}
use Rattle.std.specs.Io.KnownBytes.{Appends, Keeps}
use Rattle.std.specs.Str.{chars}
use Rattle.memchr.specs.Find.{FindsNeedle}
use Rattle.pm_span.specs.Extent.{Extent}
use Rattle.pm_span.specs.Files.{Files}
use Rattle.pm_span.specs.Lookup.{StartsAt}
use Rattle.pm_stream.specs.Forest.{Forest}
use Rattle.pm_stream.specs.Parsing.{ParsesTo}
use Rattle.proc_macro2.specs.declared.LineColumn.{LineColumn}
use Rattle.token_buffer.specs.Many.{HasManyTokens}
use Rattle.messages.specs.Parsed as parsed
use Rattle.messages.specs.Parsed.{first, line_column_of}
use Rattle.messages.specs.declared.errors.Failure.{Failure}
use Rattle.messages.specs.declared.errors.Failure.TheVariants.{MapFull}
use Rattle.find_calls.specs.Calls.{calls}

-- the line of a call, `FILE:L:C`, the line and the column from 1
abbrev pub line_of : List ℕ → LineColumn → List ℕ
line_of path start =
    path ++ (codes ":" ++ (decimal start.line ++ (codes ":" ++ (decimal (start.column + 1) ++ codes "\n"))))

-- where a span of the map starts is its line and column in the text
abbrev pub StartsIn : Files → List ℕ → Extent → Type 0
StartsIn map text span = (start : LineColumn) → StartsAt map span start → start ≡ line_column_of text span.lo

-- those of calls that stand here in the text
abbrev pub lines : List ℕ → List ℕ → List Extent → List ℕ
lines path text [] = []
lines path text (span ∷ spans) = line_of path (line_column_of text span.lo) ++ lines path text spans

-- whether there are any
abbrev pub are_some : List Extent → Bool
are_some [] = false
are_some (span ∷ spans) = true

-- what is written between old and new is the lines of the calls among the text's tokens, or nothing where the name's
-- bytes stand nowhere in the text; and the answer is whether there are calls
abbrev pub Writes : List ℕ → List ℕ → List ℕ → Option (List ℕ) → Option (List ℕ) → Bool → Type 0
Writes path name text old new found =
    (FindsNeedle text name 0 None × Keeps old new × (found ≡ false))
    ⊎ ((stream : Forest) × ParsesTo first (chars text) stream
    × Appends old new (lines path (chars text) (calls name stream)) × (found ≡ are_some (calls name stream)))

-- as each program that reads a text and writes what it finds, and since a text has too many bytes or tokens
abbrev pub MayFail : List ℕ → Option (List ℕ) → Option (List ℕ) → Failure → Type 0
MayFail text old new failure =
    parsed.MayFail (chars text) old new failure
    ⊎ ((failure ≡ MapFull) × Keeps old new × ((2 ^ 32 ≤ length text) ⊎ HasManyTokens first (chars text)))

-- 2 where a file failed, else 0 where a call was found, and 1 where none was
abbrev pub status_of : Bool → Bool → ℕ
status_of found failed = if failed then 2 else if found then 0 else 1
