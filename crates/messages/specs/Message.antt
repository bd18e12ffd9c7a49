-- The error messages.
use Rattle.std.specs.Prelude.{ℕ, ◌+◌, List, [], ◌++◌, codes, decimal, if◌then◌else◌}
use Rattle.std.specs.IoError.{error_kind}
use Rattle.proc_macro2.specs.declared.LineColumn.{LineColumn}
use Rattle.messages.specs.Failure.{is_closed}
use Rattle.messages.specs.declared.errors.Failure.{Failure}
use Rattle.messages.specs.declared.errors.Failure.TheVariants.{Usage, Fault, NotUtf8, MapFull, Memory, Read, Write}

-- `FILE:L:C: error: what`, the line and the column from 1
abbrev pub at_line_column : List ℕ → LineColumn → List ℕ → List ℕ
at_line_column path start what =
    path ++ (
    codes ":" ++ (decimal start.line ++ (codes ":" ++ (decimal (start.column + 1) ++ (codes ": error: " ++ what))))
    )

-- `FILE: error: what`
abbrev pub of_file : List ℕ → List ℕ → List ℕ
of_file path what = path ++ (codes ": error: " ++ what)

-- the message for a failure of a program that reads the file at this path, with the system's reason if there is one. It
-- is empty if nobody reads the output any more
abbrev pub message : List ℕ → List ℕ → Failure → List ℕ
message path reason (Usage words) = codes "usage: " ++ (words.now ++ codes "\n")
message path reason (Fault start) =
    at_line_column path start (codes "no token stands here, or a delimiter has no match\n")
message path reason (NotUtf8 byte) = of_file path (codes "not UTF-8 at byte " ++ (decimal byte ++ codes "\n"))
message path reason MapFull = of_file path (codes "the text is too long\n")
message path reason Memory = of_file path (codes "out of memory\n")
message path reason (Read error) = of_file path (codes "cannot read: " ++ (reason ++ codes "\n"))
message path reason (Write error) =
    if is_closed (error_kind error) then []
    else of_file (codes "standard output") (codes "cannot write: " ++ (reason ++ codes "\n"))
