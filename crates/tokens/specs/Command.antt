-- What the command line demands, its messages and its exit status.
use Rattle.std.specs.Prelude.{ℕ, List, [], ◌∷◌, ◌++◌, codes, decimal, nat_eq, if◌then◌else◌, Option, Some, None, Result}
use Rattle.std.specs.Prelude.{Ok, Err}
use lib.Pointwise.{pointwise}
use Rattle.proc_macro2.specs.declared.LineColumn.{LineColumn}
use Rattle.tokens.specs.declared.errors.RunError.{RunError}
use Rattle.tokens.specs.declared.errors.RunError.TheVariants.{Io, NotUtf8, MapFull, Lex, Memory}
use Rattle.tokens.specs.declared.mode.OutputMode.{OutputMode}
use Rattle.tokens.specs.declared.mode.OutputMode.TheVariants.{Print, Spans}

-- the mode of that name, if there is one
abbrev pub mode_named : List ℕ → Option OutputMode
mode_named word =
    if pointwise nat_eq word (codes "print") then Some Print
    else (if pointwise nat_eq word (codes "spans") then Some Spans else None)

-- the mode that the words demand, if they are one known word
abbrev pub mode_of : List (List ℕ) → Option OutputMode
mode_of [] = None
mode_of (word ∷ []) = mode_named word
mode_of (word ∷ next ∷ words) = None

-- the message if the words are wrong
abbrev pub usage : List ℕ
usage = codes "usage: tokens print|spans\n"

-- the message for a syntax error
abbrev pub fault_line : LineColumn → List ℕ
fault_line start = codes "fault " ++ (decimal start.line ++ (codes ":" ++ (decimal start.column ++ codes "\n")))

-- the message after a run
abbrev pub message : Result Unit RunError → List ℕ
message (Ok x) = []
message (Err Io) = codes "input or output failed\n"
message (Err NotUtf8) = codes "not utf-8\n"
message (Err MapFull) = codes "map full\n"
message (Err (Lex start)) = fault_line start
message (Err (Memory error)) = codes "no memory\n"

-- the exit status after a run
abbrev pub status : Result Unit RunError → ℕ
status (Ok x) = 0
status (Err Io) = 2
status (Err NotUtf8) = 2
status (Err MapFull) = 2
status (Err (Lex start)) = 1
status (Err (Memory error)) = 2
