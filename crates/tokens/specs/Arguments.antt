-- The words of the command line.
use Rattle.std.specs.Prelude.{ℕ, Bool, true, false, List, [], drop, map, if◌then◌else◌, Result, Ok, Err, String}
use Rattle.std.specs.Prelude.{string_bytes, alloc_error}
use Rattle.std.specs.IoError.{error_kind}
use Rattle.std.specs.Vec.Iter.{into_iter_items}
use Rattle.std.specs.declared.alloc.AllocError.{AllocError}
use Rattle.std.specs.declared.alloc.Global.{Global}
use Rattle.std.specs.declared.io.Error.{Error}
use Rattle.std.specs.declared.io.ErrorKind.{ErrorKind}
use Rattle.std.specs.declared.io.ErrorKind.TheVariants.{InvalidData}
use Rattle.std.specs.declared.vec.IntoIter.{IntoIter}

-- the program's arguments, its name first
abbrev pub Arguments : Type 0
Arguments = IntoIter (String Global) Global

-- whether the reason why there are no arguments is that one of them isn't text
abbrev pub is_no_text : ErrorKind → Bool
is_no_text InvalidData = true
is_no_text _ = false

-- the words after the program's name, none if an argument isn't text; an error means that there was no memory for the
-- arguments
abbrev pub words : Result Arguments Error → Result (List (List ℕ)) AllocError
words (Ok arguments) = Ok (map string_bytes (drop 1 (into_iter_items arguments)))
words (Err error) = if is_no_text (error_kind error) then Ok [] else Err alloc_error
