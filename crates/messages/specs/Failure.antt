-- The failure for each error, and the exit status of a program.
use Rattle.std.specs.Prelude.{ℕ, Bool, true, false, if◌then◌else◌, List, Option, Some, None, Result, Ok, Err}
use Rattle.std.specs.IoError.{error_kind}
use Rattle.std.specs.declared.io.Error.{Error}
use Rattle.std.specs.declared.io.ErrorKind.{ErrorKind}
use Rattle.std.specs.declared.io.ErrorKind.TheVariants.{BrokenPipe, OutOfMemory}
use Rattle.messages.specs.declared.errors.Failure.{Failure}
use Rattle.messages.specs.declared.errors.Failure.TheVariants.{Usage, Fault, NotUtf8, MapFull, Memory, Read, Write}

-- whether memory ran out
abbrev pub is_memory : ErrorKind → Bool
is_memory OutOfMemory = true
is_memory _ = false

-- whether nobody reads the pipe any more
abbrev pub is_closed : ErrorKind → Bool
is_closed BrokenPipe = true
is_closed _ = false

-- the failure for an error of a read
abbrev pub reading_failed : Error → Failure
reading_failed error = if is_memory (error_kind error) then Memory else Read error

-- the failure for an error of a write
abbrev pub writing_failed : Error → Failure
writing_failed error = if is_memory (error_kind error) then Memory else Write error

-- the usage line, if the failure has one
abbrev pub usage_of : Failure → Option (List ℕ)
usage_of (Usage text) = Some text.now
usage_of _ = None

-- the exit status after a failure: 1 for a fault of the text, and 2 for any other failure
abbrev pub failure_status : Failure → ℕ
failure_status (Usage words) = 2
failure_status (Fault start) = 1
failure_status (NotUtf8 byte) = 2
failure_status MapFull = 2
failure_status Memory = 2
failure_status (Read error) = 2
failure_status (Write error) = 2

-- the exit status of a program: 0 after success
abbrev pub status_of : Result Unit Failure → ℕ
status_of (Ok done) = 0
status_of (Err failure) = failure_status failure

-- the exit status that a run gives, or the one after its failure
abbrev pub exit_of : Result ℕ Failure → ℕ
exit_of (Ok status) = status
exit_of (Err failure) = failure_status failure
