-- What the program writes to standard error, and its exit status.
use Rattle.std.specs.Prelude.{ℕ, Bool, true, false, ◌&&◌, ◌==◌, List, [], Result, Ok, Err, if◌then◌else◌, nat_lt}
use Rattle.messages.specs.Failure.{failure_status}
use Rattle.messages.specs.Message.{message}
use Rattle.messages.specs.declared.errors.Failure.{Failure}
use Rattle.pretty.specs.Comments.{denial, note}

-- what is said of a text with this many plain comments: nothing if it has none, and otherwise that they are left out,
-- or would be lost if they are denied
abbrev pub comment_message : Bool → List ℕ → ℕ → List ℕ
comment_message deny path count = if count == 0 then [] else (if deny then denial path count else note count)

-- what is said of an outcome: what is said of the comments, or the message of the failure, with the system's reason if
-- there is one
abbrev pub messages_of : Bool → List ℕ → List ℕ → Result ℕ Failure → List ℕ
messages_of deny path reason (Ok count) = comment_message deny path count
messages_of deny path reason (Err failure) = message path reason failure

-- the exit status: 1 if comments are denied and there are some, 0 after any other success, or that of the failure
abbrev pub status_of : Bool → Result ℕ Failure → ℕ
status_of deny (Ok count) = if deny && nat_lt 0 count then 1 else 0
status_of deny (Err failure) = failure_status failure
