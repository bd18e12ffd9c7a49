-- What the program writes for several files, and its status.
use Rattle.std.specs.Prelude.{ℕ, ◌≡◌, ◌+◌, ◌==◌, Bool, true, false, List, [], ◌∷◌, ◌++◌, Option, Result, Ok, Err}
use Rattle.std.specs.Prelude.{codes, decimal}
use Rattle.std.specs.Prelude.{if◌then◌else◌}
use Rattle.messages.specs.declared.errors.Failure.{Failure}
use Rattle.rust_check.specs.Answer.{TellsAll}
use Rattle.rust_check.specs.declared.options.Form.{Form}
use Rattle.rust_check.specs.declared.tally.Tally.{Tally}

-- how the check of a file ended: whether its text has an error, or why it was not read
abbrev pub Outcome : Type 0
Outcome = Result Bool Failure

-- the files are checked in order and have these outcomes; for each file that was read, everything found is written
abbrev pub AllReport : Form → Bool → List (List ℕ) → List Outcome → Option (List ℕ) → Option (List ℕ) → Type 0
AllReport form hidden [] [] old new = old ≡ new
AllReport form hidden [] (outcome ∷ outcomes) old new = ⊥
AllReport form hidden (path ∷ paths) [] old new = ⊥
AllReport form hidden (path ∷ paths) (Ok faulty ∷ outcomes) old new =
    (text : List ℕ) × (between : Option (List ℕ)) × TellsAll form hidden path text old between faulty
    × AllReport form hidden paths outcomes between new
AllReport form hidden (path ∷ paths) (Err failure ∷ outcomes) old new =
    (between : Option (List ℕ)) × AllReport form hidden paths outcomes between new

-- the counts with one more outcome
abbrev pub count_outcome : Tally → Outcome → Tally
count_outcome tally (Ok true) = record { faulty = tally.faulty + 1; unread = tally.unread }
count_outcome tally (Ok false) = tally
count_outcome tally (Err failure) = record { faulty = tally.faulty; unread = tally.unread + 1 }

abbrev pub all_counted : Tally → List Outcome → Tally
all_counted tally [] = tally
all_counted tally (outcome ∷ outcomes) = all_counted (count_outcome tally outcome) outcomes

abbrev pub nothing : Tally
nothing = record { faulty = 0; unread = 0 }

-- the exit status: 2 if a file was not read, else 1 if a text has an error, else 0
abbrev pub status_of : Tally → ℕ
status_of tally = if tally.unread == 0 then (if tally.faulty == 0 then 0 else 1) else 2

-- the line below the messages of `files` files
abbrev pub summary : ℕ → Tally → List ℕ
summary files tally =
    decimal files ++ (codes " files, " ++ (decimal tally.faulty ++ (codes " with a fault, "
    ++ (decimal tally.unread ++ codes " not read\n"))))
