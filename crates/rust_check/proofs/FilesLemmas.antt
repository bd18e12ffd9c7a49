-- Several files, checked one after the other.
use Rattle.std.proofs.Common.{◌≡◌, ◌∙◌, ℕ, ◌+◌, ◌<◌, ◌≤◌, Bool, true, false, List, [], ◌∷◌, Option}
use Rattle.std.proofs.Common.{Ok, Err, refl, ap, arith, subst, sym}
use Rattle.std.proofs.Common.{drop, get_or, length, map, IfOk, string_bytes, String}
use Rattle.std.specs.declared.alloc.Global.{Global}
use Rattle.std.proofs.Math.ListN.{drop_of_length-le}
use Rattle.std.proofs.lemmas.List.{drop_more}
use Rattle.rust_check.specs.Answer.{TellsAll}
use Rattle.rust_check.specs.Files.{AllReport, Outcome, count_outcome}
use Rattle.rust_check.specs.declared.options.Form.{Form}
use Rattle.rust_check.specs.declared.tally.Tally.{Tally}

-- if the file was read, everything found in it is written
abbrev pub Reports : Form → Bool → List ℕ → Outcome → Option (List ℕ) → Option (List ℕ) → Type 0
Reports form hidden path outcome old new =
    IfOk outcome (λ faulty. (text : List ℕ) × TellsAll form hidden path text old new faulty)

report_cons : (form : Form) (hidden : Bool) (path : List ℕ) (paths : List (List ℕ)) (outcome : Outcome)
    (more : List Outcome) (old between new : Option (List ℕ))
    → Reports form hidden path outcome old between → AllReport form hidden paths more between new
    → AllReport form hidden (path ∷ paths) (outcome ∷ more) old new
report_cons form hidden path paths (Ok faulty) more old between new report rest = (report.0, between, report.1, rest)
report_cons form hidden path paths (Err failure) more old between new report rest = (between, rest)

-- the outcome of one file, before those of the files that are left
pub report_one : (form : Form) (hidden : Bool) (paths : List (String Global)) (k : ℕ) (path : String Global)
    (outcome : Outcome) (more : List Outcome) (old between new : Option (List ℕ))
    → k < length paths → path ≡ get_or paths k path
    → Reports form hidden (string_bytes path) outcome old between
    → AllReport form hidden (map string_bytes (drop (k + 1) paths)) more between new
    → AllReport form hidden (map string_bytes (drop k paths)) (outcome ∷ more) old new
report_one form hidden paths k path outcome more old between new within is report rest =
    let split : drop k paths ≡ path ∷ drop (k + 1) paths =
    drop_more paths k path within ∙ ap (λ x. x ∷ drop (k + 1) paths) (sym is) in
    subst (λ l. AllReport form hidden (map string_bytes l) (outcome ∷ more) old new) (sym split)
    (report_cons form hidden (string_bytes path) _ outcome more old between new report rest)

-- no files are left once the index is past the last
pub report_none : (form : Form) (hidden : Bool) (paths : List (String Global)) (k : ℕ) (known : Option (List ℕ))
    → length paths ≤ k → AllReport form hidden (map string_bytes (drop k paths)) [] known known
report_none form hidden paths k known past =
    subst (λ l. AllReport form hidden (map string_bytes l) [] known known) (sym (drop_of_length-le paths past)) refl

-- one outcome adds at most 1 to each count
pub counted_most : (tally : Tally) (outcome : Outcome) (most : ℕ) → tally.faulty ≤ most → tally.unread ≤ most
    → ((count_outcome tally outcome).faulty ≤ most + 1) × ((count_outcome tally outcome).unread ≤ most + 1)
counted_most tally (Ok true) most f u = (omega arith, omega arith)
counted_most tally (Ok false) most f u = (omega arith, omega arith)
counted_most tally (Err failure) most f u = (omega arith, omega arith)
