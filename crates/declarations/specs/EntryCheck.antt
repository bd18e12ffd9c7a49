-- Lists whose entries must have known names, and no name twice.
use Rattle.std.specs.Prelude.{◌≡◌, ℕ, ◌<◌, ◌-◌, ◌==◌, ◌+◌, Bool, true, false, List, [], ◌∷◌, ◌++◌, codes, length}
use Rattle.std.specs.Prelude.{None, Option, Some, option_copied}
use Rattle.std.specs.Borrow.{Bor}
use Rattle.std.specs.Option.{option_eq}
use Rattle.std.specs.Ordering.{eq_of_both, on}
use Rattle.std.specs.List.{list_any, position_or_len}
use Rattle.pm_span.specs.Extent.{extent_eq}
use Rattle.pm_token.specs.Leaf.{Name}
use Rattle.pm_token.specs.Spelling.{spelled, spelling}
use Rattle.pm_stream.specs.declared.stream.TokenTree.{TokenTree}
use Rattle.declarations.specs.Attribute.{is_named}
use Rattle.declarations.specs.Entry.{IsEntryAt, entry_spot, sole_name}
use Rattle.declarations.specs.EntryList.{IsEntryListFault}
use Rattle.declarations.specs.Expected.{HasSigns}
use Rattle.declarations.specs.Fault.{message_at}
use Rattle.declarations.specs.List.{IsFirst}
use Rattle.declarations.specs.declared.entry.Entry.{Entry}
use Rattle.declarations.specs.declared.entry_check.EntryError.{EntryError}
use Rattle.declarations.specs.declared.entry_check.EntryProblem.{EntryProblem}
use Rattle.declarations.specs.declared.entry_check.EntryProblem.TheVariants as problems
use Rattle.declarations.specs.declared.fault.Fault.{Fault}

-- the names that entries may have
abbrev pub Names : Type 0
Names = List (Bor (List ℕ))

-- whether the entry's path is this one name
abbrev pub has_name : Entry → Bor (List ℕ) → Bool
has_name entry word = is_named entry.path.now (spelled word.now)

-- the position of the entry's name among the known names, or their number if it is not among them
abbrev pub place_of : Names → Entry → ℕ
place_of known entry = position_or_len (has_name entry) known

-- the entries before the left trees have known names, no two the same. Their positions are in the list, the last first
pub data HasNames (known : Names) (list : List TokenTree) : List ℕ → List TokenTree → Type 0 where
  none : HasNames known list [] list
  more : (places : List ℕ) (left next : List TokenTree) (entry : Entry) → HasNames known list places left
      → IsFirst IsEntryAt left entry next → place_of known entry < length known
      → list_any (λ place. place == place_of known entry) places ≡ false
      → HasNames known list (place_of known entry ∷ places) next

-- the left trees begin with no entry, or with one that neither `,` nor the end follows. The error is there, and has the
-- signs that could come there
pub record IsNoEntry (list left : List TokenTree) (error : EntryError) : Type 0 where
  pub fault : Fault
  pub stands : IsEntryListFault left fault
  pub counted : error.at ≡ length list - length left + fault.at
  pub span : error.span ≡ fault.span
  pub expected : error.expected ≡ fault.expected
  pub unnamed : error.name ≡ None

-- the error is just before the left trees, which begin with this entry. It has no expected signs
pub record StandsBefore (list left : List TokenTree) (entry : Entry) (error : EntryError) : Type 0 where
  pub counted : error.at ≡ length list - length left
  pub span : error.span ≡ entry_spot left entry
  pub expected : HasSigns error.expected (λ class. false) false

-- the error has the name of the entry, or none if the entry is a literal or has a longer path
abbrev pub NamesEntry : EntryError → Entry → Type 0
NamesEntry error entry = option_copied error.name ≡ sole_name entry.path.now

-- the left trees begin with an entry whose name is not known
pub record IsUnknown (known : Names) (list left : List TokenTree) (error : EntryError) : Type 0 where
  pub entry : Entry
  pub next : List TokenTree
  pub first : IsFirst IsEntryAt left entry next
  pub stands : StandsBefore list left entry error
  pub unknown : place_of known entry ≡ length known
  pub named : NamesEntry error entry

-- the left trees begin with an entry that has the name of an earlier entry
pub record IsRepeated (known : Names) (places : List ℕ) (list left : List TokenTree) (error : EntryError)
    : Type 0 where
  pub entry : Entry
  pub next : List TokenTree
  pub first : IsFirst IsEntryAt left entry next
  pub stands : StandsBefore list left entry error
  pub known_name : place_of known entry < length known
  pub before : list_any (λ place. place == place_of known entry) places ≡ true
  pub named : NamesEntry error entry

-- the left trees are wrong in the way that this kind of error says
abbrev pub IsWrong : EntryProblem → Names → List TokenTree → List ℕ → List TokenTree → EntryError → Type 0
IsWrong problems.NoEntry known list places left error = IsNoEntry list left error
IsWrong problems.Unknown known list places left error = IsUnknown known list left error
IsWrong problems.Repeated known list places left error = IsRepeated known places list left error

-- all entries before the error have known names, no two the same, and the trees after them are wrong as the error says
pub record IsEntryError (known : Names) (list : List TokenTree) (error : EntryError) : Type 0 where
  pub places : List ℕ
  pub left : List TokenTree
  pub names : HasNames known list places left
  pub wrong : IsWrong error.problem known list places left error
  pub kind_and_name : error.known.now ≡ known

-- ---- the messages of errors

-- a name in backticks
abbrev pub in_backticks : List ℕ → List ℕ
in_backticks text = codes "`" ++ text ++ codes "`"

-- a space and the name in backticks, or nothing
abbrev pub name_part : Option Name → List ℕ
name_part None = []
name_part (Some ident) = codes " " ++ in_backticks (spelling ident)

-- a comma and one more known name
abbrev pub next_known : List ℕ → List ℕ
next_known word = codes ", " ++ in_backticks word

-- more known names, each after a comma
abbrev pub more_known : Names → List ℕ
more_known [] = []
more_known (word ∷ words) = next_known word.now ++ more_known words

-- the end of the message, with the names that are known
abbrev pub known_part : Names → List ℕ
known_part [] = codes "; no names are known"
known_part (word ∷ words) = codes "; known are " ++ (in_backticks word.now ++ more_known words)

-- the message of an error of this kind. Where there is no entry, the message is the given one
abbrev pub problem_text : EntryProblem → List ℕ → Option Name → Names → List ℕ
problem_text problems.NoEntry missing name known = missing
problem_text problems.Unknown missing name known = codes "unknown entry" ++ (name_part name ++ known_part known)
problem_text problems.Repeated missing name known = codes "a second entry" ++ name_part name

-- the message of an error. Where there is no entry, it is that of a `Fault` with the same span and expected signs
abbrev pub error_text : EntryError → List ℕ
error_text error =
    problem_text error.problem (message_at error.span error.expected) (option_copied error.name) error.known.now

-- the number of an error's kind. No two kinds have the same number
abbrev pub number_of : EntryProblem → ℕ
number_of problems.NoEntry = 0
number_of problems.Unknown = 1
number_of problems.Repeated = 2

-- whether both errors have the same kind, the same number of trees before them, and the same span or none
abbrev pub entry_error_eq : EntryError → EntryError → Bool
entry_error_eq =
    eq_of_both (on (λ error. number_of error.problem) ◌==◌)
    (eq_of_both (on (λ error. error.at) ◌==◌) (on (λ error. error.span) (option_eq extent_eq)))
