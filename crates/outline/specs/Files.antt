-- What the program writes of several files, and its status.
use Rattle.std.specs.Prelude.{ℕ, ◌≡◌, ◌⊎◌, List, [], ◌∷◌, ◌++◌, Option, map, max, string_bytes}
use Rattle.std.specs.Io.KnownBytes.{Appends}
use Rattle.outline.specs.Answer.{Lists}
use Rattle.outline.specs.Tags.{WritesTags, lines_text}
use Rattle.outline.specs.declared.files.Listed.{Listed}
use Rattle.outline.specs.declared.options.Form.{Form}
use Rattle.outline.specs.declared.options.Form.TheVariants.{Lines, Json, Ctags}

-- the lines of a file and its status
pub record Outcome : Type 0 where
  pub lines : List (List ℕ)
  pub status : ℕ

-- the program's record of a file, as its lines and its status
abbrev pub outcome_of : Listed → Outcome
outcome_of listed = record { lines = map string_bytes listed.lines.items; status = listed.status }

-- a file at this path has these lines and the status 0, or it has no lines and the status 1 or 2
abbrev pub IsOf : Form → List ℕ → Outcome → Type 0
IsOf form path outcome =
    ((outcome.status ≡ 0) × ((text : List ℕ) × Lists form path text outcome.lines))
    ⊎ ((outcome.lines ≡ []) × ((outcome.status ≡ 1) ⊎ (outcome.status ≡ 2)))

-- the files at these paths have these lines and statuses, in order
abbrev pub AreOf : Form → List (List ℕ) → List Outcome → Type 0
AreOf form [] [] = Unit {0}
AreOf form [] (outcome ∷ outcomes) = ⊥
AreOf form (path ∷ paths) [] = ⊥
AreOf form (path ∷ paths) (outcome ∷ outcomes) = IsOf form path outcome × AreOf form paths outcomes

-- the lines of all files, in order
abbrev pub all_lines : List Outcome → List (List ℕ)
all_lines [] = []
all_lines (outcome ∷ outcomes) = outcome.lines ++ all_lines outcomes

-- the greatest status
abbrev pub worst : List Outcome → ℕ
worst [] = 0
worst (outcome ∷ outcomes) = max outcome.status (worst outcomes)

-- the lines are written to the output: each with its end, or as a `tags` file
abbrev pub Writes : Form → List (List ℕ) → Option (List ℕ) → Option (List ℕ) → Type 0
Writes Lines lines old new = Appends old new (lines_text lines)
Writes Json lines old new = Appends old new (lines_text lines)
Writes Ctags lines old new = WritesTags lines old new
