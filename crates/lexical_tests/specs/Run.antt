-- The result of a run of the program.
use Rattle.std.specs.Prelude.{◌≡◌, ℕ, ◌==◌, if◌then◌else◌, List, ◌++◌, codes, decimal, Option}
use Rattle.std.specs.Io.KnownBytes.{Appends}
use Rattle.lexical_tests.specs.declared.tally.Tally.{Tally}

-- the text that is written for a tally
abbrev pub tally_text : Tally → List ℕ
tally_text tally =
    decimal tally.texts ++ (codes " texts, " ++ (decimal tally.comparisons ++ (codes " comparisons: "
    ++ (decimal tally.differ ++ codes " differ\n"))))

-- the numbers are written last, and the exit status is 0 exactly if no difference was counted
pub record IsRun (status : ℕ) (new : Option (List ℕ)) : Type 0 where
  pub tally : Tally
  pub lines : Option (List ℕ)
  pub numbers : Appends lines new (tally_text tally)
  pub failure : status ≡ (if tally.differ == 0 then 0 else 1)
