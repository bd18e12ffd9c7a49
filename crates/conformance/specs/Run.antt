-- The result of a run of the program.
use Rattle.std.specs.Prelude.{◌≡◌, ℕ, ◌==◌, if◌then◌else◌, List, ◌++◌, codes, decimal, Option}
use Rattle.std.specs.Io.KnownBytes.{Appends, IsAtEnd}
use Rattle.conformance.specs.declared.lines.Tally.{Tally}
use Rattle.conformance.specs.Comparison.{IsComparison}

-- the text that is written for a tally
abbrev pub tally_text : Tally → List ℕ
tally_text tally =
    decimal tally.answers ++ (codes " answers, " ++ (decimal tally.differences ++ codes " differences\n"))

-- all lines were compared, the numbers are written after the reports, and the exit status is 1 exactly if a line
-- differs
pub record IsRun (known : Option (List ℕ)) (status : ℕ) (old new : Option (List ℕ)) : Type 0 where
  pub tally : Tally
  pub left : Option (List ℕ)
  pub reported : Option (List ℕ)
  pub comparison : IsComparison known left tally old reported
  pub at_end : IsAtEnd left
  pub numbers : Appends reported new (tally_text tally)
  pub failure : status ≡ (if tally.differences == 0 then 0 else 1)
