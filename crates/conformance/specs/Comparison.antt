-- The result of comparing the lines.
use Rattle.std.specs.Prelude.{◌≡◌, ℕ, ◌<◌, List, [], ◌∷◌, ◌++◌, codes, length, Option, IfSome}
use Rattle.std.specs.List.{concat, filter_map}
use Rattle.std.specs.Io.BufRead.{DropsThrough, first_line}
use Rattle.std.specs.Io.Iter.{u64_saturate}
use Rattle.std.specs.Io.KnownBytes.{Appends}
use Rattle.conformance.specs.declared.lines.Tally.{Tally}

-- the report on a line: what the library answers instead, or that the line is no recorded answer
pub data IsReport (line report : List ℕ) : Type 0 where
  by_answer :
      (here : List ℕ) → report ≡ codes "differs: " ++ (line ++ (codes "\nhere: " ++ (here ++ codes "\n")))
      → IsReport line report
  by_form : report ≡ codes "no recorded answer: " ++ (line ++ codes "\n") → IsReport line report

-- the first line of the known bytes has this verdict, its report or none, and the others are left
pub record IsJudged (known : Option (List ℕ)) (verdict : Option (List ℕ)) (left : Option (List ℕ)) : Type 0 where
  pub line : List ℕ
  pub first : IfSome known (λ bytes. (0 < length bytes) × (line ≡ first_line bytes))
  pub rest : DropsThrough known left 10
  pub report : IfSome verdict (IsReport line)

-- the lines of the known bytes have these verdicts, in order, up to those that are left
abbrev pub AreJudged : Option (List ℕ) → List (Option (List ℕ)) → Option (List ℕ) → Type 0
AreJudged known [] left = left ≡ known
AreJudged known (verdict ∷ others) left =
    (next : Option (List ℕ)) × IsJudged known verdict next × AreJudged next others left

-- the reports among the verdicts
abbrev pub reports : List (Option (List ℕ)) → List (List ℕ)
reports verdicts = filter_map (λ verdict. verdict) verdicts

-- each line before those that are left has one verdict. All lines are counted, and the reports are written one after
-- another
pub record IsComparison (known left : Option (List ℕ)) (tally : Tally) (old new : Option (List ℕ)) : Type 0 where
  pub verdicts : List (Option (List ℕ))
  pub lines : AreJudged known verdicts left
  pub answers : tally.answers ≡ u64_saturate (length verdicts)
  pub differences : tally.differences ≡ u64_saturate (length (reports verdicts))
  pub written : Appends old new (concat (reports verdicts))
