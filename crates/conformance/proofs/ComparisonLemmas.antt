-- The result of a comparison, line by line.
use Rattle.std.proofs.Common.{◌≡◌, ℕ, ◌+◌, List, [], ◌∷◌, ◌++◌, length, Option, Some, None}
use Rattle.std.proofs.Common.{refl, ap, subst, length-append, arith}
use Rattle.std.specs.List.{concat}
use Rattle.std.specs.Option.{option_to_list}
use Rattle.std.specs.Io.Iter.{u64_saturate}
use Rattle.std.specs.Io.KnownBytes.{Appends}
use Rattle.std.proofs.KnownBytes.{Appends-trans}
use Rattle.std.proofs.lemmas.List.Folds.{concat-append}
use Rattle.conformance.specs.declared.lines.Tally.{Tally}
use Rattle.conformance.specs.Comparison.{AreJudged, IsJudged, IsComparison, reports}

AreJudged-more : (known : Option (List ℕ)) (verdicts : List (Option (List ℕ))) (verdict left next : Option (List ℕ))
    → AreJudged known verdicts left → IsJudged left verdict next → AreJudged known (verdicts ++ verdict ∷ []) next
AreJudged-more known [] verdict left next is one =
    let Judged : Option (List ℕ) → Type 0 = λ l. IsJudged l verdict next in (next, subst Judged is one, refl)
AreJudged-more known (first ∷ verdicts) verdict left next (mid, judged, others) one =
    (mid, judged, AreJudged-more mid verdicts verdict left next others one)

reports-more : (verdicts : List (Option (List ℕ))) (verdict : Option (List ℕ))
    → reports (verdicts ++ verdict ∷ []) ≡ reports verdicts ++ option_to_list verdict
reports-more [] None = refl
reports-more [] (Some report) = refl
reports-more (None ∷ verdicts) verdict = reports-more verdicts verdict
reports-more (Some report ∷ verdicts) verdict = ap (λ l. report ∷ l) (reports-more verdicts verdict)

-- one more line is judged: the line is counted, and its report is counted and written
pub IsComparison-more : (known left next : Option (List ℕ)) (tally new_tally : Tally)
    (old mid new verdict : Option (List ℕ))
    → IsComparison known left tally old mid → IsJudged left verdict next
    → new_tally.answers ≡ u64_saturate (tally.answers + 1)
    → new_tally.differences ≡ u64_saturate (tally.differences + length (option_to_list verdict))
    → Appends mid new (concat (option_to_list verdict)) → IsComparison known next new_tally old new
IsComparison-more known left next tally new_tally old mid new verdict so one answers differences writes =
    let more = reports-more so.verdicts verdict in
    let longer = length-append (reports so.verdicts) (option_to_list verdict) in
    record {
      verdicts = so.verdicts ++ verdict ∷ [];
      lines = AreJudged-more known so.verdicts verdict left next so.lines one;
      answers = omega (arith, answers, so.answers, length-append so.verdicts (verdict ∷ []));
      differences = rw more (omega (arith, differences, so.differences, longer));
      written = rw (more, concat-append) (Appends-trans old mid new _ _ so.written writes);
    }
