-- The record for C of a text that doesn't parse.
use Rattle.std.proofs.Common.{◌≡◌, ℕ, List, length, sym, subst, refl, arith, inl}
use Rattle.std.specs.Str.{chars, IsUtf8}
use Rattle.explain.specs.Explained.{IsExplained}
use Rattle.explain.specs.declared.explained.Explained.{Explained}
use Rattle.explain.specs.declared.reason.Reason.{Reason}
use Rattle.explain.specs.declared.reason.Reason.TheVariants as reasons
use Rattle.proc_macro2.specs.Files.{Fits, new_map, next_lo}
use Rattle.pm_c.specs.Calls.{ExplainAnswer}
use Rattle.pm_c.specs.Reasons.{reason_number, explanation_record}
use Rattle.pm_c.specs.declared.records.PmExplanation.{PmExplanation}

-- no reason has the number 0, which means that there is no reason
positive : (reason : Reason) → reason_number reason ≡ 0 → ⊥
positive reasons.UnclosedComment e = omega (arith, e)
positive reasons.BareReturnInDoc e = omega (arith, e)
positive reasons.UnclosedString e = omega (arith, e)
positive reasons.UnclosedRawString e = omega (arith, e)
positive reasons.TooManyHashes e = omega (arith, e)
positive reasons.HashesWithoutQuote e = omega (arith, e)
positive reasons.ReservedRawName e = omega (arith, e)
positive reasons.UnclosedCharacter e = omega (arith, e)
positive (reasons.Content error) e = omega (arith, e)
positive reasons.DigitLifetime e = omega (arith, e)
positive reasons.HashAfterLifetime e = omega (arith, e)
positive reasons.NoDigits e = omega (arith, e)
positive reasons.BadDigit e = omega (arith, e)
positive reasons.BadNumberEnd e = omega (arith, e)
positive reasons.MisplacedMark e = omega (arith, e)
positive reasons.NoToken e = omega (arith, e)
positive reasons.StrayCloser e = omega (arith, e)
positive reasons.MismatchedCloser e = omega (arith, e)
positive reasons.UnclosedOpener e = omega (arith, e)

pub explains_answer : (bytes text : List ℕ) (x : Explained) (answer : PmExplanation) → text ≡ bytes → IsUtf8 bytes
    → IsExplained (next_lo new_map) (chars text) x → ((Fits new_map (length (chars text)) → ⊥) → ⊥)
    → answer ≡ explanation_record x → ExplainAnswer bytes answer
explains_answer bytes text x answer same utf8 holds fits explanation =
    subst (ExplainAnswer bytes) (sym explanation) (record {
      codes = inl refl;
      parses = λ done zero. absurd (positive x.reason zero);
      explanation = λ done some. record {
        explained = x;
        holds = subst (λ source. IsExplained (next_lo new_map) (chars source) x) same holds;
        explanation = refl;
      };
      not_utf8 = (λ e. absurd (omega (arith, e)), λ no. absurd (no utf8));
      map_full = (
        λ e. absurd (omega (arith, e)),
        λ over.
            absurd (fits (subst (λ source. Fits new_map (length (chars source)) → ⊥) (sym same) over.1)),
      );
    })
