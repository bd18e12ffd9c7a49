-- At most one reason holds of a text.
use Rattle.std.proofs.Common.{◌≡◌, ℕ, List, ◌++◌, ap, sym, ◌∙◌, inl, inr, subst}
use Rattle.literal_escaper.specs.declared.errors.EscapeError.{EscapeError}
use Rattle.explain.specs.Reason.{Holds}
use Rattle.explain.specs.declared.reason.Reason.{Reason}
use Rattle.explain.specs.declared.reason.Reason.TheVariants as reasons
use Rattle.explain.proofs.MainReason.{one_sort, sort, main_reason}
use Rattle.explain.proofs.NumberReasonLemmas.{bad_digit_reason, bad_end_reason, no_digits_reason}
use Rattle.explain.proofs.QuoteReasonLemmas.{bad_single_reason, digit_lifetime_reason, hash_after_reason}
use Rattle.explain.proofs.QuoteReasonLemmas.{reserved_reason}
use Rattle.explain.proofs.QuoteReasonLemmas.{unclosed_character_reason}
use Rattle.explain.proofs.TextReasonLemmas.{bad_raw_reason, bad_string_reason, bare_return_reason, misplaced_reason}
use Rattle.explain.proofs.TextReasonLemmas.{no_token_reason}
use Rattle.explain.proofs.TextReasonLemmas.{too_many_reason, unclosed_comment_reason, unclosed_raw_reason}
use Rattle.explain.proofs.TextReasonLemmas.{unclosed_string_reason}
use Rattle.explain.proofs.TextReasonLemmas.{without_quote_reason}
use Rattle.explain.proofs.OneContentLemmas.{one_content}

-- a reason that holds is of the sort that `main_reason` gives for the text
pub main_reason_is : (x : Reason) (f p r : List ℕ) → Holds x f p r → main_reason (f ++ (p ++ r)) ≡ sort x
main_reason_is reasons.UnclosedComment f p r is = unclosed_comment_reason f p r is.0 is.1
main_reason_is reasons.BareReturnInDoc f p r is = bare_return_reason f p r is
main_reason_is reasons.UnclosedString f p r is = unclosed_string_reason is.0 f p r is.1 is.2
main_reason_is reasons.UnclosedRawString f p r is = unclosed_raw_reason is.0 f p r is.1 is.2
main_reason_is reasons.TooManyHashes f p r is = too_many_reason is.0 f p r is.1 is.2
main_reason_is reasons.HashesWithoutQuote f p r is = without_quote_reason is.0 f p r is.1 is.2
main_reason_is reasons.ReservedRawName f p r is = reserved_reason f p r is
main_reason_is reasons.UnclosedCharacter f p r is = unclosed_character_reason f p r is.0 is.1
main_reason_is (reasons.Content e) f p r (inl is) = bad_string_reason is.0 e f p r is.1
main_reason_is (reasons.Content e) f p r (inr (inl is)) = bad_raw_reason is.0 e f p r is.1
main_reason_is (reasons.Content e) f p r (inr (inr is)) = bad_single_reason is.0 e f p r is.1
main_reason_is reasons.DigitLifetime f p r is = digit_lifetime_reason f p r is
main_reason_is reasons.HashAfterLifetime f p r is = hash_after_reason f p r is.0 is.1
main_reason_is reasons.NoDigits f p r is = no_digits_reason is.0 f p r is.1
main_reason_is reasons.BadDigit f p r is = bad_digit_reason is.0 f p r is.1
main_reason_is reasons.BadNumberEnd f p r is = bad_end_reason f p r is
main_reason_is reasons.MisplacedMark f p r is = misplaced_reason f p r is
main_reason_is reasons.NoToken f p r is = no_token_reason f p r is
main_reason_is reasons.StrayCloser f p r is = absurd is
main_reason_is reasons.MismatchedCloser f p r is = absurd is
main_reason_is reasons.UnclosedOpener f p r is = absurd is

-- two reasons that hold of the same text are of one sort
pub same_sort : (x y : Reason) (f p r g q s : List ℕ) → Holds x f p r → Holds y g q s → f ++ (p ++ r) ≡ g ++ (q ++ s)
    → sort x ≡ sort y
same_sort x y f p r g q s is other e =
    sym (main_reason_is x f p r is) ∙ (ap main_reason e ∙ main_reason_is y g q s other)

one_of_contents : (x y : Reason) (e o : EscapeError) (f p r g q s : List ℕ) → x ≡ reasons.Content e
    → y ≡ reasons.Content o → Holds x f p r → Holds y g q s → f ++ (p ++ r) ≡ g ++ (q ++ s) → x ≡ y
one_of_contents x y e o f p r g q s here there is other same =
    let bad : Holds (reasons.Content e) f p r = subst (λ z. Holds z f p r) here is in
    let also : Holds (reasons.Content o) g q s = subst (λ z. Holds z g q s) there other in
    here ∙ (ap reasons.Content (one_content e o f p r g q s bad also same) ∙ sym there)

-- at most one reason holds of a text
pub one_reason : (x y : Reason) (f p r g q s : List ℕ) → Holds x f p r → Holds y g q s
    → f ++ (p ++ r) ≡ g ++ (q ++ s) → x ≡ y
one_reason x y f p r g q s is other e = elim (one_sort x y (same_sort x y f p r g q s is other e)) [
  | inl same ↦ same
  | inr both ↦ one_of_contents x y both.0 both.1 f p r g q s both.2 both.3 is other e
]
