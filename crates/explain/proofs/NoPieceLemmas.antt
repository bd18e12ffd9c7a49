-- Where a reason holds, no piece begins.
use Rattle.std.proofs.Common.{◌≡◌, ℕ, Bool, true, false, ◌==◌, List, [], ◌∷◌, ◌++◌, Some, None, inl, inr, refl}
use Rattle.std.proofs.Common.{sym, ap, ◌∙◌, eqb-true}
use Rattle.std.proofs.lemmas.Bool.{both_ways, cond-false, false_from_ne_true, not-true, or_parts}
use Rattle.lexical.specs.Class.{is_white, is_ident_start}
use Rattle.lexical.specs.Finder.{Answer}
use Rattle.lexical.specs.Mark.{is_mark}
use Rattle.lexical.specs.Piece.{FrontMark, IsPiece, Kind}
use Rattle.lexical.specs.PieceFinder.{Found, find_front_mark, find_piece, front_mark_kind, piece_start, and_kind}
use Rattle.lexical.specs.Rule.{One, Exactly}
use Rattle.lexical.specs.declared.class.PieceStart.TheVariants as starts
use Rattle.lexical.proofs.AnswerLemmas.{at_start}
use Rattle.lexical.proofs.ClassLemmas.{start_front_mark}
use Rattle.lexical.proofs.PieceLemmas.{found_complete}
use Rattle.explain.specs.Reason.{Begins, Holds}
use Rattle.explain.specs.Shapes.{begins_nothing}
use Rattle.explain.specs.declared.reason.Reason.{Reason}
use Rattle.explain.specs.declared.reason.Reason.TheVariants as reasons
use Rattle.explain.proofs.TextReasonLemmas.{at_front}
use Rattle.explain.proofs.UnfoundLemmas.{bad_digit_unfound, bad_end_unfound, bare_return_unfound, no_digits_unfound}
use Rattle.explain.proofs.UnfoundLemmas.{unclosed_comment_unfound}
use Rattle.explain.proofs.UnfoundQuoteLemmas.{bad_single_unfound, digit_lifetime_unfound, hash_after_unfound}
use Rattle.explain.proofs.UnfoundQuoteLemmas.{reserved_unfound, unclosed_character_unfound}
use Rattle.explain.proofs.UnfoundStringLemmas.{bad_raw_unfound, bad_string_unfound, too_many_unfound}
use Rattle.explain.proofs.UnfoundStringLemmas.{unclosed_raw_unfound}
use Rattle.explain.proofs.UnfoundStringLemmas.{unclosed_string_unfound, without_quote_unfound}

-- ---- a character with which no piece begins

other_start : (c : ℕ) → begins_nothing c ≡ true → piece_start c ≡ starts.Other
other_start c is =
    let all = or_parts _ (c == 0xFEFF) (not-true _ is) in
    let quote = or_parts _ (c == 34) all.0 in
    let mark = or_parts _ (is_mark c) quote.0 in
    let closer = or_parts _ _ mark.0 in
    let opener = or_parts _ _ closer.0 in
    let digit = or_parts _ _ opener.0 in
    let name = or_parts (is_white c) (is_ident_start c) digit.0 in
    let other : (k : ℕ) → is_mark k ≡ true → (c == k) ≡ false = λ k of. false_from_ne_true _ (λ same.
    both_ways _ mark.1 (ap is_mark (eqb-true c k same) ∙ of)) in
    cond-false _ _ _ name.0
    ∙ (cond-false _ _ _ name.1
    ∙ (cond-false _ _ _ digit.1
    ∙ (cond-false _ _ _ opener.1
    ∙ (cond-false _ _ _ closer.1
    ∙ (cond-false _ _ _ (other 47 refl)
    ∙ (cond-false _ _ _ (other 39 refl)
    ∙ (cond-false _ _ _ quote.1
    ∙ (cond-false _ _ _ all.1
    ∙ cond-false _ _ _ mark.1))))))))

no_token_unfound : (first : Bool) (f p r : List ℕ) → Begins (One begins_nothing) f p r
    → find_piece first (f ++ (p ++ r)) ≡ None
no_token_unfound first f p r is =
    let one = is.1 in
    at_start first starts.Other (at_front f p r is.0 ∙ ap (λ t. t ++ r) one.1) (sym (other_start one.0 one.2))

-- ---- the law

-- a piece begins only where a front mark is called misplaced, which it isn't at the start of a text
abbrev Only : Reason → Kind → Type 0
Only x kind = (kind ≡ FrontMark) × (x ≡ reasons.MisplacedMark)

module _ (first : Bool) (kind : Kind) (q s : List ℕ) (piece : IsPiece first kind q s) where
  -- if no piece is found, none begins there
  not_found : (x : Reason) (text : List ℕ) → text ≡ q ++ s → find_piece first text ≡ None → Only x kind
  not_found x text e none =
      let clash : ◌≡◌ {A = Found} None (Some (kind, q, s)) =
      sym none ∙ (ap (find_piece first) e ∙ found_complete first kind q s piece) in
      absurd (cc)

  mark_kind : (o : Answer) → and_kind front_mark_kind o ≡ Some (kind, q, s) → kind ≡ FrontMark
  mark_kind None e = absurd (cc)
  mark_kind (Some x) e =
      let parts : ◌≡◌ {A = Kind × List ℕ × List ℕ} (FrontMark, x.0, x.1) (kind, q, s) = cc in
      sym (ap (λ z. z.0) parts)

  misplaced_only : (f p r : List ℕ) → Begins (Exactly (0xFEFF ∷ [])) f p r → f ++ (p ++ r) ≡ q ++ s
      → Only reasons.MisplacedMark kind
  misplaced_only f p r is e =
      let text : List ℕ = f ++ (p ++ r) in
      let whole : text ≡ 0xFEFF ∷ r = at_front f p r is.0 ∙ ap (λ t. t ++ r) is.1 in (
        mark_kind (find_front_mark first text)
            (sym (at_start first starts.FrontMark whole (sym start_front_mark))
            ∙ (ap (find_piece first) e ∙ found_complete first kind q s piece)),
        refl,
      )

  pub no_piece : (x : Reason) (f p r : List ℕ) → Holds x f p r → f ++ (p ++ r) ≡ q ++ s → Only x kind
  no_piece reasons.UnclosedComment f p r is e =
      not_found _ _ e (unclosed_comment_unfound first f p r is.0 is.1)
  no_piece reasons.BareReturnInDoc f p r is e = not_found _ _ e (bare_return_unfound first f p r is)
  no_piece reasons.UnclosedString f p r is e = not_found _ _ e (unclosed_string_unfound first is.0 f p r is.1 is.2)
  no_piece reasons.UnclosedRawString f p r is e = not_found _ _ e (unclosed_raw_unfound first is.0 f p r is.1 is.2)
  no_piece reasons.TooManyHashes f p r is e = not_found _ _ e (too_many_unfound first is.0 f p r is.1)
  no_piece reasons.HashesWithoutQuote f p r is e =
      not_found _ _ e (without_quote_unfound first is.0 f p r is.1 is.2)
  no_piece reasons.ReservedRawName f p r is e = not_found _ _ e (reserved_unfound first f p r is)
  no_piece reasons.UnclosedCharacter f p r is e =
      not_found _ _ e (unclosed_character_unfound first f p r is.0 is.1)
  no_piece (reasons.Content o) f p r (inl is) e = not_found _ _ e (bad_string_unfound first is.0 o f p r is.1)
  no_piece (reasons.Content o) f p r (inr (inl is)) e = not_found _ _ e (bad_raw_unfound first is.0 o f p r is.1)
  no_piece (reasons.Content o) f p r (inr (inr is)) e = not_found _ _ e (bad_single_unfound first is.0 o f p r is.1)
  no_piece reasons.DigitLifetime f p r is e = not_found _ _ e (digit_lifetime_unfound first f p r is)
  no_piece reasons.HashAfterLifetime f p r is e = not_found _ _ e (hash_after_unfound first f p r is.0 is.1)
  no_piece reasons.NoDigits f p r is e = not_found _ _ e (no_digits_unfound first is.0 f p r is.1)
  no_piece reasons.BadDigit f p r is e = not_found _ _ e (bad_digit_unfound first is.0 f p r is.1)
  no_piece reasons.BadNumberEnd f p r is e = not_found _ _ e (bad_end_unfound first f p r is)
  no_piece reasons.MisplacedMark f p r is e = misplaced_only f p r is e
  no_piece reasons.NoToken f p r is e = not_found _ _ e (no_token_unfound first f p r is)
  no_piece reasons.StrayCloser f p r is e = absurd is
  no_piece reasons.MismatchedCloser f p r is e = absurd is
  no_piece reasons.UnclosedOpener f p r is e = absurd is
