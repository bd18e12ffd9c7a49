-- Where a reason of a comment or a number holds, no piece begins.
use Rattle.std.proofs.Common.{◌≡◌, ℕ, Bool, true, false, not, List, [], ◌∷◌, ◌++◌, codes}
use Rattle.std.proofs.Common.{drop, Some, None, inl, inr, refl, sym, ap, ◌∙◌, arith, append_assoc, eqb-true}
use Rattle.std.specs.Char.{is_ascii_digit}
use Rattle.std.proofs.lemmas.Bool.{and_parts, both_ways, cond-true, false_from_ne_true, or_cases, or_left}
use Rattle.std.proofs.lemmas.Bool.{or_right}
use Rattle.std.proofs.lemmas.List.{append_cancel_right, drop_at}
use Rattle.lexical.specs.Class.{is_ident_continue, is_ident_start}
use Rattle.lexical.specs.Comment.{block_comment, closing, comment, has_bare_return}
use Rattle.lexical.specs.CommentKind.{comment_kind, doc_text}
use Rattle.lexical.specs.Form.{HasNone}
use Rattle.lexical.specs.Number.{base_prefixes, based_number, digits, end as number_end, float_tail, integer, number}
use Rattle.lexical.specs.Number.{tail}
use Rattle.lexical.specs.PieceFinder.{comment_found, find_piece, literal_kind, and_kind, with_kind}
use Rattle.lexical.specs.Rule.{One, Exactly, Then, Stands, find}
use Rattle.lexical.specs.Text.{begins_any, first_passes}
use Rattle.lexical.specs.declared.bytes.Base.{Base}
use Rattle.lexical.specs.declared.class.PieceStart.TheVariants as starts
use Rattle.lexical.proofs.AnswerLemmas.{at_start}
use Rattle.lexical.proofs.ClassLemmas.{ident_continue_ascii, ident_start_ascii, start_digit, start_slash}
use Rattle.lexical.proofs.CommentKindLemmas.{comment_first, doc_back}
use Rattle.lexical.proofs.NumberFinderLemmas.{number_based, number_decimal}
use Rattle.lexical.proofs.RuleLemmas.{exact, none_found, one_split}
use Rattle.explain.specs.Content.{IsBareReturn}
use Rattle.explain.specs.Reason.{Begins, Follow, Lacks}
use Rattle.explain.specs.Shapes.{bare_prefix, base_front, base_prefix, ends_badly}
use Rattle.explain.proofs.NumberReasonLemmas.{bad_digit_integer, bad_digit_whole, base_digit, based_begins, based_in}
use Rattle.explain.proofs.NumberReasonLemmas.{no_digits_integer, no_digits_whole}
use Rattle.explain.proofs.TextReasonLemmas.{at_front, unclosed_comment_none}

-- ---- comments

slash_found : (first : Bool) (text rest : List ℕ) → text ≡ 47 ∷ rest → (begins_any (codes "//" ∷ codes "/*" ∷ []) text)
    ≡ true
    → comment_found (find comment text) ≡ None → find_piece first text ≡ None
slash_found first text rest e begins none =
    at_start first starts.Slash e (sym start_slash) ∙ (cond-true _ _ _ begins ∙ none)

pub unclosed_comment_unfound : (first : Bool) (f p r : List ℕ) → Begins (Exactly (codes "/*")) f p r
    → Lacks block_comment f p r → find_piece first (f ++ (p ++ r)) ≡ None
unclosed_comment_unfound first f p r is none =
    let text : List ℕ = f ++ (p ++ r) in
    let e : text ≡ 47 ∷ 42 ∷ r = at_front f p r is.0 ∙ ap (λ t. t ++ r) is.1 in
    slash_found first text (42 ∷ r) e (ap (begins_any (codes "//" ∷ codes "/*" ∷ [])) e)
    (ap comment_found (none_found comment (assumption) text (unclosed_comment_none f p r is none)))

-- a bare CR in a text is also one in a longer text that ends with it
bare_more : (before text : List ℕ) → has_bare_return text ≡ true → has_bare_return (before ++ text) ≡ true
bare_more [] text is = is
bare_more (c ∷ before) text is = or_right _ _ (bare_more before text is)

pub bare_return_unfound : (first : Bool) (f p r : List ℕ) → IsBareReturn f p r → find_piece first (f ++ (p ++ r)) ≡ None
bare_return_unfound first f p r is =
    let text : List ℕ = f ++ (p ++ r) in
    let doc_body : List ℕ = is.before ++ (p ++ is.more) in
    let doc = is.stands in
    let at = comment_first is.comment is.after doc.0 in
    let e : text ≡ 47 ∷ (at.0 ++ is.after) = is.whole ∙ ap (λ t. t ++ is.after) at.1 in
    let text_is : doc_text is.comment is.after ≡ doc_body =
    append_cancel_right _ _ (closing is.comment is.after)
    (sym (doc_back is.comment is.after doc.0 doc.1) ∙ (ap (drop 3) is.text
    ∙ drop_at is.opening (doc_body ++ closing is.comment is.after) 3 is.three)) in
    let bare : has_bare_return (13 ∷ is.more) ≡ true = or_left _ _ (ap not is.bare) in
    let returns : has_bare_return (doc_text is.comment is.after) ≡ true =
    ap has_bare_return text_is
    ∙ bare_more is.before (p ++ is.more) (ap (λ t. has_bare_return (t ++ is.more)) is.return ∙ bare) in
    let kind : comment_kind is.comment is.after ≡ None = cond-true _ _ _ doc.1 ∙ cond-true _ _ _ returns in
    let finds : find comment text ≡ Some (is.comment, is.after) =
    ap (find comment) is.whole ∙ (exact comment (assumption)).complete is.comment is.after doc.0 in
    slash_found first text (at.0 ++ is.after) e
    (ap (begins_any (codes "//" ∷ codes "/*" ∷ [])) is.whole ∙ at.2 is.after)
    (ap comment_found finds ∙ ap (with_kind (is.comment, is.after)) kind)

-- ---- numbers

digit_found : (first : Bool) (c : ℕ) (text rest : List ℕ) → text ≡ c ∷ rest → is_ascii_digit c ≡ true
    → find number text ≡ None → find_piece first text ≡ None
digit_found first c text rest e digit none =
    at_start first starts.Digit e (sym (start_digit c digit)) ∙ ap (and_kind literal_kind) none

-- a text with the prefix of a base, and no number of that base, begins with no piece
based_found : (first : Bool) (base : Base) (text rest : List ℕ) → text ≡ base_prefix base ++ rest
    → HasNone (Stands (Then based_number number_end)) text → find_piece first text ≡ None
based_found first base text rest e none =
    let digit = base_digit base rest in
    digit_found first 48 text digit.0 (e ∙ digit.1) refl
    (number_based text (ap (begins_any base_prefixes) e ∙ based_begins base rest)
    ∙ none_found (Then based_number number_end) (assumption) text none)

-- no number of a base begins there if no integer does
no_based : (text : List ℕ) → HasNone (Stands integer) text → HasNone (Stands (Then based_number number_end)) text
no_based text none p r split is =
    none is.front (is.back ++ r) (split ∙ (ap (λ t. t ++ r) is.whole ∙ append_assoc is.front is.back r)) (inr is.first)

pub no_digits_unfound : (first : Bool) (base : Base) (f p r : List ℕ) → Begins (bare_prefix base) f p r
    → find_piece first (f ++ (p ++ r)) ≡ None
no_digits_unfound first base f p r is =
    based_found first base (f ++ (p ++ r)) _ (no_digits_whole base f p r is)
    (no_based (f ++ (p ++ r)) (no_digits_integer base f p r is))

pub bad_digit_unfound : (first : Bool) (base : Base) (f p r : List ℕ)
    → Follow (base_front base) (One is_ascii_digit) f p r → find_piece first (f ++ (p ++ r)) ≡ None
bad_digit_unfound first base f p r is =
    based_found first base (f ++ (p ++ r)) _ (bad_digit_whole base f p r is)
    (no_based (f ++ (p ++ r)) (bad_digit_integer base f p r is))

-- ---- what can't follow a number

module _ (c : ℕ) (bad : ends_badly c ≡ true) where
  bad_parts : (is_ident_continue c ≡ true) × (is_ident_start c ≡ false)
  bad_parts =
      let parts = and_parts (is_ident_continue c) _ bad in (
        parts.0,
        false_from_ne_true _ (λ start. both_ways _ (ap not (or_left (is_ident_start c) (is_ascii_digit c) start))
            parts.1),
      )

  no_start : (k : ℕ) → is_ident_start k ≡ true → c ≡ k → ⊥
  no_start k start same = both_ways _ bad_parts.1 (ap is_ident_start same ∙ start)

  no_dot : c ≡ 46 → ⊥
  no_dot same = both_ways _ (ident_continue_ascii 46 (omega arith)) (ap is_ident_continue (sym same) ∙ bad_parts.0)

  no_end : (r q s : List ℕ) → q ++ s ≡ c ∷ r → Stands number_end q s → ⊥
  no_end r q s e (inl named, apart) =
      let one = named.first in
      let same : one.0 ∷ (named.back ++ s) ≡ c ∷ r =
      sym (ap (λ t. t ++ s) (named.whole ∙ ap (λ t. t ++ named.back) one.1)) ∙ e in
      let first : c ≡ one.0 = cc in
      no_start one.0 one.2 first
  no_end r q s e (inr none, apart) =
      let rest : s ≡ c ∷ r = sym (ap (λ t. t ++ s) none.1) ∙ e in
      both_ways _ apart (ap (first_passes is_ident_continue) rest ∙ bad_parts.0)

  no_float : (r q s : List ℕ) → q ++ s ≡ c ∷ r → Stands float_tail q s → ⊥
  no_float r q s e (inl fraction) =
      let same : 46 ∷ (fraction.back ++ s) ≡ c ∷ r =
      sym (ap (λ t. t ++ s) (fraction.whole ∙ ap (λ t. t ++ fraction.back) fraction.first.0)) ∙ e in
      let first : c ≡ 46 = cc in
      no_dot first
  no_float r q s e (inr scaled) =
      let one = scaled.first.first in
      let same : one.0 ∷ ((scaled.first.back ++ scaled.back) ++ s) ≡ c ∷ r =
      sym (ap (λ t. t ++ s) (scaled.whole ∙ ap (λ t. t ++ scaled.back) (scaled.first.whole
      ∙ ap (λ t. t ++ scaled.first.back) one.1))) ∙ e in
      let first : c ≡ one.0 = cc in
      elim (or_cases _ _ one.2) [
        | inl small ↦ no_start 101 (ident_start_ascii 101 (omega arith)) (first ∙ eqb-true one.0 101 small)
        | inr capital ↦ no_start 69 (ident_start_ascii 69 (omega arith)) (first ∙ eqb-true one.0 69 capital)
      ]

  no_tail : (r q s : List ℕ) → q ++ s ≡ c ∷ r → Stands tail q s → ⊥
  no_tail r q s e (inl float) = no_float r q s e float
  no_tail r q s e (inr end) = no_end r q s e end.1

pub bad_end_unfound : (first : Bool) (f p r : List ℕ) → Follow integer (One ends_badly) f p r
    → find_piece first (f ++ (p ++ r)) ≡ None
bad_end_unfound first f p r (inl is, bad) =
    let text : List ℕ = f ++ (p ++ r) in
    let one = is.0.first in
    let rest : p ++ r ≡ bad.0 ∷ r = ap (λ t. t ++ r) bad.1 in
    digit_found first one.0 text (is.0.back ++ (p ++ r))
    (ap (λ t. t ++ (p ++ r)) (is.0.whole ∙ ap (λ t. t ++ is.0.back) one.1)) one.2
    (number_decimal text is.1
    ∙ none_found (Then digits tail) (assumption) text (λ q s split stands.
    let after : q ++ s ≡ stands.front ++ (stands.back ++ s) =
    ap (λ t. t ++ s) stands.whole ∙ append_assoc stands.front stands.back s in
    let same : p ++ r ≡ stands.back ++ s =
    (one_split digits (assumption) f stands.front (p ++ r) (stands.back ++ s) is.0 stands.first (split ∙ after)).1 in
    no_tail bad.0 bad.2 r stands.back s (sym same ∙ rest) stands.second))
bad_end_unfound first f p r (inr is, bad) =
    let text : List ℕ = f ++ (p ++ r) in
    let rest : p ++ r ≡ bad.0 ∷ r = ap (λ t. t ++ r) bad.1 in
    let at = based_in f (p ++ r) is in
    let inner = at.1 in
    based_found first at.0 text (inner.back ++ (p ++ r))
    (ap (λ t. t ++ (p ++ r)) (inner.whole ∙ ap (λ t. t ++ inner.back) inner.first)
    ∙ append_assoc (base_prefix at.0) inner.back (p ++ r))
    (λ q s split stands.
    let after : q ++ s ≡ stands.front ++ (stands.back ++ s) =
    ap (λ t. t ++ s) stands.whole ∙ append_assoc stands.front stands.back s in
    let same : p ++ r ≡ stands.back ++ s =
    (one_split based_number (assumption) f stands.front (p ++ r) (stands.back ++ s) is stands.first
    (split ∙ after)).1 in
    no_end bad.0 bad.2 r stands.back s (sym same ∙ rest) stands.second)
