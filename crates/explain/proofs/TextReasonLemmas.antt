-- The reasons of comments, strings, raw strings and single characters.
use Rattle.std.proofs.Common.{◌≡◌, ℕ, ◌<◌, ◌≤◌, true, false, not, ◌==◌, List, [], ◌∷◌, ◌++◌, codes}
use Rattle.std.proofs.Common.{inl, inr, refl, sym, ap, ◌∙◌, arith, eqb-true, append_assoc, length}
use Rattle.std.proofs.Common.{ltb-true, leb-true}
use Rattle.std.specs.Char.{is_ascii_digit}
use Rattle.std.specs.List.{list_all}
use Rattle.std.proofs.lemmas.Bool.{both_ways, cond-false, cond-true, false_from_ne_true, or_left, or_right}
use Rattle.lexical.specs.Class.{is_ident_start}
use Rattle.lexical.specs.Comment.{block_comment, comment, line_comment}
use Rattle.lexical.specs.Form.{HasNone}
use Rattle.lexical.specs.Identifier.{name, is_reserved}
use Rattle.lexical.specs.Mark.{is_mark}
use Rattle.lexical.specs.Quoted.{front as string_front}
use Rattle.lexical.specs.RawString.{raw_front}
use Rattle.lexical.specs.Rule.{One, Run, Exactly, Then, Where, Stands}
use Rattle.lexical.specs.Text.{begins_any, first_passes}
use Rattle.lexical.specs.declared.quoted.StringKind.{StringKind}
use Rattle.lexical.specs.declared.quoted.StringKind.TheVariants.{Plain, Byte, C}
use Rattle.lexical.proofs.ClassLemmas.{ident_start_ascii}
use Rattle.lexical.proofs.RuleLemmas.{bars_sound, first_one, one_split}
use Rattle.literal_escaper.specs.declared.errors.EscapeError.{EscapeError}
use Rattle.explain.specs.Content.{IsBareReturn, IsBadString, IsBadRaw}
use Rattle.explain.specs.Reason.{Begins, Follow, Has, Lacks}
use Rattle.explain.specs.Shapes.{begins_nothing, closed_raw, closed_string, hashed_front, is_hash, long_opening}
use Rattle.explain.specs.Shapes.{no_double_quote, raw_name_start, raw_opening}
use Rattle.explain.specs.declared.reason.Reason.TheVariants as reasons
use Rattle.explain.proofs.QuoteLemmas.{clear_closed}
use Rattle.explain.proofs.MainReason.{Slash, Quotes, Letters, Misplaced, Other, by_front, content, front_of}
use Rattle.explain.proofs.MainReason.{lacks_has, letters_front, not_lacks_has, quotes_front, stands_has, main_reason}

-- a wrong part right at the fault begins the text
pub at_front : (f p r : List ℕ) → f ≡ [] → f ++ (p ++ r) ≡ p ++ r
at_front f p r e = ap (λ t. t ++ (p ++ r)) e

-- ---- comments

-- no comment begins there
pub unclosed_comment_none : (f p r : List ℕ) → Begins (Exactly (codes "/*")) f p r → Lacks block_comment f p r
    → HasNone (Stands comment) (f ++ (p ++ r))
unclosed_comment_none f p r is none q s split (inl line) =
    bars_sound (codes "/*") line_comment refl r q s line
    (sym split ∙ (at_front f p r is.0 ∙ ap (λ t. t ++ r) is.1))
unclosed_comment_none f p r is none q s split (inr block) = none q s split block

pub unclosed_comment_reason : (f p r : List ℕ) → Begins (Exactly (codes "/*")) f p r → Lacks block_comment f p r
    → main_reason (f ++ (p ++ r)) ≡ reasons.UnclosedComment
unclosed_comment_reason f p r is none =
    let text : List ℕ = f ++ (p ++ r) in
    let e : text ≡ codes "/*" ++ r = at_front f p r is.0 ∙ ap (λ t. t ++ r) is.1 in
    by_front text Slash (ap front_of e)
    ∙ cond-false _ _ _ (lacks_has comment (assumption) text (unclosed_comment_none f p r is none))

pub bare_return_reason : (f p r : List ℕ) → IsBareReturn f p r → main_reason (f ++ (p ++ r)) ≡ reasons.BareReturnInDoc
bare_return_reason f p r is =
    let text : List ℕ = f ++ (p ++ r) in
    let at = first_one (λ c. c == 47) comment refl is.comment is.after is.stands.0 in
    let e : text ≡ 47 ∷ (at.1 ++ is.after) =
    is.whole ∙ (ap (λ t. t ++ is.after) at.2 ∙ ap (λ c. c ∷ (at.1 ++ is.after)) (eqb-true at.0 47 at.3)) in
    by_front text Slash (ap front_of e)
    ∙ cond-true _ _ _ (stands_has comment (assumption) text is.comment is.after is.whole is.stands.0)

-- ---- strings

pub unclosed_string_reason : (kind : StringKind) (f p r : List ℕ) → Begins (Exactly (string_front kind)) f p r
    → Lacks (closed_string kind) f p r
    → main_reason (f ++ (p ++ r)) ≡ reasons.UnclosedString
unclosed_string_reason kind f p r is none =
    let text : List ℕ = f ++ (p ++ r) in
    by_front text (Quotes kind) (quotes_front kind text r (at_front f p r is.0 ∙ ap (λ t. t ++ r) is.1))
    ∙ cond-false _ _ _ (lacks_has (closed_string kind) (assumption) text none)

-- the text begins with a string that is closed
pub closed_whole : (kind : StringKind) (e : EscapeError) (f p r : List ℕ) (is : IsBadString kind e f p r)
    → f ++ (p ++ r) ≡ (f ++ (p ++ (is.left ++ codes "\""))) ++ is.tail
closed_whole kind e f p r is =
    ap (λ t. f ++ (p ++ t)) (is.back ∙ sym (append_assoc is.left (codes "\"") is.tail))
    ∙ (ap (λ t. f ++ t) (sym (append_assoc p (is.left ++ codes "\"") is.tail))
    ∙ sym (append_assoc f (p ++ (is.left ++ codes "\"")) is.tail))

pub bad_string_reason : (kind : StringKind) (e : EscapeError) (f p r : List ℕ) → IsBadString kind e f p r
    → main_reason (f ++ (p ++ r)) ≡ content
bad_string_reason kind e f p r is =
    let text : List ℕ = f ++ (p ++ r) in
    let whole = closed_whole kind e f p r is in
    let closed = is.closed in
    by_front text (Quotes kind) (quotes_front kind text (closed.back ++ is.tail)
    (whole ∙ (ap (λ t. t ++ is.tail) (closed.whole ∙ ap (λ t. t ++ closed.back) closed.first)
    ∙ append_assoc (string_front kind) closed.back is.tail)))
    ∙ cond-true _ _ _ (stands_has (closed_string kind) (assumption) text _ is.tail whole closed)

-- ---- raw strings

-- the text begins with the letters of this kind and then exactly these hash signs
pub record IsSigned (kind : StringKind) (text : List ℕ) : Type 0 where
  pub signs : List ℕ
  pub rest : List ℕ
  pub whole : text ≡ raw_front kind ++ (signs ++ rest)
  pub run : Stands (Run is_hash) signs rest

letters_cancel : (kind : StringKind) (a b : List ℕ) → raw_front kind ++ a ≡ raw_front kind ++ b → a ≡ b
letters_cancel Plain a b e = cc
letters_cancel Byte a b e = cc
letters_cancel C a b e = cc

pub one_signed : (kind : StringKind) (text : List ℕ) (is other : IsSigned kind text)
    → (is.signs ≡ other.signs) × (is.rest ≡ other.rest)
one_signed kind text is other =
    one_split (Run is_hash) tt is.signs other.signs is.rest other.rest is.run other.run
    (letters_cancel kind _ _ (sym is.whole ∙ other.whole))

-- a quote follows the hash signs
unfoldable pub opening_signed : (kind : StringKind) (text p r : List ℕ) → text ≡ p ++ r → Stands (raw_opening kind) p r
    → (is : IsSigned kind text) × (is.rest ≡ 34 ∷ r)
opening_signed kind text p r e is =
    let inner = is.second in (
      record {
        signs = inner.front;
        rest = inner.back ++ r;
        whole = e ∙ (ap (λ t. t ++ r) (is.whole ∙ ap (λ t. t ++ is.back) is.first)
            ∙ (append_assoc (raw_front kind) is.back r
            ∙ ap (λ t. raw_front kind ++ t) (ap (λ t. t ++ r) inner.whole ∙ append_assoc inner.front inner.back r)));
        run = inner.first;
      },
      ap (λ t. t ++ r) inner.second,
    )

-- another character follows the hash signs, or nothing
pub no_opening : (kind : StringKind) (text : List ℕ) (is : IsSigned kind text)
    → first_passes (λ c. c == 34) is.rest ≡ false → HasNone (Stands (raw_opening kind)) text
no_opening kind text is other p r e opening =
    let signed = opening_signed kind text p r e opening in
    both_ways _ other (ap (first_passes (λ c. c == 34)) ((one_signed kind text is signed.0).1 ∙ signed.1))

pub unclosed_raw_reason : (kind : StringKind) (f p r : List ℕ) → Begins (raw_opening kind) f p r
    → Lacks (closed_raw kind) f p r
    → main_reason (f ++ (p ++ r)) ≡ reasons.UnclosedRawString
unclosed_raw_reason kind f p r is none =
    let text : List ℕ = f ++ (p ++ r) in
    let whole = at_front f p r is.0 in
    let signed = opening_signed kind text p r whole is.1 in
    by_front text (Letters kind) (letters_front kind text _ signed.0.whole)
    ∙ (cond-true _ _ _ (stands_has (raw_opening kind) (assumption) text p r whole is.1)
    ∙ cond-false _ _ _ (lacks_has (closed_raw kind) (clear_closed kind) text none))

-- an opening with too many hash signs opens a raw string
unfoldable pub long_opens : (kind : StringKind) (p r : List ℕ) → Stands (long_opening kind) p r
    → Stands (raw_opening kind) p r
long_opens kind p r is = record {
  front = is.front;
  back = is.back;
  whole = is.whole;
  first = is.first;
  second = record {
    front = is.second.front;
    back = is.second.back;
    whole = is.second.whole;
    first = is.second.first.0;
    second = is.second.second;
  };
}

pub too_many_reason : (kind : StringKind) (f p r : List ℕ) → Begins (long_opening kind) f p r
    → Has (closed_raw kind) f p r
    → main_reason (f ++ (p ++ r)) ≡ reasons.TooManyHashes
too_many_reason kind f p r is some =
    let text : List ℕ = f ++ (p ++ r) in
    let whole = at_front f p r is.0 in
    let opens = long_opens kind p r is.1 in
    let signed = opening_signed kind text p r whole opens in
    by_front text (Letters kind) (letters_front kind text _ signed.0.whole)
    ∙ (cond-true _ _ _ (stands_has (raw_opening kind) (assumption) text p r whole opens)
    ∙ (cond-true _ _ _ (not_lacks_has (closed_raw kind) (clear_closed kind) text some)
    ∙ cond-true _ _ _ (stands_has (long_opening kind) (assumption) text p r whole is.1)))

pub bad_raw_reason : (kind : StringKind) (e : EscapeError) (f p r : List ℕ) → IsBadRaw kind e f p r
    → main_reason (f ++ (p ++ r)) ≡ content
unfolding opening_signed long_opens
bad_raw_reason kind e f p r is =
    let text : List ℕ = f ++ (p ++ r) in
    let letters = is.stands in
    let signs = letters.second in
    let quote = signs.second in
    let rest : List ℕ = quote.back ++ (p ++ r) in
    let tail : signs.back ++ (p ++ r) ≡ 34 ∷ rest =
    ap (λ t. t ++ (p ++ r)) quote.whole
    ∙ (append_assoc quote.front quote.back (p ++ r) ∙ ap (λ t. t ++ rest) quote.first) in
    let front : List ℕ = raw_front kind ++ (signs.front ++ codes "\"") in
    let whole : text ≡ raw_front kind ++ (signs.front ++ (34 ∷ rest)) =
    ap (λ t. t ++ (p ++ r)) (letters.whole ∙ ap (λ t. t ++ letters.back) letters.first)
    ∙ (append_assoc (raw_front kind) letters.back (p ++ r)
    ∙ ap (λ t. raw_front kind ++ t) (ap (λ t. t ++ (p ++ r)) signs.whole
    ∙ (append_assoc signs.front signs.back (p ++ r) ∙ ap (λ t. signs.front ++ t) tail))) in
    let joined : text ≡ front ++ rest =
    whole ∙ (ap (λ t. raw_front kind ++ t) (sym (append_assoc signs.front (codes "\"") rest))
    ∙ sym (append_assoc (raw_front kind) (signs.front ++ codes "\"") rest)) in
    let run : Stands (Run is_hash) signs.front (34 ∷ rest) = record { each = signs.first.0.each; stops = refl } in
    let opens : Stands (raw_opening kind) front rest = record {
      front = raw_front kind;
      back = signs.front ++ codes "\"";
      whole = refl;
      first = refl;
      second = record {
        front = signs.front;
        back = codes "\"";
        whole = refl;
        first = run;
        second = refl;
      };
    } in
    let signed : IsSigned kind text = record { signs = signs.front; rest = 34 ∷ rest; whole = whole; run = run } in
    by_front text (Letters kind) (letters_front kind text _ whole)
    ∙ (cond-true _ _ _ (stands_has (raw_opening kind) (assumption) text front rest joined opens)
    ∙ (cond-true _ _ _ (not_lacks_has (closed_raw kind) (clear_closed kind) text is.closed)
    ∙ cond-false _ _ _ (lacks_has (long_opening kind) (assumption) text (λ q s split long.
    let other = opening_signed kind text q s split (long_opens kind q s long) in
    let same : signs.front ≡ long.second.front = (one_signed kind text signed other.0).0 in
    let few : length signs.front ≤ 255 = leb-true (length signs.front) 255 signs.first.1 in
    let many : 255 < length long.second.front = ltb-true 255 (length long.second.front) long.second.first.1 in
    omega (arith, few, many, ap length same)))))

-- hash signs with no quote after them
pub hashed_signed : (kind : StringKind) (f p r : List ℕ) → Follow (hashed_front kind) no_double_quote f p r
    → (is : IsSigned kind (f ++ (p ++ r))) × (first_passes (λ c. c == 34) is.rest ≡ false) × (is.signs ≡ [] → ⊥)
hashed_signed kind f p r is =
    let letters = is.0 in
    let signs = letters.second in
    let one = signs.first in
    let back : letters.back ≡ one.0 ∷ signs.back = signs.whole ∙ ap (λ t. t ++ signs.back) one.1 in (
      record {
        signs = letters.back;
        rest = p ++ r;
        whole = ap (λ t. t ++ (p ++ r)) (letters.whole ∙ ap (λ t. t ++ letters.back) letters.first)
            ∙ append_assoc (raw_front kind) letters.back (p ++ r);
        run = record {
          each = ap (list_all is_hash) back ∙ both one.0 signs.back one.2 signs.second.each;
          stops = signs.second.stops;
        };
      },
      other (p ++ r) is.1.1,
      λ none. let clash : ◌≡◌ {A = List ℕ} [] (one.0 ∷ signs.back) = sym none ∙ back in cc,
    )
  where
    both : (c : ℕ) (back : List ℕ) → is_hash c ≡ true → list_all is_hash back ≡ true
        → list_all is_hash (c ∷ back) ≡ true
    both c back one each = grind (arith, one, each)

    other : (t : List ℕ) → begins_any (codes "\"" ∷ []) t ≡ false → first_passes (λ c. c == 34) t ≡ false
    other [] e = refl
    other (c ∷ t) e = grind (arith, e)

pub without_quote_reason : (kind : StringKind) (f p r : List ℕ) → Follow (hashed_front kind) no_double_quote f p r
    → Lacks raw_name_start f p r
    → main_reason (f ++ (p ++ r)) ≡ reasons.HashesWithoutQuote
without_quote_reason kind f p r is none =
    let text : List ℕ = f ++ (p ++ r) in
    let signed = hashed_signed kind f p r is in
    by_front text (Letters kind) (letters_front kind text _ signed.0.whole)
    ∙ (cond-false _ _ _ (lacks_has (raw_opening kind) (assumption) text (no_opening kind text signed.0 signed.1))
    ∙ cond-false _ _ _ (lacks_has raw_name_start (assumption) text none))

module _ (f p r : List ℕ) (start : f ≡ []) (is : Stands (Then (Exactly (codes "r#")) (Where is_reserved name)) p r)
  where
    abbrev after : List ℕ
    after = is.second.0.back ++ r

    reserved_whole : f ++ (p ++ r) ≡ 114 ∷ 35 ∷ (is.second.0.first.0 ∷ after)
    reserved_whole =
        at_front f p r start ∙ (ap (λ t. t ++ r) (is.whole ∙ ap (λ t. t ++ is.back) is.first)
        ∙ ap (λ t. 114 ∷ 35 ∷ (t ++ r))
        (is.second.0.whole ∙ ap (λ t. t ++ is.second.0.back) is.second.0.first.1))

    other_first : (k : ℕ) → is_ident_start k ≡ false → (is.second.0.first.0 == k) ≡ false
    other_first k out = false_from_ne_true _ (λ same.
        both_ways _ out (ap is_ident_start (sym (eqb-true is.second.0.first.0 k same)) ∙ is.second.0.first.2))

    -- one hash sign, and then the name
    pub reserved_signed : (signed : IsSigned Plain (f ++ (p ++ r))) × (first_passes (λ c. c == 34) signed.rest ≡ false)
    reserved_signed = (
      record {
        signs = 35 ∷ [];
        rest = is.second.0.first.0 ∷ after;
        whole = reserved_whole;
        run = record { each = refl; stops = other_first 35 (ident_start_ascii 35 (omega arith)) };
      },
      other_first 34 (ident_start_ascii 34 (omega arith)),
    )

    pub reserved_name_reason : main_reason (f ++ (p ++ r)) ≡ reasons.ReservedRawName
    reserved_name_reason =
        let text : List ℕ = f ++ (p ++ r) in
        let signed = reserved_signed in
        by_front text (Letters Plain) (letters_front Plain text _ signed.0.whole)
        ∙ (cond-false _ _ _ (lacks_has (raw_opening Plain) (assumption) text (no_opening Plain text signed.0 signed.1))
        ∙ cond-true _ _ _ (stands_has raw_name_start (assumption) text (codes "r#" ++ (is.second.0.first.0 ∷ [])) after
        reserved_whole
        (record {
          front = codes "r#";
          back = is.second.0.first.0 ∷ [];
          whole = refl;
          first = refl;
          second = (is.second.0.first.0, refl, is.second.0.first.2);
        })))

-- ---- other characters

pub misplaced_reason : (f p r : List ℕ) → Begins (Exactly (0xFEFF ∷ [])) f p r
    → main_reason (f ++ (p ++ r)) ≡ reasons.MisplacedMark
misplaced_reason f p r is =
    by_front (f ++ (p ++ r)) Misplaced (ap front_of (at_front f p r is.0 ∙ ap (λ t. t ++ r) is.1))

letter_begins : (c : ℕ) → is_ident_start c ≡ true → begins_nothing c ≡ false
letter_begins c e =
    ap not (or_left _ _ (or_left _ _ (or_left _ _ (or_left _ _ (or_left _ _ (or_left _ _ (or_right _ _ e)))))))

digit_begins : (c : ℕ) → is_ascii_digit c ≡ true → begins_nothing c ≡ false
digit_begins c e = ap not (or_left _ _ (or_left _ _ (or_left _ _ (or_left _ _ (or_left _ _ (or_right _ _ e))))))

mark_begins : (c : ℕ) → is_mark c ≡ true → begins_nothing c ≡ false
mark_begins c e = ap not (or_left _ _ (or_left _ _ (or_right _ _ e)))

other_front : (c : ℕ) (text : List ℕ) → begins_nothing c ≡ true → front_of (c ∷ text) ≡ Other
other_front c text is =
    cond-false _ _ _ (false_from_ne_true _ (λ digit. both_ways _ (digit_begins c digit) is))
    ∙ (cond-false _ _ _ (no 47 (mark_begins 47 refl))
    ∙ (cond-false _ _ _ (no 34 (ap not (or_left _ _ (or_right _ _ refl))))
    ∙ (cond-false _ _ _ (no 39 (mark_begins 39 refl))
    ∙ (cond-false _ _ _ (no 98 (letter_begins 98 (ident_start_ascii 98 (omega arith))))
    ∙ (cond-false _ _ _ (no 99 (letter_begins 99 (ident_start_ascii 99 (omega arith))))
    ∙ (cond-false _ _ _ (no 114 (letter_begins 114 (ident_start_ascii 114 (omega arith))))
    ∙ cond-false _ _ _ (no 0xFEFF (ap not (or_right _ _ refl)))))))))
  where
    no : (k : ℕ) → begins_nothing k ≡ false → (c == k) ≡ false
    no k out = false_from_ne_true _ (λ same.
        both_ways _ out (ap begins_nothing (sym (eqb-true c k same)) ∙ is))

pub no_token_reason : (f p r : List ℕ) → Begins (One begins_nothing) f p r
    → main_reason (f ++ (p ++ r)) ≡ reasons.NoToken
no_token_reason f p r is =
    let one = is.1 in
    by_front (f ++ (p ++ r)) Other
    (ap front_of (at_front f p r is.0 ∙ ap (λ t. t ++ r) one.1) ∙ other_front one.0 r one.2)
