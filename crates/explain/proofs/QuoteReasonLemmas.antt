-- The reasons of texts that begin with a quote.
use Rattle.std.proofs.Common.{◌≡◌, ℕ, true, false, ◌||◌, List, [], ◌∷◌, ◌++◌, codes}
use Rattle.std.proofs.Common.{inl, inr, refl, sym, ap, ◌∙◌, subst, arith, append_assoc}
use Rattle.std.specs.Char.{is_ascii_digit}
use Rattle.std.proofs.lemmas.Bool.{and_parts, both_ways, cond-false, cond-true, or_from, or_left, or_right}
use Rattle.lexical.specs.Class.{is_ident_start, is_ident_continue}
use Rattle.lexical.specs.Form.{HasNone}
use Rattle.lexical.specs.Identifier.{name}
use Rattle.lexical.specs.Rule.{Rule, One, Run, Exactly, Then, Either, Stands}
use Rattle.lexical.specs.Text.{first_passes}
use Rattle.lexical.specs.declared.class.PieceStart.TheVariants as starts
use Rattle.lexical.proofs.ClassLemmas.{ident_continue_ascii, ident_start_ascii, start_digit, start_letter}
use Rattle.lexical.proofs.RuleLemmas.{bars_sound, one_split}
use Rattle.literal_escaper.specs.declared.errors.EscapeError.{EscapeError}
use Rattle.explain.specs.Content.{IsBadSingle}
use Rattle.explain.specs.Reason.{Begins, Follow, Lacks}
use Rattle.explain.specs.Shapes.{bars_character, closed_named, closed_single, digit_lifetime, is_quote}
use Rattle.explain.specs.Shapes.{lifetime, raw_lifetime_start, reserved_raw, single_opening}
use Rattle.explain.specs.declared.quotes.SingleKind.{SingleKind}
use Rattle.explain.specs.declared.quotes.SingleKind.TheVariants.{Character, Byte}
use Rattle.explain.specs.declared.reason.Reason.TheVariants as reasons
use Rattle.explain.proofs.MainReason.{Bytes, Lone, by_front, content, front_of, has, has_named, lacks_has}
use Rattle.explain.proofs.MainReason.{digit_named, plain_named, raw_named, stands_has, main_reason, reason_from}
use Rattle.explain.proofs.TextReasonLemmas.{at_front, reserved_name_reason}

-- ---- after the quote

-- no name begins with a digit
pub no_both : (c : ℕ) → is_ident_start c ≡ true → is_ascii_digit c ≡ true → ⊥
no_both c start digit =
    let clash : starts.Letter ≡ starts.Digit = sym (start_letter c start) ∙ start_digit c digit in cc

-- a lone quote before a name or a digit opens no character
pub no_opening : (text rest : List ℕ) → text ≡ 39 ∷ rest → first_passes bars_character rest ≡ true
    → HasNone (Stands single_opening) text
no_opening text rest e barring p r split (inl quote) =
    let same : 39 ∷ r ≡ 39 ∷ rest = ap (λ t. t ++ r) (sym quote.0) ∙ (sym split ∙ e) in
    let after : r ≡ rest = cc in
    both_ways _ quote.1 (ap (first_passes bars_character) after ∙ barring)
no_opening text rest e barring p r split (inr byte) =
    let same : 98 ∷ 39 ∷ r ≡ 39 ∷ rest = ap (λ t. t ++ r) (sym byte) ∙ (sym split ∙ e) in
    let clash : ◌≡◌ {A = ℕ} 98 39 = cc in
    omega (arith, clash)

-- the text is a character literal with a name, a raw name, or a word that begins with a digit
pub data IsNamed (text : List ℕ) : Type 0 where
  Raw : (named back : List ℕ) → text ≡ codes "'r#" ++ (named ++ (39 ∷ back)) → Stands name named (39 ∷ back)
      → IsNamed text
  Plain : (named back : List ℕ) → text ≡ 39 ∷ (named ++ (39 ∷ back)) → Stands name named (39 ∷ back)
      → IsNamed text
  Digit : (c : ℕ) (more back : List ℕ) → text ≡ 39 ∷ c ∷ (more ++ (39 ∷ back)) → is_ascii_digit c ≡ true
      → Stands (Run is_ident_continue) more (39 ∷ back)
      → IsNamed text

abbrev quote : Rule
quote = Exactly (codes "'")

pub named_is : (text p r : List ℕ) → text ≡ p ++ r → Stands closed_named p r → IsNamed text
named_is text p r e (inl is) =
    let inner = is.second in
    let back : inner.back ++ r ≡ 39 ∷ r = ap (λ t. t ++ r) inner.second in
    Raw inner.front r
    (e ∙ (ap (λ t. t ++ r) (is.whole ∙ ap (λ t. t ++ is.back) is.first)
    ∙ (append_assoc (codes "'r#") is.back r
    ∙ ap (λ t. codes "'r#" ++ t) (ap (λ t. t ++ r) inner.whole
    ∙ (append_assoc inner.front inner.back r ∙ ap (λ t. inner.front ++ t) back)))))
    (subst (Stands name inner.front) back inner.first)
named_is text p r e (inr is) = by_first is.second.first
  where
    back : is.second.back ++ r ≡ 39 ∷ r
    back = ap (λ t. t ++ r) is.second.second

    whole : text ≡ 39 ∷ (is.second.front ++ (39 ∷ r))
    whole =
        e ∙ (ap (λ t. t ++ r) (is.whole ∙ ap (λ t. t ++ is.back) is.first)
        ∙ ap (λ t. 39 ∷ t) (ap (λ t. t ++ r) is.second.whole
        ∙ (append_assoc is.second.front is.second.back r ∙ ap (λ t. is.second.front ++ t) back)))

    by_first : Stands (Either name (Then (One is_ascii_digit) (Run is_ident_continue))) is.second.front
        (is.second.back ++ r)
        → IsNamed text
    by_first (inl named) = Plain is.second.front r whole (subst (Stands name is.second.front) back named)
    by_first (inr digits) =
        let one = digits.first in
        Digit one.0 digits.back r
        (whole ∙ (ap (λ t. 39 ∷ (t ++ (39 ∷ r))) (digits.whole ∙ ap (λ t. t ++ digits.back) one.1)))
        one.2
        (subst (Stands (Run is_ident_continue) digits.back) back digits.second)

module _ (text : List ℕ) where
  pub named_has : (p r : List ℕ) → text ≡ p ++ r → Stands closed_named p r → has_named text ≡ true
  named_has p r e (inl is) = or_left (has raw_named text) _ (stands_has raw_named (assumption) text p r e is)
  named_has p r e (inr is) = or_right (has raw_named text) (has plain_named text || has digit_named text)
      (elim is.second.first [
        | inl named ↦ or_left (has plain_named text) _ (stands_has plain_named (assumption) text p r e (record {
          front = is.front;
          back = is.back;
          whole = is.whole;
          first = is.first;
          second = record {
            front = is.second.front;
            back = is.second.back;
            whole = is.second.whole;
            first = named;
            second = is.second.second;
          };
        }))
        | inr digits ↦ or_right _ (has digit_named text) (stands_has digit_named (assumption) text p r e (record {
          front = is.front;
          back = is.back;
          whole = is.whole;
          first = is.first;
          second = record {
            front = is.second.front;
            back = is.second.back;
            whole = is.second.whole;
            first = digits;
            second = is.second.second;
          };
        }))
      ])

  lacks_named : (IsNamed text → ⊥) → has_named text ≡ false
  lacks_named none =
      let no : HasNone (Stands closed_named) text = λ p r e is. none (named_is text p r e is) in
      or_from _ _ (lacks_has raw_named (assumption) text (λ p r e is. no p r e (inl is)))
      (or_from _ _ (lacks_has plain_named (assumption) text (λ p r e is. no p r e (inr (record {
        front = is.front;
        back = is.back;
        whole = is.whole;
        first = is.first;
        second = record {
          front = is.second.front;
          back = is.second.back;
          whole = is.second.whole;
          first = inl is.second.first;
          second = is.second.second;
        };
      }))))
      (lacks_has digit_named (assumption) text (λ p r e is. no p r e (inr (record {
        front = is.front;
        back = is.back;
        whole = is.whole;
        first = is.first;
        second = record {
          front = is.second.front;
          back = is.second.back;
          whole = is.second.whole;
          first = inr is.second.first;
          second = is.second.second;
        };
      })))))

-- a name begins with a character that can begin one
pub name_first : (named back : List ℕ) → Stands name named back
    → (c : ℕ) × (more : List ℕ) × (named ≡ c ∷ more) × (is_ident_start c ≡ true)
    × Stands (Run is_ident_continue) more back
name_first named back is =
    let one = is.first in
    (one.0, is.back, is.whole ∙ ap (λ t. t ++ is.back) one.1, one.2, is.second)

-- in a literal with a name, the character after the quote is one of `bars_character`
pub named_bars : (text rest : List ℕ) → text ≡ 39 ∷ rest → IsNamed text → first_passes bars_character rest ≡ true
named_bars text rest e (Raw named back whole is) =
    let same : 39 ∷ rest ≡ 39 ∷ (114 ∷ 35 ∷ (named ++ (39 ∷ back))) = sym e ∙ whole in
    let after : rest ≡ 114 ∷ 35 ∷ (named ++ (39 ∷ back)) = cc in
    ap (first_passes bars_character) after ∙ or_left _ _ (ident_start_ascii 114 (omega arith))
named_bars text rest e (Plain named back whole is) =
    let first = name_first named (39 ∷ back) is in
    let same : 39 ∷ rest ≡ 39 ∷ (named ++ (39 ∷ back)) = sym e ∙ whole in
    let after : rest ≡ named ++ (39 ∷ back) = cc in
    ap (first_passes bars_character) (after ∙ ap (λ t. t ++ (39 ∷ back)) first.2) ∙ or_left _ _ first.3
named_bars text rest e (Digit c more back whole digit run) =
    let same : 39 ∷ rest ≡ 39 ∷ (c ∷ (more ++ (39 ∷ back))) = sym e ∙ whole in
    let after : rest ≡ c ∷ (more ++ (39 ∷ back)) = cc in
    ap (first_passes bars_character) after ∙ or_right _ _ digit

-- ---- characters

pub unclosed_character_reason : (f p r : List ℕ) → Begins single_opening f p r → Lacks closed_single f p r
    → main_reason (f ++ (p ++ r)) ≡ reasons.UnclosedCharacter
unclosed_character_reason f p r (start, inl is) none =
    let text : List ℕ = f ++ (p ++ r) in
    let whole = at_front f p r start in
    by_front text Lone (ap front_of (whole ∙ ap (λ t. t ++ r) is.0))
    ∙ (cond-true _ _ _ (stands_has single_opening (assumption) text p r whole (inl is))
    ∙ cond-false _ _ _ (lacks_has closed_single (assumption) text none))
unclosed_character_reason f p r (start, inr is) none =
    let text : List ℕ = f ++ (p ++ r) in
    by_front text Bytes (ap front_of (at_front f p r start ∙ ap (λ t. t ++ r) is))
    ∙ cond-false _ _ _ (lacks_has closed_single (assumption) text none)

pub bad_single_reason : (kind : SingleKind) (e : EscapeError) (f p r : List ℕ) → IsBadSingle kind e f p r
    → main_reason (f ++ (p ++ r)) ≡ content
bad_single_reason Byte e f p r is =
    let text : List ℕ = f ++ (p ++ r) in
    let whole : text ≡ codes "b'" ++ ((is.content ++ codes "'") ++ is.tail) = is.whole in
    by_front text Bytes (ap front_of whole)
    ∙ cond-true _ _ _ (elim is.closed [
      | inl single ↦ stands_has closed_single (assumption) text _ is.tail is.whole single
      | inr named ↦ absurd (bars_sound (codes "b'") closed_named refl ((is.content ++ codes "'") ++ is.tail) _ is.tail
          named refl)
    ])
bad_single_reason Character e f p r is =
    let text : List ℕ = f ++ (p ++ r) in
    let rest : List ℕ = (is.content ++ codes "'") ++ is.tail in
    let whole : text ≡ 39 ∷ rest = is.whole in
    by_front text Lone (ap front_of whole)
    ∙ elim is.closed as (λ z. reason_from Lone text ≡ content) [
      | inl single ↦
          cond-true _ _ _ (stands_has single_opening (assumption) text single.front (single.back ++ is.tail)
          (is.whole ∙ (ap (λ t. t ++ is.tail) single.whole ∙ append_assoc single.front single.back is.tail))
          single.first)
          ∙ cond-true _ _ _ (stands_has closed_single (assumption) text _ is.tail is.whole single)
      | inr named ↦
          cond-false _ _ _ (lacks_has single_opening (assumption) text (no_opening text rest whole
          (named_bars text rest whole (named_is text _ is.tail is.whole named))))
          ∙ cond-true _ _ _ (named_has text _ is.tail is.whole named)
    ]

-- ---- lifetimes

-- a run of name characters ends at one position only
one_run : (a b r s : List ℕ) → Stands (Run is_ident_continue) a r → Stands (Run is_ident_continue) b s
    → a ++ r ≡ b ++ s → r ≡ s
one_run a b r s is other e = (one_split (Run is_ident_continue) tt a b r s is other e).1

-- the text after a lifetime doesn't begin with a quote
no_quote_after : (r back : List ℕ) → r ≡ 39 ∷ back → first_passes is_quote r ≡ false → ⊥
no_quote_after r back e none = both_ways _ none (ap (first_passes is_quote) e)

-- a lifetime that begins with a digit is no character literal
pub digit_unnamed : (text r : List ℕ) (c : ℕ) (more : List ℕ) → text ≡ 39 ∷ c ∷ (more ++ r) → is_ascii_digit c ≡ true
    → Stands (Run is_ident_continue) more r → first_passes is_quote r ≡ false → IsNamed text → ⊥
digit_unnamed text r c more e digit run none (Raw named back whole is) =
    let same : 39 ∷ c ∷ (more ++ r) ≡ 39 ∷ 114 ∷ 35 ∷ (named ++ (39 ∷ back)) = sym e ∙ whole in
    let first : c ≡ 114 = cc in
    both_ways (is_ascii_digit 114) refl (ap is_ascii_digit (sym first) ∙ digit)
digit_unnamed text r c more e digit run none (Plain named back whole is) =
    let first = name_first named (39 ∷ back) is in
    let same : 39 ∷ c ∷ (more ++ r) ≡ 39 ∷ first.0 ∷ (first.1 ++ (39 ∷ back)) =
    sym e ∙ (whole ∙ ap (λ t. 39 ∷ (t ++ (39 ∷ back))) first.2) in
    let one : first.0 ≡ c = cc in
    no_both c (ap is_ident_start (sym one) ∙ first.3) digit
digit_unnamed text r c more e digit run none (Digit d others back whole also stands) =
    let same : 39 ∷ c ∷ (more ++ r) ≡ 39 ∷ d ∷ (others ++ (39 ∷ back)) = sym e ∙ whole in
    let rest : more ++ r ≡ others ++ (39 ∷ back) = cc in
    no_quote_after r back (one_run more others r (39 ∷ back) run stands rest) none

pub digit_lifetime_reason : (f p r : List ℕ) → Begins digit_lifetime f p r
    → main_reason (f ++ (p ++ r)) ≡ reasons.DigitLifetime
digit_lifetime_reason f p r is =
    let text : List ℕ = f ++ (p ++ r) in
    let begin = at_front f p r is.0 in
    let quote = is.1.0 in
    let digits = quote.second in
    let one = digits.first in
    let whole : text ≡ 39 ∷ one.0 ∷ (digits.back ++ r) =
    begin ∙ (ap (λ t. t ++ r) (quote.whole ∙ ap (λ t. t ++ quote.back) quote.first)
    ∙ ap (λ t. 39 ∷ (t ++ r)) (digits.whole ∙ ap (λ t. t ++ digits.back) one.1)) in
    by_front text Lone (ap front_of whole)
    ∙ (cond-false _ _ _ (lacks_has single_opening (assumption) text (no_opening text _ whole (or_right _ _ one.2)))
    ∙ (cond-false _ _ _ (lacks_named text (digit_unnamed text r one.0 digits.back whole one.2 digits.second is.1.1))
    ∙ cond-true _ _ _ (stands_has digit_lifetime (assumption) text p r begin is.1)))

-- a text that begins with a quote and a name has no lifetime that begins with a digit
no_digit : (text rest : List ℕ) (c : ℕ) → text ≡ 39 ∷ c ∷ rest → is_ident_start c ≡ true
    → HasNone (Stands digit_lifetime) text
no_digit text rest c e start p r split is =
    let quote = is.0 in
    let digits = quote.second in
    let one = digits.first in
    let same : 39 ∷ one.0 ∷ (digits.back ++ r) ≡ 39 ∷ c ∷ rest =
    sym (ap (λ t. t ++ r) (quote.whole ∙ ap (λ t. t ++ quote.back) quote.first)
    ∙ ap (λ t. 39 ∷ (t ++ r)) (digits.whole ∙ ap (λ t. t ++ digits.back) one.1)) ∙ (sym split ∙ e) in
    let first : c ≡ one.0 = cc in
    no_both c start (ap is_ascii_digit first ∙ one.2)

-- a lifetime with a hash sign after it is no character literal
pub hash_unnamed : (text r : List ℕ) (c : ℕ) (more : List ℕ) → text ≡ 39 ∷ c ∷ (more ++ (35 ∷ r))
    → is_ident_start c ≡ true → Stands (Run is_ident_continue) more (35 ∷ r)
    → HasNone (Stands raw_lifetime_start) text → IsNamed text → ⊥
hash_unnamed text r c more e start run none (Raw named back whole is) =
    let first = name_first named (39 ∷ back) is in
    none (codes "'r#" ++ (first.0 ∷ [])) (first.1 ++ (39 ∷ back))
    (whole ∙ ap (λ t. codes "'r#" ++ (t ++ (39 ∷ back))) first.2)
    (record {
      front = codes "'r#";
      back = first.0 ∷ [];
      whole = refl;
      first = refl;
      second = (first.0, refl, first.3);
    })
hash_unnamed text r c more e start run none (Plain named back whole is) =
    let first = name_first named (39 ∷ back) is in
    let same : 39 ∷ c ∷ (more ++ (35 ∷ r)) ≡ 39 ∷ first.0 ∷ (first.1 ++ (39 ∷ back)) =
    sym e ∙ (whole ∙ ap (λ t. 39 ∷ (t ++ (39 ∷ back))) first.2) in
    let rest : more ++ (35 ∷ r) ≡ first.1 ++ (39 ∷ back) = cc in
    let last : 35 ∷ r ≡ 39 ∷ back = one_run more first.1 (35 ∷ r) (39 ∷ back) run first.4 rest in
    let clash : ◌≡◌ {A = ℕ} 35 39 = cc in
    omega (arith, clash)
hash_unnamed text r c more e start run none (Digit d others back whole digit stands) =
    let same : 39 ∷ c ∷ (more ++ (35 ∷ r)) ≡ 39 ∷ d ∷ (others ++ (39 ∷ back)) = sym e ∙ whole in
    let first : d ≡ c = cc in
    no_both c start (ap is_ascii_digit (sym first) ∙ digit)

pub hash_after_reason : (f p r : List ℕ) → Follow lifetime (Exactly (codes "#")) f p r → Lacks raw_lifetime_start f p r
    → main_reason (f ++ (p ++ r)) ≡ reasons.HashAfterLifetime
hash_after_reason f p r is none =
    let text : List ℕ = f ++ (p ++ r) in
    let quote = is.0 in
    let hash : p ++ r ≡ 35 ∷ r = ap (λ t. t ++ r) is.1 in
    let named : Stands name quote.back (35 ∷ r) = subst (Stands name quote.back) hash quote.second in
    let first = name_first quote.back (35 ∷ r) named in
    let whole : text ≡ 39 ∷ first.0 ∷ (first.1 ++ (35 ∷ r)) =
    ap (λ t. f ++ t) hash
    ∙ (ap (λ t. t ++ (35 ∷ r)) (quote.whole ∙ ap (λ t. t ++ quote.back) quote.first)
    ∙ ap (λ t. 39 ∷ (t ++ (35 ∷ r))) first.2) in
    by_front text Lone (ap front_of whole)
    ∙ (cond-false _ _ _ (lacks_has single_opening (assumption) text (no_opening text _ whole (or_left _ _ first.3)))
    ∙ (cond-false _ _ _ (lacks_named text (hash_unnamed text r first.0 first.1 whole first.3 first.4 none))
    ∙ (cond-false _ _ _ (lacks_has digit_lifetime (assumption) text (no_digit text _ first.0 whole first.3))
    ∙ cond-false _ _ _ (lacks_has raw_lifetime_start (assumption) text none))))

-- a name stops before a hash sign
pub stops_at_hash : (more rest back : List ℕ) → Stands (Run is_ident_continue) more (39 ∷ back)
    → more ++ (39 ∷ back) ≡ 35 ∷ rest → ⊥
stops_at_hash [] rest back is e = let clash : ◌≡◌ {A = ℕ} 39 35 = cc in omega (arith, clash)
stops_at_hash (c ∷ more) rest back is e =
    let first : c ≡ 35 = cc in
    both_ways (is_ident_continue 35) (ident_continue_ascii 35 (omega arith))
    (ap is_ident_continue (sym first) ∙ (and_parts _ _ is.each).0)

-- a reserved lifetime is no character literal
pub reserved_unnamed : (text named r : List ℕ) → text ≡ codes "'r#" ++ (named ++ r) → Stands name named r
    → first_passes is_quote r ≡ false → IsNamed text → ⊥
reserved_unnamed text named r e is none (Raw other back whole also) =
    let same : 39 ∷ 114 ∷ 35 ∷ (named ++ r) ≡ 39 ∷ 114 ∷ 35 ∷ (other ++ (39 ∷ back)) = sym e ∙ whole in
    let rest : named ++ r ≡ other ++ (39 ∷ back) = cc in
    no_quote_after r back (one_split name (assumption) named other r (39 ∷ back) is also rest).1 none
reserved_unnamed text named r e is none (Plain other back whole also) =
    let first = name_first other (39 ∷ back) also in
    let same : 39 ∷ 114 ∷ 35 ∷ (named ++ r) ≡ 39 ∷ first.0 ∷ (first.1 ++ (39 ∷ back)) =
    sym e ∙ (whole ∙ ap (λ t. 39 ∷ (t ++ (39 ∷ back))) first.2) in
    let rest : first.1 ++ (39 ∷ back) ≡ 35 ∷ (named ++ r) = cc in
    stops_at_hash first.1 (named ++ r) back first.4 rest
reserved_unnamed text named r e is none (Digit d others back whole digit stands) =
    let same : 39 ∷ 114 ∷ 35 ∷ (named ++ r) ≡ 39 ∷ d ∷ (others ++ (39 ∷ back)) = sym e ∙ whole in
    let first : d ≡ 114 = cc in
    both_ways (is_ascii_digit 114) refl (ap is_ascii_digit (sym first) ∙ digit)

pub reserved_reason : (f p r : List ℕ) → Begins reserved_raw f p r
    → main_reason (f ++ (p ++ r)) ≡ reasons.ReservedRawName
reserved_reason f p r (start, inl is) = reserved_name_reason f p r start is
reserved_reason f p r (start, inr is) =
    let text : List ℕ = f ++ (p ++ r) in
    let quote = is.0 in
    let named = quote.second.0 in
    let first = name_first quote.back r named in
    let whole : text ≡ codes "'r#" ++ (quote.back ++ r) =
    at_front f p r start ∙ (ap (λ t. t ++ r) (quote.whole ∙ ap (λ t. t ++ quote.back) quote.first)
    ∙ append_assoc (codes "'r#") quote.back r) in
    by_front text Lone (ap front_of whole)
    ∙ (cond-false _ _ _ (lacks_has single_opening (assumption) text (no_opening text _ whole
    (or_left _ _ (ident_start_ascii 114 (omega arith)))))
    ∙ (cond-false _ _ _ (lacks_named text (reserved_unnamed text quote.back r whole named is.1))
    ∙ (cond-false _ _ _ (lacks_has digit_lifetime (assumption) text (no_digit text _ 114 whole
    (ident_start_ascii 114 (omega arith))))
    ∙ cond-true _ _ _ (stands_has raw_lifetime_start (assumption) text (codes "'r#" ++ (first.0 ∷ []))
    (first.1 ++ r) (whole ∙ ap (λ t. codes "'r#" ++ (t ++ r)) first.2) (record {
      front = codes "'r#";
      back = first.0 ∷ [];
      whole = refl;
      first = refl;
      second = (first.0, refl, first.3);
    })))))
