-- Where no number begins.
use Rattle.std.proofs.Common.{◌≡◌, ℕ, Bool, true, false, not, ◌+◌, cond, List, [], ◌∷◌, ◌++◌, codes, Some, None}
use Rattle.std.proofs.Common.{arith}
use Rattle.std.proofs.Common.{refl, sym, ap, ◌∙◌, subst}
use Rattle.std.specs.Char.{is_ascii_digit, is_digit}
use Rattle.std.specs.Str.{chars}
use Rattle.std.proofs.lemmas.Bool.{cond-true, cond-false, and_from, or_from, false_from_ne_true, or_parts}
use Rattle.std.proofs.lemmas.Bool.{true_from_ne_false}
use Rattle.lexical.specs.Class.{is_ident_start, is_ident_continue}
use Rattle.lexical.specs.Bytes.{radix}
use Rattle.lexical.specs.Finder.{Answer, Finder, and_find, prepend, or_find, if_passes, find_run, while_front}
use Rattle.lexical.specs.Finder.{while_rest}
use Rattle.lexical.specs.Identifier.{name}
use Rattle.lexical.specs.Number.{digits, decimal, based_number, base_prefixes, base_digits, digits_in}
use Rattle.lexical.specs.Number.{end as number_end}
use Rattle.lexical.specs.Number.{float_tail, integer}
use Rattle.lexical.specs.Number.{is_digit_or_underscore, is_digit_or_underscore_in, is_underscore, number, tail}
use Rattle.lexical.specs.Rule.{Rule, One, Run, Exactly, Then, find}
use Rattle.lexical.specs.RuleMatch.{Passes}
use Rattle.lexical.specs.Text.{begins_any, begins_with, first_passes}
use Rattle.lexical.specs.declared.bytes.Base.{Base}
use Rattle.lexical.specs.declared.bytes.Base.TheVariants.{Binary, Octal, Hexadecimal}
use Rattle.lexical.specs.declared.cursor.TextCursor.{TextCursor}
use Rattle.lexical.proofs.NumberFinderLemmas.{number_based, number_decimal}
use Rattle.lexical.proofs.RuleSteps.{find_then, find_else, passes_piece, past_text, one_passes, then_passes, then_lacks}
use Rattle.lexical.proofs.RuleSteps.{either_first, either_reads, else_first, perhaps_stays, before_passes}
use Rattle.lexical.proofs.RuleSteps.{not_at_passes}
use Rattle.lexical.proofs.RuleSteps.{not_at_stops, text_lacks, lacks_text}
use Rattle.explain.specs.Shapes.{base_prefix, bare_prefix, base_front, ends_badly, goes_on_base}
use Rattle.explain.specs.Trouble.{IsTrouble}
use Rattle.explain.specs.declared.reason.Reason.TheVariants.{BadDigit, BadNumberEnd, NoDigits}
use Rattle.explain.proofs.TroubleLemmas.{trouble, trouble_here}

-- ---- what can't follow a number

stops : (passes : ℕ → Bool) (text : List ℕ) → first_passes passes (while_rest passes text) ≡ false
stops passes [] = refl
stops passes (c ∷ text) = grind (arith, stops passes text)

abbrev before_no : Answer → Answer
before_no o = if_passes (λ p r. not (first_passes is_ident_continue r)) o

bad_end_of : (c : ℕ) (t : List ℕ) (b : Bool) → is_ident_start c ≡ b → find number_end (c ∷ t) ≡ None
    → is_ascii_digit c ≡ false → ends_badly c ≡ true
unfolding find
bad_end_of c t true e none plain =
    let named : find name (c ∷ t)
    ≡ Some (c ∷ while_front is_ident_continue t, while_rest is_ident_continue t) =
    ap (and_find (find_run is_ident_continue)) (cond-true _ _ _ e) in
    let ended : find number_end (c ∷ t) ≡ Some (c ∷ while_front is_ident_continue t, while_rest is_ident_continue t) =
    ap (λ o. before_no (or_find o (Some ([], c ∷ t)))) named
    ∙ cond-true _ _ _ (ap not (stops is_ident_continue t)) in
    let clash : ◌≡◌ {A = Answer} (Some (c ∷ while_front is_ident_continue t, while_rest is_ident_continue t)) None =
    sym ended ∙ none in
    absurd (cc)
bad_end_of c t false e none plain =
    let ended : find number_end (c ∷ t) ≡ cond (not (is_ident_continue c)) (Some ([], c ∷ t)) None =
    ap (λ o. before_no (or_find (and_find (find_run is_ident_continue) o) (Some ([], c ∷ t)))) (cond-false _ _ _ e) in
    let goes_on : is_ident_continue c ≡ true = true_from_ne_false _ (λ no.
    let clash : ◌≡◌ {A = Answer} (Some ([], c ∷ t)) None =
    sym (cond-true _ _ _ (ap not no)) ∙ (sym ended ∙ none) in
    cc) in
    and_from _ _ goes_on (ap not (or_from _ _ e plain))

pub bad_end : (c : ℕ) (t : List ℕ) → find number_end (c ∷ t) ≡ None → is_ascii_digit c ≡ false → ends_badly c ≡ true
bad_end c t none plain = bad_end_of c t (is_ident_start c) refl none plain

pub end_at_end : find number_end [] ≡ None → (P : Type 0) → P
unfolding find
end_at_end none P = let clash : ◌≡◌ {A = Answer} (Some ([], [])) None = none in absurd (cc)

-- ---- the parts of a number, all of which match but the last

prepend_none : (p q : List ℕ) (o : Answer) → prepend p o ≡ None → prepend q o ≡ None
prepend_none p q None e = refl
prepend_none p q (Some x) e = absurd (cc)

and_none : (f : Finder) (front : List ℕ) (o u : Answer) → and_find f (or_find (prepend front o) u) ≡ None
    → and_find f o ≡ None
and_none f front None u e = refl
and_none f front (Some x) u e = prepend_none (front ++ x.0) x.0 (f x.1) e

and_last : (f : Finder) (front : List ℕ) (o : Answer) → and_find f (prepend front o) ≡ None → and_find f o ≡ None
and_last f front None e = refl
and_last f front (Some x) e = prepend_none (front ++ x.0) x.0 (f x.1) e

pub or_none : (o u : Answer) → or_find o u ≡ None → (o ≡ None) × (u ≡ None)
or_none None u e = (refl, e)
or_none (Some x) u e = absurd (cc)

pub none_after : (front : List ℕ) (o : Answer) → prepend front o ≡ None → o ≡ None
none_after front None e = refl
none_after front (Some x) e = absurd (cc)

pub none_in : (base : Base) (rest : List ℕ) → find number (base_prefix base ++ rest) ≡ None
    → find (Then (digits_in (radix base)) number_end) rest ≡ None
unfolding find
none_in Hexadecimal rest e =
    and_none (find number_end) (codes "0x") (find (digits_in 16) rest) _ (sym (number_based
    (codes "0x" ++ rest) refl) ∙ e)
none_in Octal rest e =
    and_none (find number_end) (codes "0o") (find (digits_in 8) rest) _ (sym (number_based
    (codes "0o" ++ rest) refl) ∙ e)
none_in Binary rest e =
    and_last (find number_end) (codes "0b") (find (digits_in 2) rest) (sym (number_based (codes "0b" ++ rest) refl) ∙ e)

-- ---- steps that lead to the fault

pub one_none : (passes : ℕ → Bool) (text : List ℕ) → find (One passes) text ≡ None → first_passes passes text ≡ false
unfolding find
one_none passes [] e = refl
one_none passes (c ∷ text) e = false_from_ne_true _ (λ is.
    let clash : ◌≡◌ {A = Answer} (Some (c ∷ [], text)) None = sym (cond-true _ _ _ is) ∙ e in
    cc)

pub run_stops : (passes : ℕ → Bool) (at to : TextCursor) → Passes (Run passes) at to
    → first_passes passes (chars to.rest.now) ≡ false
run_stops passes at to h = (passes_piece (Run passes) tt at to h).1.stops

pub none_of_rest : (a b : Rule) (at to : TextCursor) → Passes a at to → find (Then a b) (chars at.rest.now) ≡ None
    → find b (chars to.rest.now) ≡ None
none_of_rest a b at to h none =
    none_after h.front (find b (chars to.rest.now))
    (ap (and_find (find b)) (sym h.found) ∙ (sym (find_then a b (chars at.rest.now)) ∙ none))

pub past_bad : (end after : TextCursor) (c : ℕ) → chars end.rest.now ≡ c ∷ chars after.rest.now
    → after.chars_before ≡ end.chars_before + 1 → find number_end (chars end.rest.now) ≡ None
    → first_passes is_ascii_digit (chars end.rest.now) ≡ false → Passes (One ends_badly) end after
past_bad end after c split count none plain =
    one_passes ends_badly c end after split count
    (bad_end c (chars after.rest.now) (subst (λ t. find number_end t ≡ None) split none)
    (subst (λ t. first_passes is_ascii_digit t ≡ false) split plain))

-- a number with the prefix of a base is no number of another base
apart_from : (at inside : TextCursor) (prefix other : List ℕ) (rule : Rule) → Passes (Exactly prefix) at inside
    → ((rest : List ℕ) → begins_with other (prefix ++ rest) ≡ false)
    → find (Then (Exactly other) rule) (chars at.rest.now) ≡ None
apart_from at inside prefix other rule h apart =
    then_lacks _ _ _ (text_lacks other _
    (subst (λ t. begins_with other t ≡ false) (sym (past_text prefix at inside h).0) (apart (chars inside.rest.now))))

based_passes : (base : Base) (at inside end : TextCursor) → Passes (Exactly (base_prefix base)) at inside
    → Passes (digits_in (radix base)) inside end → Passes based_number at end
based_passes Hexadecimal at inside end h j = either_first _ _ at end (then_passes _ _ at inside end h j)
based_passes Octal at inside end h j =
    either_reads _ _ at (Some end) (apart_from at inside (codes "0o") (codes "0x") _ h (λ rest. refl))
    (either_first _ _ at end (then_passes _ _ at inside end h j))
based_passes Binary at inside end h j =
    either_reads _ _ at (Some end) (apart_from at inside (codes "0b") (codes "0x") _ h (λ rest. refl))
    (either_reads _ _ at (Some end) (apart_from at inside (codes "0b") (codes "0o") _ h (λ rest. refl))
    (then_passes _ _ at inside end h j))

begins_prefix : (base : Base) (rest : List ℕ) → begins_any base_prefixes (base_prefix base ++ rest) ≡ true
begins_prefix Hexadecimal rest = refl
begins_prefix Octal rest = refl
begins_prefix Binary rest = refl

integer_passes : (base : Base) (at inside end : TextCursor) → Passes (Exactly (base_prefix base)) at inside
    → Passes (digits_in (radix base)) inside end → Passes integer at end
integer_passes base at inside end h j =
    either_reads decimal based_number at (Some end)
    (not_at_stops base_prefixes digits _
    (subst (λ t. begins_any base_prefixes t ≡ true) (sym (past_text (base_prefix base) at inside h).0)
    (begins_prefix base (chars inside.rest.now))))
    (based_passes base at inside end h j)

-- ---- a number of another base

module _ (base : Base) (at inside start : TextCursor) (prefix : Passes (Exactly (base_prefix base)) at inside)
    (run : Passes (Run is_underscore) inside start) where
  abbrev digit : ℕ → Bool
  digit c = is_digit c (radix base)

  front_bare : find (One digit) (chars start.rest.now) ≡ None → Passes (base_front base) at start
  front_bare none =
      then_passes _ _ at inside start prefix (then_passes _ _ inside start start run
      (perhaps_stays (base_digits (radix base)) start (then_lacks _ _ _ none)))

  pub bad_first : (after : TextCursor) → find (One digit) (chars start.rest.now) ≡ None
      → Passes (One is_ascii_digit) start after
      → IsTrouble at (record { reason = BadDigit; at = start; after = after })
  bad_first after none j =
      trouble (base_front base) (One is_ascii_digit) (assumption) tt at start after BadDigit (front_bare none) j
      (λ front part whole is. (base, is))

  pub no_digits : find (One digit) (chars start.rest.now) ≡ None
      → find (One is_ascii_digit) (chars start.rest.now) ≡ None
      → IsTrouble at (record { reason = NoDigits; at = at; after = start })
  no_digits none none' =
      trouble_here (bare_prefix base) (assumption) at start NoDigits
      (before_passes (goes_on_base base) _ at start (then_passes _ _ at inside start prefix run)
      (goes_on_none (chars start.rest.now) (one_none digit _ none) (run_stops is_underscore inside start run)
      (one_none is_ascii_digit _ none')))
      (λ front part whole is. (base, is))
    where
      goes_on_none : (text : List ℕ) → first_passes digit text ≡ false → first_passes is_underscore text ≡ false
          → first_passes is_ascii_digit text ≡ false → first_passes (goes_on_base base) text ≡ false
      goes_on_none [] a b c = refl
      goes_on_none (d ∷ text) a b c = or_from _ _ (or_from _ _ a b) c

  module _ (first end : TextCursor) (one : Passes (One digit) start first)
      (more : Passes (Run (is_digit_or_underscore_in (radix base))) first end) where
    pub bad_later : (after : TextCursor) → Passes (One is_ascii_digit) end after
        → IsTrouble at (record { reason = BadDigit; at = end; after = after })
    bad_later after j =
        trouble (base_front base) (One is_ascii_digit) (assumption) tt at end after BadDigit
        (then_passes _ _ at inside end prefix (then_passes _ _ inside start end run
        (else_first _ _ start end (then_passes _ _ start first end one more)))) j
        (λ front part whole is. (base, is))

    digits_pass : find (One is_ascii_digit) (chars end.rest.now) ≡ None → Passes (digits_in (radix base)) inside end
    digits_pass none =
        before_passes is_ascii_digit _ inside end
        (then_passes _ _ inside start end run (then_passes _ _ start first end one more))
        (one_none is_ascii_digit _ none)

    pub end_none : find (One is_ascii_digit) (chars end.rest.now) ≡ None
        → find (Then (digits_in (radix base)) number_end) (chars inside.rest.now) ≡ None
        → find number_end (chars end.rest.now) ≡ None
    end_none plain none = none_of_rest (digits_in (radix base)) number_end inside end (digits_pass plain) none

    pub bad_end_based : (after : TextCursor) → find (One is_ascii_digit) (chars end.rest.now) ≡ None
        → Passes (One ends_badly) end after
        → IsTrouble at (record { reason = BadNumberEnd; at = end; after = after })
    bad_end_based after none j =
        trouble integer (One ends_badly) (assumption) tt at end after BadNumberEnd
        (integer_passes base at inside end prefix (digits_pass none)) j
        (λ front part whole is. is)

-- ---- a decimal number

pub no_prefix : (text : List ℕ) → find (Exactly (codes "0x")) text ≡ None → find (Exactly (codes "0o")) text ≡ None
    → find (Exactly (codes "0b")) text ≡ None → begins_any base_prefixes text ≡ false
no_prefix text a b c =
    or_from _ _ (lacks_text _ _ a) (or_from _ _ (lacks_text _ _ b) (or_from _ _ (lacks_text _ _ c) refl))

pub decimal_end : (at end : TextCursor) → begins_any base_prefixes (chars at.rest.now) ≡ false
    → find number (chars at.rest.now) ≡ None → Passes digits at end → find number_end (chars end.rest.now) ≡ None
decimal_end at end plain none h =
    (or_none _ _ (sym (find_else float_tail number_end (chars end.rest.now))
    ∙ none_of_rest digits tail at end h (sym (number_decimal _ plain) ∙ none))).1

pub bad_end_decimal : (at end after : TextCursor) → begins_any base_prefixes (chars at.rest.now) ≡ false
    → Passes digits at end → Passes (One ends_badly) end after
    → IsTrouble at (record { reason = BadNumberEnd; at = end; after = after })
bad_end_decimal at end after plain h j =
    trouble integer (One ends_badly) (assumption) tt at end after BadNumberEnd
    (either_first decimal based_number at end (not_at_passes base_prefixes digits at end plain h)) j
    (λ front part whole is. is)

pub digit_none : (text : List ℕ) → first_passes is_digit_or_underscore text ≡ false
    → first_passes is_ascii_digit text ≡ false
digit_none [] h = refl
digit_none (c ∷ text) h = (or_parts _ _ h).0
