-- The finder of numbers, by how their text begins.
use Rattle.std.proofs.Common.{◌≡◌, ℕ, true, false, ◌==◌, List, [], ◌∷◌, Option, Some, None, refl, sym, ap, ap₂, ◌∙◌}
use Rattle.std.proofs.Common.{eqb-true}
use Rattle.std.specs.Char.{is_ascii_digit}
use Rattle.std.specs.Str.{chars}
use Rattle.std.proofs.lemmas.Bool.{cond-true, cond-false, both_ways, false_from_ne_true, true_from_ne_false}
use Rattle.lexical.specs.Text.{begins_any}
use Rattle.lexical.specs.Rule.{Then, find}
use Rattle.lexical.specs.Number.{Digits, Number, digits, end, float_tail, float, base_prefixes, based_number, integer}
use Rattle.lexical.specs.Number.{number}
use Rattle.lexical.specs.Number.{tail}
use Rattle.lexical.specs.Finder.{Answer, Finder, Finds, and_find, prepend, or_find}
use Rattle.lexical.specs.RuleMatch.{Reads}
use Rattle.lexical.specs.declared.cursor.TextCursor.{TextCursor}
use Rattle.lexical.proofs.TextLemmas.{begins_each, any_begins_more}
use Rattle.lexical.proofs.RuleLemmas.{Clear, exact, none_found, begins_one, bars, first_unbarred}
use Rattle.lexical.proofs.RuleSteps.{reads_same}

pub clear_number : Clear number
unfolding number
clear_number = assumption

pub finds_digits : Finds (find digits) Digits
finds_digits = exact digits (assumption)

pub finds_number : Finds (find number) Number
finds_number = exact number clear_number

-- ---- a number is read by how its text begins

-- no float begins with the prefix of another base
pub no_float : (text : List ℕ) → begins_any base_prefixes text ≡ true → find float text ≡ None
unfolding find
no_float text h = begins_each (λ t. find float t ≡ None) base_prefixes text h
    (λ rest. refl, (λ rest. refl, (λ rest. refl, tt)))

pub number_based : (text : List ℕ) → begins_any base_prefixes text ≡ true
    → find number text ≡ find (Then based_number end) text
unfolding number find
number_based text h = ap₂ or_find (no_float text h)
    (ap (λ o. and_find (find end) (or_find o (find based_number text))) (cond-true _ _ _ h))

-- without the prefix of another base no integer of another base is there
no_based : (text : List ℕ) → begins_any base_prefixes text ≡ false → find based_number text ≡ None
no_based text h =
    none_found based_number (assumption) text
    (λ p r e is. both_ways _ h (ap (begins_any base_prefixes) e
    ∙ any_begins_more base_prefixes p r (begins_one base_prefixes based_number refl p r is)))

or_nothing : (o : Answer) → or_find o None ≡ o
or_nothing None = refl
or_nothing (Some x) = refl

-- a finder before a choice is the choice of that finder before each part
and_either : (f g : Finder) (o : Answer)
    → or_find (and_find f o) (and_find g o) ≡ and_find (λ text. or_find (f text) (g text)) o
and_either f g None = refl
and_either f g (Some x) =
    elim (f x.1) as (λ u. or_find (prepend x.0 u) (prepend x.0 (g x.1)) ≡ prepend x.0 (or_find u (g x.1))) [
      | None ↦ refl
      | Some y ↦ refl
    ]

pub number_decimal : (text : List ℕ) → begins_any base_prefixes text ≡ false
    → find number text ≡ find (Then digits tail) text
unfolding number find
number_decimal text h =
    let plain : find integer text ≡ find digits text = ap₂ or_find (cond-false _ _ _ h) (no_based text h)
    ∙ or_nothing (find digits text) in
    ap (λ o. or_find (find float text) (and_find (find end) o)) plain
    ∙ and_either (find float_tail) (find end) (find digits text)

pub reads_based : (at : TextCursor) (result : Option TextCursor) → begins_any base_prefixes (chars at.rest.now) ≡ true
    → Reads (Then based_number end) at result → Reads number at result
reads_based at result h = reads_same (Then based_number end) number at result (number_based (chars at.rest.now) h)

pub reads_decimal : (at : TextCursor) (result : Option TextCursor)
    → begins_any base_prefixes (chars at.rest.now) ≡ false
    → Reads (Then digits tail) at result → Reads number at result
reads_decimal at result h = reads_same (Then digits tail) number at result (number_decimal (chars at.rest.now) h)

-- ---- a number begins with a digit

pub number_first : (p r : List ℕ) → Number p r → (c : ℕ) × (more : List ℕ) × (p ≡ c ∷ more) × (is_ascii_digit c ≡ true)
unfolding number
number_first p r is =
    let at = first_unbarred number refl p r is in
    (at.0, at.1, at.2, true_from_ne_false _ (λ out. both_ways _ at.3 (others_barred at.0 out)))
  where
    others_barred : (c : ℕ) → is_ascii_digit c ≡ false → bars (c ∷ []) number ≡ true
    others_barred c out =
        let zero : (48 == c) ≡ false =
        false_from_ne_true _ (λ e. both_ways _ out (ap is_ascii_digit (sym (eqb-true 48 c e)))) in
        simp (out, zero)

-- which kind of number is read, by how the text begins
pub ruleset read_numbers = (reads_based, reads_decimal)
