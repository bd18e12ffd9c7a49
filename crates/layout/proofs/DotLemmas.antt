-- A literal is still a token before a dot that does not extend it.
use Rattle.std.proofs.Common.{◌≡◌, ℕ, Bool, true, false, not, ◌||◌, List, [], ◌∷◌, ◌++◌, refl, sym, ap, ◌∙◌}
use Rattle.std.proofs.Common.{inl, inr, subst, append_assoc, append-nil}
use Rattle.std.specs.List.{list_all}
use Rattle.std.specs.Char.{is_ascii_digit}
use Rattle.std.proofs.lemmas.Bool.{both_ways, or_left, or_right, and_from, and_parts, cases_Bool, cond-true, cond-false}
use Rattle.std.proofs.lemmas.Bool.{not-true, false_from_ne_true}
use Rattle.unicode_ident.proofs.Computing.{unicode_ident}
use Rattle.lexical.specs.Class.{is_ident_continue}
use Rattle.lexical.specs.Text.{ends_with, first_passes}
use Rattle.lexical.specs.Form.{HasNone}
use Rattle.lexical.specs.Rule.{Rule, Run, Then, Stands, perhaps}
use Rattle.lexical.specs.Literal as literals
use Rattle.lexical.specs.Literal.{AnyLiteral}
use Rattle.lexical.specs.Number as rule
use Rattle.lexical.specs.Number.{is_sign, is_digit_or_underscore, bars_dot, Digits, Number, number}
use Rattle.lexical.specs.Token.{Literal}
use Rattle.lexical.specs.Piece as pieces
use Rattle.lexical.proofs.ClassLemmas.{Sub}
use Rattle.lexical.proofs.TextLemmas.{ends_back, ends_splits}
use Rattle.grammar_laws.proofs.StableLemmas.{KeepsNone, Looks, Stable, Within, anew, all_in, fronts_compared}
use Rattle.grammar_laws.proofs.StableLemmas.{none, none_extended, none_one, passes_at, stable}
use Rattle.grammar_laws.proofs.NumberLemmas.{Dotted, Exponential, float_moved, on_digits, digit_continues}
use Rattle.grammar_laws.proofs.NumberLemmas.{underscore_continues, digits_continue, letter_continues, within_suffix}
use Rattle.grammar_laws.proofs.NumberLemmas.{looks_end, stable_digits}
use Rattle.grammar_laws.proofs.IntegerLemmas.{on_integer_end, stable_integer}
use Rattle.grammar_laws.proofs.LiteralLemmas.{quoted_stable}
use Rattle.pm_token.specs.Built.{IsBuiltToken}
use Rattle.proc_macro2.proofs.PieceStarts.{whole_any}
use Rattle.layout.specs.Layout.{frees_dot, is_digits}

-- ---- the characters of numbers

-- the characters of a float that has no dot
abbrev is_dotless : ℕ → Bool
is_dotless c = is_ident_continue c || is_sign c

no_dot : is_ident_continue 46 ≡ false
unfolding unicode_ident
no_dot = refl

undotted_dot : is_dotless 46 ≡ false
unfolding unicode_ident
undotted_dot = refl

-- no dot is among characters that may all continue an identifier
out_of_plain : (p front back : List ℕ) (c : ℕ) → list_all is_ident_continue p ≡ true → p ≡ front ++ (c ∷ back) → c ≡ 46
    → ⊥
out_of_plain p front back c plain e dot =
    both_ways _ no_dot (sym (ap is_ident_continue dot) ∙ passes_at is_ident_continue p front c back plain e)

-- a float with a dot is not made of characters that may all continue an identifier
no_dotted : (q d s : List ℕ) → list_all is_ident_continue (q ++ d) ≡ true → Dotted q (d ++ s) → ⊥
no_dotted q d s all is =
    let after = is.second in
    let whole : q ++ d ≡ is.front ++ (46 ∷ (after.back ++ d)) =
    ap (λ z. z ++ d) (is.whole ∙ ap (λ x. is.front ++ x) (after.whole ∙ ap (λ x. x ++ after.back) after.first.0))
    ∙ append_assoc is.front (46 ∷ after.back) d in
    out_of_plain (q ++ d) is.front (after.back ++ d) 46 all whole refl

sub_undotted : (passes : ℕ → Bool) → Sub passes is_ident_continue → Sub passes is_dotless
sub_undotted passes on c is = or_left (is_ident_continue c) _ (on c is)

sign_undotted : Sub is_sign is_dotless
sign_undotted c is = or_right (is_ident_continue c) _ is

within_exponent : Within is_dotless rule.exponent
within_exponent =
    let underscore = sub_undotted _ underscore_continues in (
      sub_undotted _ letter_continues,
      (
        underscore,
        ((sign_undotted, refl), (underscore, (sub_undotted _ digit_continues, sub_undotted _ digits_continue))),
      ),
    )

-- a float with an exponent but no dot has no dot in its exponent either
on_exponential : (q t : List ℕ) → Exponential q t → list_all is_dotless q ≡ true
on_exponential q t is =
    let within : Within is_dotless (Then rule.digits (Then rule.exponent rule.end)) = (
      (sub_undotted _ digit_continues, sub_undotted _ digits_continue),
      (within_exponent, within_suffix is_dotless (λ c is. or_left (is_ident_continue c) _ is)),
    ) in
    all_in is_dotless (Then rule.digits (Then rule.exponent rule.end)) within q t is

-- the digits of a number are a digit and then only digits and `_`
digits_of : (x t : List ℕ) → Digits x t → is_digits x ≡ true
digits_of x t is =
    let all =
    all_in is_digit_or_underscore rule.digits ((λ c digit. or_left (is_ascii_digit c) _ digit), (λ c each. each)) in
    and_from (first_passes is_ascii_digit x) (list_all is_digit_or_underscore x)
    (ap (first_passes is_ascii_digit) (is.whole ∙ ap (λ z. z ++ is.back) is.first.1) ∙ is.first.2) (all x t is)

-- ---- integers

-- two equal texts, each with a dot after characters that may continue an identifier, are equal before and after the dot
split_at_dot : (p r x y : List ℕ) → list_all is_ident_continue p ≡ true → list_all is_ident_continue x ≡ true
    → p ++ (46 ∷ r) ≡ x ++ (46 ∷ y) → (p ≡ x) × (r ≡ y)
split_at_dot p r x y plain digits e = elim (fronts_compared p (46 ∷ r) x (46 ∷ y) e) [
  | inl within ↦ by_rest within.0 within.1 within.2
  | inr past ↦
      let dot : past.0 ≡ 46 = cc in
      absurd (out_of_plain x p past.1 past.0 digits past.2 dot)
]
  where
    by_rest : (m : List ℕ) → p ≡ x ++ m → (46 ∷ y) ≡ m ++ (46 ∷ r) → (p ≡ x) × (r ≡ y)
    by_rest [] whole rest =
        let after : r ≡ y = cc in
        (whole ∙ append-nil x, after)
    by_rest (d ∷ m) whole rest =
        let dot : d ≡ 46 = cc in
        absurd (out_of_plain p x m d plain whole dot)

-- if no float begins the literal alone, none begins the literal with a dot after it that does not extend it
none_before_dot : (p r : List ℕ) → list_all is_ident_continue p ≡ true
    → (is_digits p ≡ true → first_passes bars_dot r ≡ true) → HasNone (Stands rule.float) (p ++ [])
    → HasNone (Stands rule.float) (p ++ (46 ∷ r))
none_before_dot p r plain bars none q t e is = elim (fronts_compared p (46 ∷ r) q t e) [
  | inl within ↦
      none q (within.0 ++ [])
      (append-nil p ∙ (within.1 ∙ ap (λ z. q ++ z) (sym (append-nil within.0))))
      (float_moved q within.0 [] (46 ∷ r) refl
      (λ dotted. absurd (no_dotted q within.0 (46 ∷ r) (ap (list_all is_ident_continue) (sym within.1) ∙ plain) dotted))
      (subst (Stands rule.float q) within.2 is))
  | inr past ↦ elim is.second [
    | inl fraction ↦
        let split =
        split_at_dot p r is.front (fraction.back ++ t) plain (on_digits is.front (is.back ++ t) is.first)
        (e ∙ (ap (λ z. z ++ t) (is.whole ∙ ap (λ z. is.front ++ z)
        (fraction.whole ∙ ap (λ z. z ++ fraction.back) fraction.first.0))
        ∙ append_assoc is.front (46 ∷ fraction.back) t)) in
        both_ways _ fraction.first.1
        (ap (first_passes bars_dot) (sym split.1)
        ∙ bars (ap is_digits split.0 ∙ digits_of is.front (is.back ++ t) is.first))
    | inr exponential ↦
        let dot : past.0 ≡ 46 = cc in
        both_ways _ undotted_dot
        (sym (ap is_dotless dot) ∙ passes_at is_dotless q p past.0 past.1
        (on_exponential q t (anew _ _ _ q t t is is.first exponential)) past.2)
  ]
]

-- ---- floats

-- what follows the dot of a float
abbrev tail : Rule
tail = Then (Run is_digit_or_underscore) (Then (perhaps rule.exponent) rule.end)

-- a dot after it does not extend what follows the dot of a float
stable_tail : Stable is_dotless (Stands tail)
stable_tail =
    let digits = sub_undotted _ digits_continue in
    let exponent : Looks is_dotless 0 rule.exponent =
    (tt, (tt, ((tt, tt, none_one is_dotless is_sign), (tt, (tt, digits))))) in
    let exponent_none : KeepsNone is_dotless 0 (Stands rule.exponent) =
    none_extended is_dotless rule.exponent within_exponent
    (tt, (tt, ((tt, tt, none_one none is_sign), (tt, (tt, tt))))) in
    let end = looks_end is_dotless (λ c is. or_left (is_ident_continue c) _ is) in
    stable is_dotless tail (digits, ((exponent, tt, exponent_none), end))

-- a float with a dot that is not its last character is still a float before another dot
dotted_before_dot : (p r : List ℕ) → ends_with 46 p ≡ false → Dotted p [] → Dotted p (46 ∷ r)
dotted_before_dot p r closed is =
    let after = is.second in
    anew _ _ _ p [] (46 ∷ r) is (stable_digits is.front is.back [] (46 ∷ r) no_dot is.first)
    (anew _ _ _ is.back [] (46 ∷ r) after (after.first.0, by_back after.back refl after.first.1)
    (stable_tail after.back [] [] (46 ∷ r) undotted_dot after.second))
  where
    by_back : (back : List ℕ) → is.second.back ≡ back → first_passes bars_dot (back ++ []) ≡ false
        → first_passes bars_dot (back ++ (46 ∷ r)) ≡ false
    by_back (c ∷ back) same free = free
    by_back [] same free =
        let whole : p ≡ is.front ++ (46 ∷ []) =
        is.whole ∙ ap (λ z. is.front ++ z)
        (is.second.whole ∙ (ap (λ z. z ++ is.second.back) is.second.first.0 ∙ ap (λ z. 46 ∷ z) same)) in
        absurd (both_ways _ closed (ap (ends_with 46) whole ∙ ends_back 46 is.front))

-- ---- literals

-- digits and `_` do not end with a dot
digits_end : (p : List ℕ) → list_all is_digit_or_underscore p ≡ true → ends_with 46 p ≡ false
digits_end p all = false_from_ne_true _ (λ ends.
    let split = ends_splits 46 p ends in
    both_ways (is_digit_or_underscore 46) refl (passes_at is_digit_or_underscore p split.0 46 [] all split.1))

-- a literal that ends with a dot is extended by each dot
free_closed : (p r : List ℕ) → frees_dot p r ≡ true → ends_with 46 p ≡ false
free_closed p r free = elim (cases_Bool (is_digits p)) [
  | inl digits ↦
      digits_end p (and_parts (first_passes is_ascii_digit p) (list_all is_digit_or_underscore p) digits).1
  | inr other ↦
      not-true (ends_with 46 p)
      (sym (cond-false (is_digits p) (first_passes bars_dot r) (not (ends_with 46 p)) other) ∙ free)
]

-- digits are extended by a dot unless the text after it bars the dot
free_bars : (p r : List ℕ) → frees_dot p r ≡ true → is_digits p ≡ true → first_passes bars_dot r ≡ true
free_bars p r free digits =
    sym (cond-true (is_digits p) (first_passes bars_dot r) (not (ends_with 46 p)) digits) ∙ free

number_before_dot : (p r : List ℕ) → frees_dot p r ≡ true → Number p [] → Number p (46 ∷ r)
unfolding number
number_before_dot p r free is = elim is [
  | inl float ↦ inl (float_moved p [] (46 ∷ r) [] no_dot (dotted_before_dot p r (free_closed p r free)) float)
  | inr int ↦ inr (
    none_before_dot p r (on_integer_end p [] int.1) (free_bars p r free) int.0,
    stable_integer p [] [] (46 ∷ r) no_dot int.1,
  )
]

literal_before_dot : (p r : List ℕ) → frees_dot p r ≡ true → AnyLiteral p [] → AnyLiteral p (46 ∷ r)
unfolding literals.Literal
literal_before_dot p r free is = elim is [
  | inl literal ↦ inl (elim literal [
    | inl quoted ↦ inl (quoted_stable p [] [] (46 ∷ r) no_dot quoted)
    | inr number ↦ inr (number_before_dot p r free number)
  ])
  | inr error ↦ inr error
]

pub dot_stands : (text r s : List ℕ) → IsBuiltToken (Literal text) → frees_dot text r ≡ true → s ≡ 46 ∷ r
    → pieces.Stands (Literal text) s
dot_stands text r s built free is = rw is (literal_before_dot text r free (whole_any text built))
