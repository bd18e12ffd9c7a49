-- An integer or any number stays what it is, if the new text after it does not continue it, at once or later.
use Rattle.std.proofs.Common.{◌≡◌, ℕ, ◌≤◌, nat_lt, true, false, not, ◌||◌, List, [], ◌++◌, refl, sym, ap, ◌∙◌, arith}
use Rattle.std.proofs.Common.{inl, inr}
use Rattle.std.specs.Char.{is_digit, digit_value}
use Rattle.std.proofs.lemmas.Bool.{agree_below_at, cases_lt, le-ltb, lt-ltb, ltb-true, cond-false}
use Rattle.unicode_ident.proofs.Computing.{unicode_ident}
use Rattle.lexical.specs.Class.{is_ident_continue}
use Rattle.lexical.specs.Text.{first_passes}
use Rattle.lexical.specs.Form.{HasNone}
use Rattle.lexical.specs.Rule.{Then, Stands}
use Rattle.lexical.specs.Number as rule
use Rattle.lexical.specs.Number.{is_underscore, base_prefixes, is_digit_or_underscore_in, Number, number}
use Rattle.lexical.proofs.ClassLemmas.{Sub}
use Rattle.lexical.proofs.QuotedLemmas.{stops, stop_out}
use Rattle.grammar_laws.proofs.StableLemmas.{sub_either, Stable, AllIn, Looks, Within, stops_within, stable, all_in}
use Rattle.grammar_laws.proofs.NumberLemmas.{goes_on, continue_goes_on, digit_continues, underscore_continues}
use Rattle.grammar_laws.proofs.NumberLemmas.{digits_continue, looks_end, within_suffix, stable_float, none_moved}
use Rattle.grammar_laws.proofs.NumberLemmas.{float_ends, no_new_float}

-- ---- the digits of an integer

digit_value_high : (c : ℕ) → 128 ≤ c → digit_value c ≡ 36
digit_value_high c high =
    let le : (n : ℕ) → n ≤ 128 → nat_lt c n ≡ false = λ n h. le-ltb c n (omega arith) in
    cond-false _ _ _ (le 48 (omega arith))
    ∙ (cond-false _ _ _ (le 58 (omega arith)) ∙ (cond-false _ _ _ (le 65 (omega arith))
    ∙ (cond-false _ _ _ (le 91 (omega arith))
    ∙ (cond-false _ _ _ (le 97 (omega arith)) ∙ cond-false _ _ _ (le 123 (omega arith))))))

module _ (base : ℕ) (small : base ≤ 36) where
  base_digit_continues : Sub (λ c. is_digit c base) is_ident_continue
  unfolding unicode_ident
  base_digit_continues c is = elim (cases_lt c 128) [
    | inl low ↦ sym (ap (λ b. not b || is_ident_continue c)
        (lt-ltb (digit_value c) 36 (omega (arith, ltb-true (digit_value c) base is))))
        ∙ agree_below_at (λ x. not (nat_lt (digit_value x) 36) || is_ident_continue x) (λ x. true) 128 c refl low
    | inr high ↦ absurd (omega (arith, ltb-true (digit_value c) base is, digit_value_high c high))
  ]

  base_digits_continue : Sub (is_digit_or_underscore_in base) is_ident_continue
  base_digits_continue = sub_either (λ c. is_digit c base) is_underscore is_ident_continue base_digit_continues
      underscore_continues

  looks_digits_in : Looks is_ident_continue 0 (rule.digits_in base)
  looks_digits_in = (digit_continues, (tt, (tt, base_digits_continue)))

  within_digits_in : Within is_ident_continue (rule.digits_in base)
  within_digits_in = (underscore_continues, (base_digit_continues, base_digits_continue))

-- ---- integers

looks_decimal : Looks is_ident_continue 0 rule.decimal
unfolding unicode_ident
looks_decimal = (refl, (tt, digits_continue))

pub stable_integer : Stable is_ident_continue (Stands (Then rule.integer rule.end))
stable_integer = stable is_ident_continue (Then rule.integer rule.end) (
  (
    looks_decimal,
    (
      (tt, looks_digits_in 16 (omega arith)),
      ((tt, looks_digits_in 8 (omega arith)), (tt, looks_digits_in 2 (omega arith))),
    ),
  ),
  looks_end is_ident_continue (λ c is. is),
)

within_integer : Within is_ident_continue rule.integer
unfolding unicode_ident
within_integer = (
  (digit_continues, digits_continue),
  (
    (refl, within_digits_in 16 (omega arith)),
    ((refl, within_digits_in 8 (omega arith)), (refl, within_digits_in 2 (omega arith))),
  ),
)

pub on_integer_end : AllIn is_ident_continue (Stands (Then rule.integer rule.end))
on_integer_end = all_in is_ident_continue (Then rule.integer rule.end)
    (within_integer, within_suffix is_ident_continue (λ c is. is))

-- ---- numbers

-- a number stays a number, if the new text does not continue it and makes no float begin there
pub number_moved : (p b r s : List ℕ) → first_passes goes_on s ≡ false
    → (Stands (Then rule.integer rule.end) p (b ++ r) → HasNone (Stands rule.float) (p ++ (b ++ r))
    → HasNone (Stands rule.float) (p ++ (b ++ s)))
    → Number p (b ++ r) → Number p (b ++ s)
unfolding number
number_moved p b r s ends moves is = elim is [
  | inl float ↦ inl (stable_float p b r s ends float)
  | inr int ↦ inr (
    moves int.1 int.0,
    stable_integer p b r s (stops_within is_ident_continue goes_on continue_goes_on s ends) int.1,
  )
]

-- no float begins there, if the new text is right after the number
pub number_before : (p r s : List ℕ) → first_passes goes_on s ≡ false → Number p r → Number p s
number_before p r s ends = number_moved p [] r s ends
    (λ int. no_new_float p r s (on_integer_end p r int) int.second.1 ends)

-- no character that may continue an identifier follows a number
pub number_ends : (p r : List ℕ) → Number p r → first_passes is_ident_continue r ≡ false
unfolding number
number_ends p r is = elim is [ inl float ↦ float_ends p r float | inr int ↦ int.1.second.1 ]

-- a number stays a number, if neither the old nor the new text continues it, however far after it they begin
pub number_cut : (p b r s : List ℕ) → first_passes goes_on r ≡ false → first_passes goes_on s ≡ false
    → Number p (b ++ r)
    → Number p (b ++ s)
number_cut p b r s old new = number_moved p b r s new
    (λ int. none_moved p b r s new (λ q d e. stable_float q d s r old))

-- no stop continues a number
pub stop_is_calm : (r : List ℕ) → stops r ≡ true → first_passes goes_on r ≡ false
unfolding unicode_ident
stop_is_calm r = stop_out goes_on r refl

pub number_before_stop : (p r s : List ℕ) → stops s ≡ true → Number p r → Number p s
number_before_stop p r s e is = number_before p r s (stop_is_calm s e) is
