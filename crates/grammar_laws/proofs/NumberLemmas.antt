-- The parts of a number, and floats, stay what they are, if the new text after them does not continue them.
use Rattle.std.proofs.Common.{◌≡◌, ℕ, ◌≤◌, Bool, true, false, ◌||◌, ◌==◌, List, [], ◌∷◌, ◌++◌, length, length-append}
use Rattle.std.proofs.Common.{arith, refl, sym, ap, ◌∙◌, subst, inl, inr, append_assoc, append-nil}
use Rattle.std.specs.List.{list_all}
use Rattle.std.specs.Char.{is_ascii_digit}
use Rattle.std.proofs.lemmas.Bool.{both_ways, and_parts, or_left, or_right}
use Rattle.std.proofs.lemmas.List.{nil_from_length}
use Rattle.std.proofs.lemmas.List.Folds.{list_all-append}
use Rattle.unicode_ident.proofs.Computing.{unicode_ident}
use Rattle.lexical.specs.Class.{is_ident_start, is_ident_continue}
use Rattle.lexical.specs.Text.{first_passes}
use Rattle.lexical.specs.Form.{Form, HasNone}
use Rattle.lexical.specs.Rule as rules
use Rattle.lexical.specs.Rule.{Then, Stands}
use Rattle.lexical.specs.Identifier.{name}
use Rattle.lexical.specs.Quoted.{suffix}
use Rattle.lexical.specs.Number as rule
use Rattle.lexical.specs.Number.{is_underscore, is_digit_or_underscore, Digits, bars_dot, is_exponent_letter, is_sign}
use Rattle.lexical.proofs.ClassLemmas.{Sub, sub_digits}
use Rattle.lexical.proofs.PieceFacts.{start_continues}
use Rattle.grammar_laws.proofs.StableLemmas.{sub_one, sub_either, none, Stable, KeepsNone, AllIn, anew, Looks, Within}
use Rattle.grammar_laws.proofs.StableLemmas.{stable, fronts_compared, passes_at, all_append, inside, none_extended}
use Rattle.grammar_laws.proofs.StableLemmas.{none_one, all_in}

-- ---- classes

-- whether the character may continue a number
abbrev pub goes_on : ℕ → Bool
goes_on c = is_ident_continue c || ((c == 46) || is_sign c)

pub continue_goes_on : Sub is_ident_continue goes_on
continue_goes_on c is = or_left _ _ is

pub digit_continues : Sub is_ascii_digit is_ident_continue
unfolding unicode_ident
digit_continues = sub_digits is_ident_continue refl

pub underscore_continues : Sub is_underscore is_ident_continue
unfolding unicode_ident
underscore_continues = sub_one is_ident_continue 95 refl

pub digits_continue : Sub is_digit_or_underscore is_ident_continue
digits_continue = sub_either is_ascii_digit is_underscore is_ident_continue digit_continues underscore_continues

pub letter_continues : Sub is_exponent_letter is_ident_continue
unfolding unicode_ident
letter_continues = sub_either (λ c. c == 101) (λ c. c == 69) is_ident_continue (sub_one is_ident_continue 101 refl)
    (sub_one is_ident_continue 69 refl)

sign_goes_on : Sub is_sign goes_on
sign_goes_on c is = or_right (is_ident_continue c) _ (or_right (c == 46) _ is)

dot_goes_on : Sub bars_dot goes_on
unfolding unicode_ident
dot_goes_on = sub_either (λ c. c == 46) is_ident_start goes_on (sub_one goes_on 46 refl)
    (λ c start. or_left _ _ (start_continues c start))

-- ---- the parts of a number

module _ (class : ℕ → Bool) (within : Sub is_ident_continue class) where
  continues : (passes : ℕ → Bool) → Sub passes is_ident_continue → Sub passes class
  continues passes on c is = within c (on c is)

  starts : Sub is_ident_start class
  starts = continues is_ident_start start_continues

  pub within_suffix : Within class suffix
  within_suffix = ((starts, within), refl)

  pub looks_suffix : Looks class 0 suffix
  looks_suffix = ((tt, within), tt, none_extended class name (starts, within) (tt, tt))

  pub looks_end : Looks class 0 rule.end
  looks_end = (within, looks_suffix)

  digits_on : Sub is_digit_or_underscore class
  digits_on = continues is_digit_or_underscore digits_continue

  within_digits : Within class rule.digits
  within_digits = (continues is_ascii_digit digit_continues, digits_on)

  within_exponent_digits : Within class rule.exponent_digits
  within_exponent_digits = (continues is_underscore underscore_continues, within_digits)

  within_exponent : Sub is_sign class → Within class rule.exponent
  within_exponent signs = (
    continues is_exponent_letter letter_continues,
    (continues is_underscore underscore_continues, ((signs, refl), within_exponent_digits)),
  )

  looks_exponent : Looks class 0 rule.exponent
  looks_exponent = (tt, (tt, ((tt, tt, none_one class is_sign), (tt, (tt, digits_on)))))

pub stable_end : Stable is_ident_continue (Stands rule.end)
stable_end = stable is_ident_continue rule.end (looks_end is_ident_continue (λ c is. is))

pub stable_digits : Stable is_ident_continue Digits
stable_digits = stable is_ident_continue rule.digits (tt, digits_continue)

pub stable_exponent : Stable is_ident_continue (Stands rule.exponent)
stable_exponent = stable is_ident_continue rule.exponent (looks_exponent is_ident_continue (λ c is. is))

pub on_digits : AllIn is_ident_continue Digits
on_digits = all_in is_ident_continue rule.digits (within_digits is_ident_continue (λ c is. is))

pub on_exponent_digits : AllIn is_ident_continue (Stands rule.exponent_digits)
on_exponent_digits = all_in is_ident_continue rule.exponent_digits
    (within_exponent_digits is_ident_continue (λ c is. is))

on_exponent : Within goes_on rule.exponent
on_exponent = within_exponent goes_on continue_goes_on sign_goes_on

exponent_none : KeepsNone goes_on 0 (Stands rule.exponent)
exponent_none = none_extended goes_on rule.exponent on_exponent
    (tt, (tt, ((tt, tt, none_one none is_sign), (tt, (tt, tt)))))

-- if an exponent has a character that continues no identifier, which is its sign, all characters before that one do
pub exponent_front : (x t y m : List ℕ) (c : ℕ) → Stands rule.exponent x t → is_ident_continue c ≡ false
    → x ≡ y ++ (c ∷ m)
    → list_all is_ident_continue y ≡ true
exponent_front x t y m c is out e =
    let lines = is.second in
    let signed = lines.second in
    let letters = is.front ++ lines.front in
    let whole : letters ++ (signed.front ++ signed.back) ≡ x =
    append_assoc is.front lines.front (signed.front ++ signed.back)
    ∙ (ap (λ z. is.front ++ (lines.front ++ z)) (sym signed.whole)
    ∙ (ap (λ z. is.front ++ z) (sym lines.whole) ∙ sym is.whole)) in
    let all : list_all is_ident_continue letters ≡ true =
    all_append is_ident_continue is.front lines.front
    (all_in is_ident_continue (rules.One is_exponent_letter) letter_continues is.front (is.back ++ t) is.first)
    (all_in is_ident_continue (rules.Run is_underscore) underscore_continues lines.front (lines.back ++ t) lines.first)
    in
    let sign : length signed.front ≤ 1 =
    elim signed.first [ inl one ↦ omega (arith, ap length one.1) | inr none ↦ omega (arith, ap length none.1) ] in
    elim (fronts_compared y (c ∷ m) letters (signed.front ++ signed.back) (sym e ∙ sym whole)) [
      | inl past ↦ elim (fronts_compared past.0 (c ∷ m) signed.front signed.back (sym past.2)) [
        | inl later ↦ absurd (both_ways _ out
            (passes_at is_ident_continue signed.back later.0 c m
            (on_exponent_digits signed.back t signed.second) later.2))
        | inr here ↦
            let none = nil_from_length past.0
            (omega (arith, sign, ap length here.2, length-append past.0 (here.0 ∷ here.1))) in
            ap (list_all is_ident_continue) (past.1 ∙ (ap (λ z. letters ++ z) none ∙ append-nil letters)) ∙ all
      ]
      | inr within ↦
          (and_parts _ _ (sym (ap (list_all is_ident_continue) within.2
          ∙ list_all-append is_ident_continue y (within.0 ∷ within.1)) ∙ all)).0
    ]

-- ---- floats

-- floats with a dot
abbrev pub Dotted : Form
Dotted = Stands (Then rule.digits rule.fraction)

-- floats without a dot
abbrev pub Exponential : Form
Exponential = Stands (Then rule.digits (Then rule.exponent rule.end))

pub stable_exponential : Stable is_ident_continue Exponential
stable_exponential =
    let within : Sub is_ident_continue is_ident_continue = λ c is. is in
    stable is_ident_continue (Then rule.digits (Then rule.exponent rule.end))
    ((tt, tt), (looks_exponent is_ident_continue within, looks_end is_ident_continue within))

pub stable_float : Stable goes_on (Stands rule.float)
stable_float =
    let exponent = looks_exponent goes_on continue_goes_on in
    let end = looks_end goes_on continue_goes_on in
    let fraction : Looks goes_on 0 rule.fraction =
    ((dot_goes_on, tt), (digits_on goes_on continue_goes_on, ((exponent, tt, exponent_none), end))) in
    stable goes_on rule.float ((tt, tt), (fraction, (exponent, end)))

pub on_float : AllIn goes_on (Stands rule.float)
unfolding unicode_ident
on_float =
    let digits = within_digits goes_on continue_goes_on in
    let end = within_suffix goes_on continue_goes_on in
    all_in goes_on rule.float (digits, ((refl, (digits.1, ((on_exponent, refl), end))), (on_exponent, end)))

-- ---- no new float begins

-- no character that may continue an identifier follows a float
pub float_ends : (p r : List ℕ) → Stands rule.float p r → first_passes is_ident_continue r ≡ false
float_ends p r is = elim is.second [ inl fraction ↦ fraction.second.second.second.1 | inr exponent ↦ exponent.second.1 ]

-- no new float begins, if each float before the new text would be one before the old text
pub none_moved : (p b r s : List ℕ) → first_passes goes_on s ≡ false
    → ((q d : List ℕ) → p ++ b ≡ q ++ d → Stands rule.float q (d ++ s) → Stands rule.float q (d ++ r))
    → HasNone (Stands rule.float) (p ++ (b ++ r)) → HasNone (Stands rule.float) (p ++ (b ++ s))
none_moved p b r s ends moves none q t e is =
    let within = inside goes_on (p ++ b) s q t ends (on_float q t is) (append_assoc p b s ∙ e) in
    none q (within.0 ++ r) (sym (append_assoc p b r) ∙ (ap (λ z. z ++ r) within.1 ∙ append_assoc q within.0 r))
    (moves q within.0 within.1 (subst (Stands rule.float q) within.2 is))

-- a float before the new text is one before the old text, if floats with a dot are and the old text continues no
-- identifier
pub float_moved : (q d r s : List ℕ) → first_passes is_ident_continue r ≡ false
    → (Dotted q (d ++ s) → Dotted q (d ++ r))
    → Stands rule.float q (d ++ s) → Stands rule.float q (d ++ r)
float_moved q d r s calm moves is = elim is.second [
  | inl dotted ↦
      let h = moves (anew _ _ _ q (d ++ s) (d ++ s) is is.first dotted) in
      anew _ _ _ q (d ++ r) (d ++ r) h h.first (inl h.second)
  | inr exponential ↦
      let h = stable_exponential q d s r calm (anew _ _ _ q (d ++ s) (d ++ s) is is.first exponential) in
      anew _ _ _ q (d ++ r) (d ++ r) h h.first (inr h.second)
]

-- characters that continue an identifier contain no dot
no_dotted : (q d s : List ℕ) → list_all is_ident_continue (q ++ d) ≡ true → Dotted q (d ++ s) → ⊥
unfolding unicode_ident
no_dotted q d s all is =
    let after = is.second in
    let whole : q ++ d ≡ is.front ++ (46 ∷ (after.back ++ d)) =
    ap (λ z. z ++ d) (is.whole ∙ ap (λ x. is.front ++ x) (after.whole ∙ ap (λ x. x ++ after.back) after.first.0))
    ∙ append_assoc is.front (46 ∷ after.back) d in
    both_ways (is_ident_continue 46) refl (passes_at is_ident_continue (q ++ d) is.front 46 (after.back ++ d) all whole)

-- no new float begins in a text of characters that may continue an identifier
pub no_new_float : (p r s : List ℕ) → list_all is_ident_continue p ≡ true → first_passes is_ident_continue r ≡ false
    → first_passes goes_on s ≡ false → HasNone (Stands rule.float) (p ++ r)
    → HasNone (Stands rule.float) (p ++ s)
no_new_float p r s all calm ends =
    none_moved p [] r s ends (λ q d e. float_moved q d r s calm
    (λ dotted. absurd (no_dotted q d s (ap (list_all is_ident_continue) (sym e ∙ append-nil p) ∙ all) dotted)))
