-- The reasons of numbers.
use Rattle.std.proofs.Common.{◌≡◌, ℕ, true, false, List, ◌∷◌, ◌++◌}
use Rattle.std.proofs.Common.{inl, inr, refl, sym, ap, ◌∙◌, subst, arith, append_assoc}
use Rattle.std.specs.Char.{is_ascii_digit}
use Rattle.std.proofs.lemmas.Bool.{both_ways, cond-false, cond-true, or_left, or_right}
use Rattle.lexical.specs.Bytes.{radix}
use Rattle.lexical.specs.Form.{HasNone}
use Rattle.lexical.specs.Number.{base_digits, base_prefixes, based_number, digits_in, integer, is_underscore}
use Rattle.lexical.specs.Rule.{One, Run, Exactly, Then, Stands, perhaps}
use Rattle.lexical.specs.Text.{begins_any, first_passes}
use Rattle.lexical.specs.declared.bytes.Base.{Base}
use Rattle.lexical.specs.declared.bytes.Base.TheVariants.{Binary, Octal, Hexadecimal}
use Rattle.lexical.proofs.RuleLemmas.{one_split}
use Rattle.explain.specs.Reason.{Begins, Follow}
use Rattle.explain.specs.Shapes.{bare_prefix, base_front, base_prefix, ends_badly, goes_on_base}
use Rattle.explain.specs.declared.reason.Reason.TheVariants as reasons
use Rattle.explain.proofs.MainReason.{Digits, bare, by_front, digits_front, front_of, lacks_has, stands_has}
use Rattle.explain.proofs.MainReason.{main_reason}
use Rattle.explain.proofs.TextReasonLemmas.{at_front}

-- ---- bases

-- a text begins with the prefix of one base only
one_base : (P : Base → Base → Type 0) (a b : Base) (x y : List ℕ) → base_prefix a ++ x ≡ base_prefix b ++ y
    → P Binary Binary → P Octal Octal → P Hexadecimal Hexadecimal → P a b
one_base P Binary Binary x y e two eight sixteen = two
one_base P Octal Octal x y e two eight sixteen = eight
one_base P Hexadecimal Hexadecimal x y e two eight sixteen = sixteen
one_base P Binary Octal x y e two eight sixteen =
    let clash : ◌≡◌ {A = ℕ} 98 111 = cc in absurd (omega (arith, clash))
one_base P Binary Hexadecimal x y e two eight sixteen =
    let clash : ◌≡◌ {A = ℕ} 98 120 = cc in absurd (omega (arith, clash))
one_base P Octal Binary x y e two eight sixteen =
    let clash : ◌≡◌ {A = ℕ} 111 98 = cc in absurd (omega (arith, clash))
one_base P Octal Hexadecimal x y e two eight sixteen =
    let clash : ◌≡◌ {A = ℕ} 111 120 = cc in absurd (omega (arith, clash))
one_base P Hexadecimal Binary x y e two eight sixteen =
    let clash : ◌≡◌ {A = ℕ} 120 98 = cc in absurd (omega (arith, clash))
one_base P Hexadecimal Octal x y e two eight sixteen =
    let clash : ◌≡◌ {A = ℕ} 120 111 = cc in absurd (omega (arith, clash))

pub same_base : (a b : Base) (x y : List ℕ) → base_prefix a ++ x ≡ base_prefix b ++ y → a ≡ b
same_base a b x y e = one_base (λ a b. a ≡ b) a b x y e refl refl refl

prefix_cancel : (a : Base) (x y : List ℕ) → base_prefix a ++ x ≡ base_prefix a ++ y → x ≡ y
prefix_cancel Binary x y e = cc
prefix_cancel Octal x y e = cc
prefix_cancel Hexadecimal x y e = cc

pub based_in : (p r : List ℕ) → Stands based_number p r
    → (base : Base) × Stands (Then (Exactly (base_prefix base)) (digits_in (radix base))) p r
based_in p r (inl is) = (Hexadecimal, is)
based_in p r (inr (inl is)) = (Octal, is)
based_in p r (inr (inr is)) = (Binary, is)

bare_in : (p r : List ℕ) → Stands bare p r → (base : Base) × Stands (bare_prefix base) p r
bare_in p r (inl is) = (Binary, is)
bare_in p r (inr (inl is)) = (Octal, is)
bare_in p r (inr (inr is)) = (Hexadecimal, is)

bare_of : (base : Base) (p r : List ℕ) → Stands (bare_prefix base) p r → Stands bare p r
bare_of Binary p r is = inl is
bare_of Octal p r is = inr (inl is)
bare_of Hexadecimal p r is = inr (inr is)

pub based_begins : (base : Base) (rest : List ℕ) → begins_any base_prefixes (base_prefix base ++ rest) ≡ true
based_begins Binary rest = refl
based_begins Octal rest = refl
based_begins Hexadecimal rest = refl

pub base_digit : (base : Base) (rest : List ℕ) → (more : List ℕ) × (base_prefix base ++ rest ≡ 48 ∷ more)
base_digit Binary rest = (_, refl)
base_digit Octal rest = (_, refl)
base_digit Hexadecimal rest = (_, refl)

base_front_of : (base : Base) (text rest : List ℕ) → text ≡ base_prefix base ++ rest → front_of text ≡ Digits
base_front_of base text rest e =
    let digit = base_digit base rest in
    digits_front 48 text digit.0 (e ∙ digit.1) refl

-- ---- the text after a prefix

-- if no digits of the base follow its prefix, there is no integer
no_integer : (base : Base) (text rest : List ℕ) → text ≡ base_prefix base ++ rest
    → HasNone (Stands (digits_in (radix base))) rest → HasNone (Stands integer) text
no_integer base text rest e none p r split (inl is) =
    both_ways _ is.1 (ap (begins_any base_prefixes) (sym split ∙ e) ∙ based_begins base rest)
no_integer base text rest e none p r split (inr is) =
    let at = based_in p r is in
    let inner = at.1 in
    let after : p ++ r ≡ base_prefix at.0 ++ (inner.back ++ r) =
    ap (λ t. t ++ r) (inner.whole ∙ ap (λ t. t ++ inner.back) inner.first)
    ∙ append_assoc (base_prefix at.0) inner.back r in
    let same : at.0 ≡ base = same_base at.0 base (inner.back ++ r) rest (sym after ∙ (sym split ∙ e)) in
    let cut : rest ≡ inner.back ++ r =
    prefix_cancel base rest (inner.back ++ r)
    (sym e ∙ (split ∙ (after ∙ ap (λ b. base_prefix b ++ (inner.back ++ r)) same))) in
    none inner.back r cut (subst (λ b. Stands (digits_in (radix b)) inner.back r) same inner.second)

-- the prefix of a base is not bare if a digit follows it and its `_`
no_bare : (base : Base) (text rest : List ℕ) → text ≡ base_prefix base ++ rest
    → ((z r : List ℕ) → rest ≡ z ++ r → Stands (Run is_underscore) z r → first_passes (goes_on_base base) r ≡ false → ⊥)
    → HasNone (Stands bare) text
no_bare base text rest e none p r split is =
    let at = bare_in p r is in
    let inner = at.1.0 in
    let after : p ++ r ≡ base_prefix at.0 ++ (inner.back ++ r) =
    ap (λ t. t ++ r) (inner.whole ∙ ap (λ t. t ++ inner.back) inner.first)
    ∙ append_assoc (base_prefix at.0) inner.back r in
    let same : at.0 ≡ base = same_base at.0 base (inner.back ++ r) rest (sym after ∙ (sym split ∙ e)) in
    let cut : rest ≡ inner.back ++ r =
    prefix_cancel base rest (inner.back ++ r)
    (sym e ∙ (split ∙ (after ∙ ap (λ b. base_prefix b ++ (inner.back ++ r)) same))) in
    none inner.back r cut inner.second (subst (λ b. first_passes (goes_on_base b) r ≡ false) same at.1.1)

-- the digits of a base begin with a character that `goes_on_base` allows
digits_go_on : (base : Base) (p r : List ℕ) → Stands (base_digits (radix base)) p r
    → first_passes (goes_on_base base) (p ++ r) ≡ true
digits_go_on base p r is =
    let one = is.first in
    ap (λ t. first_passes (goes_on_base base) (t ++ r)) (is.whole ∙ ap (λ t. t ++ is.back) one.1)
    ∙ or_left _ _ (or_left _ _ one.2)

one_line : (a b r s : List ℕ) → Stands (Run is_underscore) a r → Stands (Run is_underscore) b s → a ++ r ≡ b ++ s
    → (a ≡ b) × (r ≡ s)
one_line = one_split (Run is_underscore) tt

-- ---- the reasons

module _ (base : Base) (f p r : List ℕ) (is : Begins (bare_prefix base) f p r) where
  pub no_digits_whole : f ++ (p ++ r) ≡ base_prefix base ++ (is.1.0.back ++ r)
  no_digits_whole =
      at_front f p r is.0 ∙ (ap (λ t. t ++ r) (is.1.0.whole ∙ ap (λ t. t ++ is.1.0.back) is.1.0.first)
      ∙ append_assoc (base_prefix base) is.1.0.back r)

  pub no_digits_integer : HasNone (Stands integer) (f ++ (p ++ r))
  no_digits_integer =
      no_integer base (f ++ (p ++ r)) _ no_digits_whole (λ q s split stands.
      let lines = stands.0 in
      let after : q ++ s ≡ lines.front ++ (lines.back ++ s) =
      ap (λ t. t ++ s) lines.whole ∙ append_assoc lines.front lines.back s in
      let same : r ≡ lines.back ++ s =
      (one_line is.1.0.back lines.front r (lines.back ++ s) is.1.0.second lines.first (split ∙ after)).1 in
      both_ways _ is.1.1 (ap (first_passes (goes_on_base base)) same ∙ digits_go_on base lines.back s lines.second))

  pub no_digits_reason : main_reason (f ++ (p ++ r)) ≡ reasons.NoDigits
  no_digits_reason =
      let text : List ℕ = f ++ (p ++ r) in
      by_front text Digits (base_front_of base text _ no_digits_whole)
      ∙ (cond-false _ _ _ (lacks_has integer (assumption) text no_digits_integer)
      ∙ cond-true _ _ _ (stands_has bare (assumption) text p r (at_front f p r is.0) (bare_of base p r is.1)))

module _ (base : Base) (f p r : List ℕ) (is : Follow (base_front base) (One is_ascii_digit) f p r) where
  rest_is : p ++ r ≡ is.1.0 ∷ r
  rest_is = ap (λ t. t ++ r) is.1.1

  inner_is : is.0.back ++ (p ++ r) ≡ is.0.second.front ++ (is.0.second.back ++ (p ++ r))
  inner_is =
      ap (λ t. t ++ (p ++ r)) is.0.second.whole ∙ append_assoc is.0.second.front is.0.second.back (p ++ r)

  pub bad_digit_whole : f ++ (p ++ r) ≡ base_prefix base ++ (is.0.back ++ (p ++ r))
  bad_digit_whole =
      ap (λ t. t ++ (p ++ r)) (is.0.whole ∙ ap (λ t. t ++ is.0.back) is.0.first)
      ∙ append_assoc (base_prefix base) is.0.back (p ++ r)

  goes_on : first_passes (goes_on_base base) (is.0.second.back ++ (p ++ r)) ≡ true
  goes_on = elim is.0.second.second [
    | inl digits ↦ digits_go_on base is.0.second.back (p ++ r) digits
    | inr none ↦
        ap (first_passes (goes_on_base base)) (ap (λ t. t ++ (p ++ r)) none.1 ∙ rest_is) ∙ or_right _ _ is.1.2
  ]

  pub bad_digit_integer : HasNone (Stands integer) (f ++ (p ++ r))
  bad_digit_integer =
      no_integer base (f ++ (p ++ r)) _ bad_digit_whole (λ q s split stands.
      let lines = is.0.second in
      let others = stands.0 in
      let after : q ++ s ≡ others.front ++ (others.back ++ s) =
      ap (λ t. t ++ s) others.whole ∙ append_assoc others.front others.back s in
      let same : lines.back ++ (p ++ r) ≡ others.back ++ s =
      (one_line lines.front others.front (lines.back ++ (p ++ r)) (others.back ++ s) lines.first others.first
      (sym inner_is ∙ (split ∙ after))).1 in
      let end : p ++ r ≡ s = (one_split (perhaps (base_digits (radix base))) (assumption) lines.back others.back
      (p ++ r) s lines.second (inl others.second) same).1 in
      both_ways _ stands.1 (ap (first_passes is_ascii_digit) (sym end ∙ rest_is) ∙ is.1.2))

  pub bad_digit_reason : main_reason (f ++ (p ++ r)) ≡ reasons.BadDigit
  bad_digit_reason =
      let text : List ℕ = f ++ (p ++ r) in
      by_front text Digits (base_front_of base text _ bad_digit_whole)
      ∙ (cond-false _ _ _ (lacks_has integer (assumption) text bad_digit_integer)
      ∙ cond-false _ _ _ (lacks_has bare (assumption) text (no_bare base text _ bad_digit_whole (λ z s split run none.
      let lines = is.0.second in
      let same : lines.back ++ (p ++ r) ≡ s =
      (one_line lines.front z (lines.back ++ (p ++ r)) s lines.first run (sym inner_is ∙ split)).1 in
      both_ways _ none (ap (first_passes (goes_on_base base)) (sym same) ∙ goes_on)))))

pub bad_end_reason : (f p r : List ℕ) → Follow integer (One ends_badly) f p r
    → main_reason (f ++ (p ++ r)) ≡ reasons.BadNumberEnd
bad_end_reason f p r is =
    let text : List ℕ = f ++ (p ++ r) in
    by_front text Digits (front f (p ++ r) is.0)
    ∙ cond-true _ _ _ (stands_has integer (assumption) text f (p ++ r) refl is.0)
  where
    front : (p r : List ℕ) → Stands integer p r → front_of (p ++ r) ≡ Digits
    front p r (inl is) =
        let one = is.0.first in
        digits_front one.0 (p ++ r) (is.0.back ++ r)
        (ap (λ t. t ++ r) (is.0.whole ∙ ap (λ t. t ++ is.0.back) one.1)) one.2
    front p r (inr is) =
        let at = based_in p r is in
        let inner = at.1 in
        base_front_of at.0 (p ++ r) (inner.back ++ r)
        (ap (λ t. t ++ r) (inner.whole ∙ ap (λ t. t ++ inner.back) inner.first)
        ∙ append_assoc (base_prefix at.0) inner.back r)
