-- The hex digits of a character's number.
use Rattle.std.proofs.Common.{◌≡◌, ℕ, ◌+◌, ◌*◌, ◌/◌, ◌%◌, ◌<◌, ◌≤◌, true, false, cond, ◌&&◌, ◌||◌, ◌==◌, nat_lt, nat_le}
use Rattle.std.proofs.Common.{List, [], ◌∷◌, ◌++◌, length, ltb-true, refl, ap, ◌∙◌, arith, inl, inr}
use Rattle.std.specs.Prelude.{map, filter}
use Rattle.std.specs.List.{list_all, fold, AllByRecursion}
use Rattle.std.specs.Char.{IsScalar, digit_char, digit_value, is_ascii_hexdigit}
use Rattle.std.proofs.Math.Utf8.{scalar_cases}
use Rattle.std.specs.Char.Escape.{escape_unicode}
use Rattle.std.proofs.lemmas.Bool.{agree_below_at, cond_both, cond-true, cond-false, and_from, or_right, lt-ltb, le-leb}
use Rattle.std.proofs.lemmas.Str.{digit_value-digit_char}
use Rattle.lexical.specs.Quoted.{is_scalar, hex_value}

-- ---- one digit

pub hex_digit : (d : ℕ) → d < 16 → is_ascii_hexdigit (digit_char d) ≡ true
hex_digit d low = agree_below_at (λ x. is_ascii_hexdigit (digit_char x)) (λ x. true) 16 d refl low

not_underscore : (d : ℕ) → d < 16 → (digit_char d == 95) ≡ false
not_underscore d low = agree_below_at (λ x. digit_char x == 95) (λ x. false) 16 d refl low

-- ---- the digits of some values

abbrev pub AreHex : List ℕ → Type 0
AreHex ds = AllByRecursion (λ d. d < 16) ds

abbrev pub digits_of : List ℕ → List ℕ
digits_of ds = map digit_char ds

-- the number that these digits write after the number n
abbrev pub value_on : ℕ → List ℕ → ℕ
value_on n [] = n
value_on n (d ∷ ds) = value_on (16 * n + d) ds

pub hex_digits : (ds : List ℕ) → AreHex ds → list_all (λ c. is_ascii_hexdigit c || (c == 95)) (digits_of ds) ≡ true
hex_digits [] all = refl
hex_digits (d ∷ ds) all = and_from _ _ (ap (λ b. b || (digit_char d == 95)) (hex_digit d all.0)) (hex_digits ds all.1)

pub length_digits : (ds : List ℕ) → AreHex ds → length (filter is_ascii_hexdigit (digits_of ds)) ≡ length ds
length_digits [] all = refl
length_digits (d ∷ ds) all = ap length (cond-true _ _ _ (hex_digit d all.0)) ∙ omega (arith, length_digits ds all.1)

value_of : (n : ℕ) (ds : List ℕ) → AreHex ds
    → fold (λ m c. cond (c == 95) m (16 * m + digit_value c)) n (digits_of ds) ≡ value_on n ds
value_of n [] all = refl
value_of n (d ∷ ds) all =
    ap (λ m. fold (λ k c. cond (c == 95) k (16 * k + digit_value c)) m (digits_of ds))
    (cond-false _ _ _ (not_underscore d all.0) ∙ ap (λ v. 16 * n + v) (digit_value-digit_char d (omega arith)))
    ∙ value_of (16 * n + d) ds all.1

pub hex_value-digits : (ds : List ℕ) → AreHex ds → hex_value (digits_of ds) ≡ value_on 0 ds
hex_value-digits ds all = value_of 0 ds all

-- ---- characters

pub is_scalar-IsScalar : (c : ℕ) → IsScalar c → is_scalar c ≡ true
is_scalar-IsScalar c is = elim (scalar_cases c is) [
  | inl low ↦ ap (λ b. b || (nat_le 0xE000 c && nat_lt c 0x11_0000)) (lt-ltb c 0xD800 low)
  | inr high ↦ or_right (nat_lt c 0xD800) _ (and_from _ _ (le-leb 0xE000 c high.0) (lt-ltb c 0x11_0000 high.1))
]

-- the bound of characters
scalar_low : (c : ℕ) → IsScalar c → c < 0x11_0000
scalar_low c is = elim (scalar_cases c is) [ inl low ↦ omega arith | inr high ↦ omega arith ]

-- the digits of a number, from the first one that isn't zero, write the number
value_1 : (c : ℕ) → c < 0x10 → value_on 0 (c / 1 % 16 ∷ []) ≡ c
value_1 c low = omega arith

value_2 : (c : ℕ) → c < 0x100 → value_on 0 (c / 0x10 % 16 ∷ c / 1 % 16 ∷ []) ≡ c
value_2 c low = omega arith

value_3 : (c : ℕ) → c < 0x1000 → value_on 0 (c / 0x100 % 16 ∷ c / 0x10 % 16 ∷ c / 1 % 16 ∷ []) ≡ c
value_3 c low = omega arith

value_4 : (c : ℕ) → c < 0x1_0000
    → value_on 0 (c / 0x1000 % 16 ∷ c / 0x100 % 16 ∷ c / 0x10 % 16 ∷ c / 1 % 16 ∷ []) ≡ c
value_4 c low = omega arith

value_5 : (c : ℕ) → c < 0x10_0000
    → value_on 0 (c / 0x1_0000 % 16 ∷ c / 0x1000 % 16 ∷ c / 0x100 % 16 ∷ c / 0x10 % 16 ∷ c / 1 % 16 ∷ []) ≡ c
value_5 c low = omega arith

value_6 : (c : ℕ) → c < 0x11_0000 → value_on 0
    (c / 0x10_0000 % 16 ∷ c / 0x1_0000 % 16 ∷ c / 0x1000 % 16 ∷ c / 0x100 % 16 ∷ c / 0x10 % 16 ∷ c / 1 % 16 ∷ []) ≡ c
value_6 c low = omega arith

-- whether p is the `\u` escape of c, by the values of its digits
pub record IsCoded (c : ℕ) (p : List ℕ) : Type 0 where
  pub first : ℕ
  pub others : List ℕ
  pub hex : AreHex (first ∷ others)
  pub few : length others ≤ 5
  pub value : value_on 0 (first ∷ others) ≡ c
  pub whole : p ≡ 92 ∷ 117 ∷ 123 ∷ (digits_of (first ∷ others) ++ 125 ∷ [])

abbrev at : ℕ → ℕ → ℕ
at weight c = c / weight % 16

pub escape_is_coded : (c : ℕ) → IsScalar c → IsCoded c (escape_unicode c)
escape_is_coded c is =
    cond_both (nat_lt c 0x10) _ _ (IsCoded c)
    (λ e. record {
      first = at 1 c;
      others = [];
      hex = (omega arith, tt);
      few = omega arith;
      value =
          value_1 c (ltb-true c _ e);
      whole = refl;
    })
    (λ e. cond_both (nat_lt c 0x100) _ _ (IsCoded c)
    (λ e. record {
      first = at 0x10 c;
      others = at 1 c ∷ [];
      hex = (omega arith, (omega arith, tt));
      few = omega arith;
      value = value_2 c (ltb-true c _ e);
      whole = refl;
    })
    (λ e. cond_both (nat_lt c 0x1000) _ _ (IsCoded c)
    (λ e. record {
      first = at 0x100 c;
      others = at 0x10 c ∷ at 1 c ∷ [];
      hex = (omega arith, (omega arith, (omega arith, tt)));
      few = omega arith;
      value = value_3 c (ltb-true c _ e);
      whole = refl;
    })
    (λ e. cond_both (nat_lt c 0x1_0000) _ _ (IsCoded c)
    (λ e. record {
      first = at 0x1000 c;
      others = at 0x100 c ∷ at 0x10 c ∷ at 1 c ∷ [];
      hex = (omega arith, (omega arith, (omega arith, (omega arith, tt))));
      few = omega arith;
      value = value_4 c (ltb-true c _ e);
      whole = refl;
    })
    (λ e. cond_both (nat_lt c 0x10_0000) _ _ (IsCoded c)
    (λ e. record {
      first = at 0x1_0000 c;
      others = at 0x1000 c ∷ at 0x100 c ∷ at 0x10 c ∷ at 1 c ∷ [];
      hex = (omega arith, (omega arith, (omega arith, (omega arith, (omega arith, tt)))));
      few = omega arith;
      value = value_5 c (ltb-true c _ e);
      whole = refl;
    })
    (λ e. record {
      first = at 0x10_0000 c;
      others = at 0x1_0000 c ∷ at 0x1000 c ∷ at 0x100 c ∷ at 0x10 c ∷ at 1 c ∷ [];
      hex = (omega arith, (omega arith, (omega arith, (omega arith, (omega arith, (omega arith, tt))))));
      few = omega arith;
      value = value_6 c (scalar_low c is);
      whole = refl;
    })))))
