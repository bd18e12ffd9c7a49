-- How two hex digits after `\x` are read, in each kind of string.
use Rattle.std.proofs.Common.{◌≡◌, ℕ, ◌*◌, ◌+◌, ◌<◌, ◌≤◌, true, false, not, ◌&&◌, ◌||◌, ◌==◌, nat_lt, nat_le, List, []}
use Rattle.std.proofs.Common.{◌∷◌, ◌++◌, codes, refl, sym, ap, ap₂, ◌∙◌, subst, arith, inl, inr, eqb-true, ltb-true}
use Rattle.std.proofs.Common.{leb-true}
use Rattle.std.specs.Char.{digit_value, is_ascii_hexdigit}
use Rattle.std.specs.Int.{is_in_range}
use Rattle.std.proofs.lemmas.Bool.{agree_below_at, and_from, and_parts, both_ways, cond_both, cond-false, cond-true}
use Rattle.std.proofs.lemmas.Bool.{false_from_ne_true, lt-ltb, ltb-false, not-true, or_cases}
use Rattle.lexical.specs.Text.{begins_any}
use Rattle.lexical.specs.Rule.{Stands}
use Rattle.lexical.specs.Quoted as rule
use Rattle.lexical.specs.Quoted.{is_octal_digit, hex_value}
use Rattle.literal_escaper.specs.Escape.{escape, hex_escape, is_hex}
use Rattle.literal_escaper.specs.Kind.{Kind, byte_kind, c_kind, string_kind}
use Rattle.literal_escaper.specs.Units.{byte_unit}
use Rattle.pm_token.specs.Joined.{Makes, escape_value, number_in, numbers, utf8}
use Rattle.pm_token.specs.Value.{unit_bytes}
use Rattle.pm_token.proofs.UnitLemmas.{EscapesAs, Gives, byte_bytes, one}

pub hex_low : (c : ℕ) → is_ascii_hexdigit c ≡ true → c < 128
hex_low c h = elim (or_cases (is_in_range 48 57 c || is_in_range 65 70 c) (is_in_range 97 102 c) h) [
  | inl small ↦ elim (or_cases (is_in_range 48 57 c) (is_in_range 65 70 c) small) [
    | inl digit ↦ up_to 48 57 c digit (omega arith)
    | inr letter ↦ up_to 65 70 c letter (omega arith)
  ]
  | inr letter ↦ up_to 97 102 c letter (omega arith)
]
  where
    up_to : (a b c : ℕ) → is_in_range a b c ≡ true → b < 128 → c < 128
    up_to a b c h top = let le = leb-true c b (and_parts (nat_le a c) (nat_le c b) h).1 in omega arith

pub hex_is : (c : ℕ) → is_ascii_hexdigit c ≡ true → is_hex c ≡ true
hex_is c h = (and_parts _ _ (agree_below_at (λ x. is_ascii_hexdigit x && is_hex x) is_ascii_hexdigit 128 c refl
    (hex_low c h) ∙ h)).1

no_line : (c : ℕ) → is_ascii_hexdigit c ≡ true → (c == 95) ≡ false
no_line c h =
    not-true _ (and_parts _ _
    (agree_below_at (λ x. is_ascii_hexdigit x && not (x == 95)) is_ascii_hexdigit 128 c refl (hex_low c h) ∙ h)).1

-- the number of two hex digits
pair_number : (a b : ℕ) → is_ascii_hexdigit a ≡ true → is_ascii_hexdigit b ≡ true
    → number_in (a ∷ b ∷ []) ≡ 16 * digit_value a + digit_value b
pair_number a b high low =
    let first : 16 * 0 + digit_value a ≡ digit_value a = omega arith in
    ap hex_value (cond-true _ _ _ high ∙ ap (λ p. a ∷ p) (cond-true _ _ _ low))
    ∙ (cond-false _ _ _ (no_line b low) ∙ ap (λ n. 16 * n + digit_value b) (cond-false _ _ _ (no_line a high) ∙ first))

-- two hex digits are an escape, if their number has a unit
pair_escapes : {U : Type 0} (kind : Kind U) (spell : U → List ℕ) (makes : Makes) (a b : ℕ) (back : List ℕ)
    → back ≡ 120 ∷ a ∷ b ∷ []
    → is_ascii_hexdigit a ≡ true → is_ascii_hexdigit b ≡ true
    → Gives spell (kind.of_hex (16 * digit_value a + digit_value b)) (makes.of_hex (16 * digit_value a + digit_value b))
    → EscapesAs kind spell (92 ∷ back) (escape_value makes back)
unfolding escape hex_escape
pair_escapes kind spell makes a b back whole high low gives =
    subst (λ p. EscapesAs kind spell (92 ∷ p) (escape_value makes p)) (sym whole) (record {
      unit = gives.unit;
      escapes = record {
        letter = 120;
        back = a ∷ b ∷ [];
        whole = refl;
        no_line = refl;
        gives = λ more. cond-true _ _ _ (hex_is a high)
            ∙ (cond-true _ _ _ (hex_is b low) ∙ ap (λ u. record { unit = u; rest = more }) gives.is);
      };
      value_is = gives.value_is ∙ ap makes.of_hex (sym (pair_number a b high low));
    })

octal_hex : (c : ℕ) → is_octal_digit c ≡ true → is_ascii_hexdigit c ≡ true
octal_hex c h = cond_both (nat_lt c 128) true false (λ b. is_ascii_hexdigit c ≡ true) low (λ e. absurd (high e))
  where
    low : nat_lt c 128 ≡ true → is_ascii_hexdigit c ≡ true
    low e =
        (and_parts (is_octal_digit c) (is_ascii_hexdigit c)
        (agree_below_at (λ x. is_octal_digit x && is_ascii_hexdigit x) is_octal_digit 128 c refl (ltb-true c 128 e)
        ∙ h)).1

    above : nat_lt c 128 ≡ false → (k : ℕ) → k ≤ 128 → nat_lt c k ≡ false
    above e k le = false_from_ne_true (nat_lt c k)
        (λ lt. let less = ltb-true c k lt in let more = ltb-false c 128 e in absurd (omega arith))

    high : nat_lt c 128 ≡ false → ⊥
    high e =
        let value : digit_value c ≡ 36 =
        cond-false _ _ _ (above e 48 (omega arith))
        ∙ (cond-false _ _ _ (above e 58 (omega arith))
        ∙ (cond-false _ _ _ (above e 65 (omega arith))
        ∙ (cond-false _ _ _ (above e 91 (omega arith))
        ∙ (cond-false _ _ _ (above e 97 (omega arith))
        ∙ cond-false _ _ _ (above e 123 (omega arith)))))) in
        both_ways (nat_lt (digit_value c) 8) (ap (λ d. nat_lt d 8) value) h

pub low_pair : (back r : List ℕ) → Stands (rule.hex rule.low_pair) back r
    → EscapesAs string_kind one (92 ∷ back) (escape_value numbers back)
low_pair back r is =
    let a = is.second.first.0 in
    let b = is.second.second.0 in
    let digit = ltb-true (digit_value a) 8 is.second.first.2 in
    let low = ltb-true (digit_value b) 16 (hex_is b is.second.second.2) in
    let small : nat_lt (16 * digit_value a + digit_value b) 128 ≡ true =
    lt-ltb (16 * digit_value a + digit_value b) 128 (omega arith) in
    let whole : back ≡ 120 ∷ a ∷ b ∷ [] =
    is.whole ∙ ap₂ (λ x y. x ++ y) is.first
    (is.second.whole ∙ ap₂ (λ x y. x ++ y) is.second.first.1 is.second.second.1) in
    pair_escapes string_kind one numbers a b back whole (octal_hex a is.second.first.2) is.second.second.2
    (record { unit = 16 * digit_value a + digit_value b; is = cond-true _ _ _ small; value_is = refl })

pub hex_pair : (back r : List ℕ) → Stands (rule.hex rule.hex_pair) back r
    → EscapesAs byte_kind one (92 ∷ back) (escape_value numbers back)
hex_pair back r is =
    let a = is.second.first.0 in
    let b = is.second.second.0 in
    let whole : back ≡ 120 ∷ a ∷ b ∷ [] =
    is.whole ∙ ap₂ (λ x y. x ++ y) is.first
    (is.second.whole ∙ ap₂ (λ x y. x ++ y) is.second.first.1 is.second.second.1) in
    pair_escapes byte_kind one numbers a b back whole is.second.first.2 is.second.second.2
    (record { unit = 16 * digit_value a + digit_value b; is = refl; value_is = refl })

zero_digit : (c : ℕ) → is_ascii_hexdigit c ≡ true → digit_value c ≡ 0 → c ≡ 48
zero_digit c h zero =
    let agree =
    agree_below_at (λ x. is_ascii_hexdigit x && (digit_value x == 0)) (λ x. is_ascii_hexdigit x && (x == 48))
    128 c refl (hex_low c h) in
    eqb-true c 48 (sym (ap (λ b. b && (c == 48)) h) ∙ (sym agree ∙ and_from _ _ h (ap (λ n. n == 0) zero)))

pub nonzero_pair : (back r : List ℕ) → Stands (rule.hex rule.nonzero_pair) back r
    → EscapesAs c_kind unit_bytes (92 ∷ back) (escape_value utf8 back)
nonzero_pair back r is =
    let pair = is.second.0 in
    let a = pair.first.0 in
    let b = pair.second.0 in
    let n = 16 * digit_value a + digit_value b in
    let whole : back ≡ 120 ∷ a ∷ b ∷ [] =
    is.whole ∙ ap₂ (λ x y. x ++ y) is.first (pair.whole ∙ ap₂ (λ x y. x ++ y) pair.first.1 pair.second.1) in
    let some : (n == 0) ≡ false = false_from_ne_true (n == 0) (λ e.
    let none = eqb-true n 0 e in
    let high : a ≡ 48 = zero_digit a pair.first.2 (omega arith) in
    let low : b ≡ 48 = zero_digit b pair.second.2 (omega arith) in
    let zeros : pair.front ++ pair.back ≡ codes "00" =
    ap₂ (λ x y. x ++ y) (pair.first.1 ∙ ap (λ d. d ∷ []) high) (pair.second.1 ∙ ap (λ d. d ∷ []) low) in
    both_ways true (sym (ap (λ p. begins_any (codes "00" ∷ []) (p ++ r)) (pair.whole ∙ zeros)) ∙ is.second.1) refl) in
    pair_escapes c_kind unit_bytes utf8 a b back whole pair.first.2 pair.second.2
    (record { unit = byte_unit n; is = cond-false _ _ _ some; value_is = byte_bytes n })
