-- How the code of a character is read, in braces after `\u`.
use Rattle.std.proofs.Common.{◌≡◌, ℕ, ◌*◌, ◌+◌, ◌<◌, Bool, true, false, not, ◌&&◌, ◌||◌, ◌==◌, nat_lt, nat_le, List, []}
use Rattle.std.proofs.Common.{◌∷◌, ◌++◌, length, Ok, refl, sym, ap, ap₂, ◌∙◌, subst, arith, inl, inr, eqb-true}
use Rattle.std.proofs.Common.{ltb-true, leb-true}
use Rattle.std.specs.Prelude.{filter, cond}
use Rattle.std.specs.Char.{digit_value, is_ascii_hexdigit}
use Rattle.std.specs.List.{fold, list_all}
use Rattle.std.proofs.lemmas.Bool.{agree_below_at, and_from, and_parts, cond_both, cond-false, cond-true}
use Rattle.std.proofs.lemmas.Bool.{false_from_ne_true, not-true, or_cases}
use Rattle.lexical.specs.Rule.{Stands}
use Rattle.lexical.specs.Quoted as rule
use Rattle.lexical.specs.Quoted.{is_scalar, is_code, hex_value}
use Rattle.literal_escaper.specs.Escape.{read_closing, code_unit, read_code, escape, is_code_character, is_hex}
use Rattle.literal_escaper.specs.Escape.{unicode_escape}
use Rattle.literal_escaper.specs.Kind.{Kind, character}
use Rattle.literal_escaper.specs.Text.{while_front, while_rest}
use Rattle.pm_token.specs.Joined.{Makes, escape_value}
use Rattle.pm_token.proofs.UnitLemmas.{EscapesAs, Spells}
use Rattle.pm_token.proofs.HexEscapeLemmas.{hex_is, hex_low}

abbrev is_code_part : ℕ → Bool
is_code_part c = is_ascii_hexdigit c || (c == 95)

part_low : (c : ℕ) → is_code_part c ≡ true → c < 128
part_low c h = elim (or_cases (is_ascii_hexdigit c) (c == 95) h) [
  | inl hex ↦ hex_low c hex
  | inr line ↦ let e = eqb-true c 95 line in omega arith
]

part_code : (c : ℕ) → is_code_part c ≡ true → is_code_character c ≡ true
part_code c h = (and_parts _ _ (agree_below_at (λ x. is_code_part x && is_code_character x) is_code_part 128 c refl
    (part_low c h) ∙ h)).1

-- a part of the code is a hex digit or `_`, which is skipped
part_hex : (c : ℕ) → is_code_part c ≡ true → (is_hex c ≡ is_ascii_hexdigit c) × ((c == 95) ≡ not (is_hex c))
part_hex c h =
    let low = part_low c h in
    let same = agree_below_at (λ x. is_code_part x && is_hex x)
    (λ x. is_code_part x && is_ascii_hexdigit x) 128 c refl low in
    let line = agree_below_at (λ x. is_code_part x && (x == 95))
    (λ x. is_code_part x && not (is_hex x)) 128 c refl low in (
      sym (ap (λ b. b && is_hex c) h) ∙ (same ∙ ap (λ b. b && is_ascii_hexdigit c) h),
      sym (ap (λ b. b && (c == 95)) h) ∙ (line ∙ ap (λ b. b && not (is_hex c)) h),
    )

code_front : (cs more : List ℕ) → list_all is_code_part cs ≡ true
    → while_front is_code_character ((cs ++ 125 ∷ []) ++ more) ≡ cs
code_front [] more all = refl
code_front (c ∷ cs) more all =
    let parts = and_parts (is_code_part c) (list_all is_code_part cs) all in
    cond-true _ _ _ (part_code c parts.0) ∙ ap (λ xs. c ∷ xs) (code_front cs more parts.1)

code_rest : (cs more : List ℕ) → list_all is_code_part cs ≡ true
    → while_rest is_code_character ((cs ++ 125 ∷ []) ++ more) ≡ 125 ∷ more
code_rest [] more all = refl
code_rest (c ∷ cs) more all =
    let parts = and_parts (is_code_part c) (list_all is_code_part cs) all in
    cond-true _ _ _ (part_code c parts.0) ∙ code_rest cs more parts.1

code_digits : (cs : List ℕ) → list_all is_code_part cs ≡ true → filter is_hex cs ≡ filter is_ascii_hexdigit cs
code_digits [] all = refl
code_digits (c ∷ cs) all =
    let parts = and_parts (is_code_part c) (list_all is_code_part cs) all in
    ap₂ (λ b xs. cond b (c ∷ xs) xs) (part_hex c parts.0).0 (code_digits cs parts.1)

abbrev hex_step : ℕ → ℕ → ℕ
hex_step n c = 16 * n + digit_value c

abbrev value_step : ℕ → ℕ → ℕ
value_step n c = cond (c == 95) n (16 * n + digit_value c)

code_number : (n : ℕ) (cs : List ℕ) → list_all is_code_part cs ≡ true
    → fold hex_step n (filter is_hex cs) ≡ fold value_step n cs
code_number n [] all = refl
code_number n (c ∷ cs) all =
    let parts = and_parts (is_code_part c) (list_all is_code_part cs) all in
    step (is_hex c) (part_hex c parts.0).1 (λ m. code_number m cs parts.1)
  where
    step : (b : Bool) → (c == 95) ≡ not b → ((m : ℕ) → fold hex_step m (filter is_hex cs) ≡ fold value_step m cs)
        → fold hex_step n (cond b (c ∷ filter is_hex cs) (filter is_hex cs))
        ≡ fold value_step (cond (c == 95) n (16 * n + digit_value c)) cs
    step true line ih = ih (hex_step n c) ∙ ap (λ m. fold value_step m cs) (sym (cond-false _ _ _ line))
    step false line ih = ih n ∙ ap (λ m. fold value_step m cs) (sym (cond-true _ _ _ line))

pub scalar_character : (n : ℕ) → is_scalar n ≡ true → character n ≡ Ok n
scalar_character n h = elim (or_cases (nat_lt n 0xD800) (nat_le 0xE000 n && nat_lt n 0x11_0000) h) [
  | inl below ↦ let lt = ltb-true n 0xD800 below in
      cond-false _ _ _ (false_from_ne_true (nat_lt 0x10_FFFF n)
      (λ e. let more = ltb-true 0x10_FFFF n e in absurd (omega arith)))
      ∙ cond-false _ _ _ (false_from_ne_true (nat_le 0xD800 n && nat_lt n 0xE000)
      (λ e. let le = leb-true 0xD800 n (and_parts (nat_le 0xD800 n) (nat_lt n 0xE000) e).0 in absurd (omega arith)))
  | inr above ↦ let ends = and_parts (nat_le 0xE000 n) (nat_lt n 0x11_0000) above in
      let from = leb-true 0xE000 n ends.0 in
      let up_to = ltb-true n 0x11_0000 ends.1 in
      cond-false _ _ _ (false_from_ne_true (nat_lt 0x10_FFFF n)
      (λ e. let more = ltb-true 0x10_FFFF n e in absurd (omega arith)))
      ∙ cond-false _ _ _ (false_from_ne_true (nat_le 0xD800 n && nat_lt n 0xE000)
      (λ e. let lt = ltb-true n 0xE000 (and_parts (nat_le 0xD800 n) (nat_lt n 0xE000) e).1 in absurd (omega arith)))
]

code_unit_is : {U : Type 0} (kind : Kind U) (allowed : ℕ → Bool) (cs : List ℕ) → list_all is_code_part cs ≡ true
    → is_code allowed cs ≡ true
    → code_unit kind (filter is_hex cs) ≡ kind.of_code (Ok (hex_value cs))
code_unit_is kind allowed cs all is =
    let parts = and_parts (nat_le (length (filter is_ascii_hexdigit cs)) 6) _ is in
    let scalar = and_parts (is_scalar (hex_value cs)) (allowed (hex_value cs)) parts.1 in
    let few = leb-true (length (filter is_ascii_hexdigit cs)) 6 parts.0 in
    cond-false _ _ _ (false_from_ne_true (nat_lt 6 (length (filter is_hex cs))) (λ e.
    let lt = ltb-true 6 (length (filter is_hex cs)) e in absurd (omega (arith, ap length (code_digits cs all)))))
    ∙ ap kind.of_code (ap character (code_number 0 cs all) ∙ scalar_character (hex_value cs) scalar.0)

coded_is : {U : Type 0} (kind : Kind U) (allowed : ℕ → Bool) (cs more : List ℕ)
    → list_all is_code_part cs ≡ true → is_code allowed cs ≡ true
    → read_code kind ((cs ++ 125 ∷ []) ++ more) ≡ record { unit = kind.of_code (Ok (hex_value cs)); rest = more }
unfolding read_code
coded_is kind allowed cs more all is =
    ap₂ (λ digits rest. read_closing kind digits rest) (ap (filter is_hex) (code_front cs more all))
    (code_rest cs more all)
    ∙ ap (λ u. record { unit = u; rest = more }) (code_unit_is kind allowed cs all is)

first_digit : (c : ℕ) → is_ascii_hexdigit c ≡ true → ((c == 95) ≡ false) × ((c == 125) ≡ false)
first_digit c h =
    let is = and_parts _ _ (agree_below_at (λ x. is_ascii_hexdigit x && (not (x == 95) && not (x == 125)))
    is_ascii_hexdigit 128 c refl (hex_low c h) ∙ h) in
    let others = and_parts _ _ is.1 in
    (not-true _ others.0, not-true _ others.1)

unicode_is : {U : Type 0} (kind : Kind U) (allowed : ℕ → Bool) (c : ℕ) (cs more : List ℕ)
    → is_ascii_hexdigit c ≡ true → list_all is_code_part cs ≡ true → is_code allowed (c ∷ cs) ≡ true
    → escape kind (117 ∷ (123 ∷ (((c ∷ cs) ++ 125 ∷ []) ++ more)))
    ≡ record { unit = kind.of_code (Ok (hex_value (c ∷ cs))); rest = more }
unfolding escape unicode_escape
unicode_is kind allowed c cs more hex all is =
    let plain = first_digit c hex in
    cond-false _ _ _ plain.0 ∙ (cond-false _ _ _ plain.1 ∙ (cond-true _ _ _ (hex_is c hex)
    ∙ coded_is kind allowed (c ∷ cs) more (and_from _ _ (ap (λ b. b || (c == 95)) hex) all) is))

-- the number in the braces
code_in : (n : ℕ) (cs : List ℕ) → list_all is_code_part cs ≡ true
    → fold value_step n (filter is_ascii_hexdigit (cs ++ 125 ∷ [])) ≡ fold value_step n cs
code_in n [] all = refl
code_in n (c ∷ cs) all =
    let parts = and_parts (is_code_part c) (list_all is_code_part cs) all in
    cond_both (is_ascii_hexdigit c) _ _ (λ p. fold value_step n p ≡ fold value_step (value_step n c) cs)
    (λ e. code_in (value_step n c) cs parts.1)
    (λ e. code_in n cs parts.1 ∙ ap (λ m. fold value_step m cs)
    (sym (cond-true _ _ _ (sym (ap (λ b. b || (c == 95)) e) ∙ parts.0))))

pub unicode_escapes : {U : Type 0} (kind : Kind U) (spell : U → List ℕ) (makes : Makes) (allowed : ℕ → Bool)
    (back r : List ℕ)
    → Spells spell (λ c. kind.of_code (Ok c)) makes.of_char allowed → Stands (rule.unicode allowed) back r
    → EscapesAs kind spell (92 ∷ back) (escape_value makes back)
unicode_escapes kind spell makes allowed back r spells is =
    let code = is.second.first in
    let c = code.0.first.0 in
    let cs = code.0.back in
    let text : is.second.front ≡ c ∷ cs = code.0.whole ∙ ap (λ x. x ++ cs) code.0.first.1 in
    let is_one : is_code allowed (c ∷ cs) ≡ true = sym (ap (is_code allowed) text) ∙ code.1 in
    let all : list_all is_code_part (c ∷ cs) ≡ true =
    and_from _ _ (ap (λ b. b || (c == 95)) code.0.first.2) code.0.second.each in
    let scalar =
    and_parts (is_scalar (hex_value (c ∷ cs))) (allowed (hex_value (c ∷ cs)))
    (and_parts (nat_le (length (filter is_ascii_hexdigit (c ∷ cs))) 6) _ is_one).1 in
    let gives = spells (hex_value (c ∷ cs)) scalar.1 in
    let whole : back ≡ 117 ∷ 123 ∷ ((c ∷ cs) ++ 125 ∷ []) =
    is.whole ∙ ap₂ (λ x y. x ++ y) is.first (is.second.whole ∙ ap₂ (λ x y. x ++ y) text is.second.second) in
    subst (λ p. EscapesAs kind spell (92 ∷ p) (escape_value makes p)) (sym whole) (record {
      unit = gives.unit;
      escapes = record {
        letter = 117;
        back = 123 ∷ ((c ∷ cs) ++ 125 ∷ []);
        whole = refl;
        no_line = refl;
        gives = λ more. unicode_is kind allowed c cs more code.0.first.2 code.0.second.each is_one
            ∙ ap (λ u. record { unit = u; rest = more }) gives.is;
      };
      value_is = gives.value_is ∙ ap makes.of_char (sym (code_in 0 (c ∷ cs) all));
    })
