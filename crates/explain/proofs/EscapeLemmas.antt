-- What the escaper reads as an escape is an escape of the grammar.
use Rattle.std.proofs.Common.{◌≡◌, ℕ, ◌*◌, ◌+◌, ◌<◌, ◌≤◌, Bool, true, false, not, ◌&&◌, ◌||◌, ◌==◌, nat_lt, nat_le}
use Rattle.std.proofs.Common.{List, []}
use Rattle.std.proofs.Common.{◌∷◌, ◌++◌, codes, length, Option, Some, None, Result, Ok, Err, refl, sym, ap, ap₂, ◌∙◌}
use Rattle.std.proofs.Common.{subst}
use Rattle.std.proofs.Common.{append_assoc, arith, inl, inr, eqb-true, ltb-true, leb-true}
use Rattle.std.specs.Prelude.{filter, cond, is_some}
use Rattle.std.specs.Char.{digit_value, is_ascii, is_ascii_hexdigit}
use Rattle.std.specs.Int.{is_in_range}
use Rattle.std.specs.List.{fold, list_all}
use Rattle.std.proofs.lemmas.Bool.{agree_below_at, and_from, and_parts, both_ways, cond_both, cond-false, cond-true}
use Rattle.std.proofs.lemmas.Bool.{false_from_ne_true, lt-ltb, ltb-false, or_from}
use Rattle.lexical.specs.Text.{begins_any}
use Rattle.lexical.specs.Rule.{Rule, Stands}
use Rattle.lexical.specs.Quoted as rule
use Rattle.lexical.specs.Quoted.{allows, hex_value, is_code, is_code_digit, is_octal_digit, is_one_of, is_plain}
use Rattle.lexical.specs.Quoted.{is_scalar}
use Rattle.lexical.specs.Quoted.{is_string_plain}
use Rattle.lexical.specs.Quoted.{letters}
use Rattle.lexical.specs.declared.quoted.StringKind.{StringKind}
use Rattle.lexical.specs.declared.quoted.StringKind.TheVariants as kinds
use Rattle.literal_escaper.specs.declared.errors.EscapeError.{EscapeError}
use Rattle.literal_escaper.specs.Escape.{Read, read_closing, code_unit, read_code, escape, hex_escape, hex_number}
use Rattle.literal_escaper.specs.Escape.{is_code_character, is_hex, letter, letter_unit, unicode_escape}
use Rattle.literal_escaper.specs.declared.mixed_unit.MixedUnit.{MixedUnit}
use Rattle.literal_escaper.specs.Kind.{Kind, byte_kind, c_code, c_kind, character, string_kind}
use Rattle.literal_escaper.specs.Units.{c_byte, c_char}
use Rattle.literal_escaper.specs.Text.{while_front, while_rest}

-- ---- hex digits

above : (c : ℕ) → nat_lt c 128 ≡ false → (k : ℕ) → k ≤ 128 → nat_lt c k ≡ false
above c e k le = false_from_ne_true (nat_lt c k)
    (λ lt. let less = ltb-true c k lt in let more = ltb-false c 128 e in absurd (omega arith))

-- a character that isn't ASCII is no digit
past_value : (c : ℕ) → nat_lt c 128 ≡ false → digit_value c ≡ 36
past_value c e =
    cond-false _ _ _ (above c e 48 (omega arith))
    ∙ (cond-false _ _ _ (above c e 58 (omega arith))
    ∙ (cond-false _ _ _ (above c e 65 (omega arith))
    ∙ (cond-false _ _ _ (above c e 91 (omega arith))
    ∙ (cond-false _ _ _ (above c e 97 (omega arith))
    ∙ cond-false _ _ _ (above c e 123 (omega arith))))))

past_hex : (c : ℕ) → nat_lt c 128 ≡ false → is_hex c ≡ false
past_hex c e = ap (λ d. nat_lt d 16) (past_value c e)

pub past_hexdigit : (c : ℕ) → nat_lt c 128 ≡ false → is_ascii_hexdigit c ≡ false
past_hexdigit c e =
    let far : 128 ≤ c = ltb-false c 128 e in
    let out : (a b : ℕ) → b < 128 → is_in_range a b c ≡ false = λ a b low. false_from_ne_true _ (λ h.
    let le = leb-true c b (and_parts (nat_le a c) (nat_le c b) h).1 in
    absurd (omega arith)) in
    or_from _ _ (or_from _ _ (out 48 57 (omega arith)) (out 65 70 (omega arith))) (out 97 102 (omega arith))

pub hex_same : (c : ℕ) → is_hex c ≡ is_ascii_hexdigit c
hex_same c = cond_both (nat_lt c 128) true false (λ b. is_hex c ≡ is_ascii_hexdigit c)
    (λ e. agree_below_at is_hex is_ascii_hexdigit 128 c refl (ltb-true c 128 e))
    (λ e. past_hex c e ∙ sym (past_hexdigit c e))

-- ---- the digits in braces

code_passes : (text : List ℕ) → list_all is_code_character (while_front is_code_character text) ≡ true
code_passes [] = refl
code_passes (c ∷ text) =
    cond_both (is_code_character c) (c ∷ while_front is_code_character text) []
    (λ p. list_all is_code_character p ≡ true)
    (λ e. and_from _ _ e (code_passes text)) (λ e. refl)

code_whole : (text : List ℕ) → text ≡ while_front is_code_character text ++ while_rest is_code_character text
code_whole [] = refl
code_whole (c ∷ text) = by_test (is_code_character c) (code_whole text)
  where
    by_test : (b : Bool) → text ≡ while_front is_code_character text ++ while_rest is_code_character text
        → c ∷ text ≡ cond b (c ∷ while_front is_code_character text) []
        ++ cond b (while_rest is_code_character text) (c ∷ text)
    by_test true more = ap (λ t. c ∷ t) more
    by_test false more = refl

pub digits_same : (ds : List ℕ) → filter is_hex ds ≡ filter is_ascii_hexdigit ds
digits_same [] = refl
digits_same (c ∷ ds) = ap₂ (λ b xs. cond b (c ∷ xs) xs) (hex_same c) (digits_same ds)

pub passes_same : (ds : List ℕ) → list_all is_code_character ds ≡ list_all is_code_digit ds
passes_same [] = refl
passes_same (c ∷ ds) = ap₂ (λ b more. (b || (c == 95)) && more) (hex_same c) (passes_same ds)

-- a character of a code is a hex digit or `_`
line_is : (c : ℕ) → is_code_character c ≡ true → (c == 95) ≡ not (is_hex c)
line_is c h = by_test (is_hex c) refl
  where
    by_test : (b : Bool) → is_hex c ≡ b → (c == 95) ≡ not b
    by_test true e = false_from_ne_true _ (λ line. both_ways _ (ap is_hex (eqb-true c 95 line)) e)
    by_test false e = sym (ap (λ b. b || (c == 95)) e) ∙ h

abbrev hex_step : ℕ → ℕ → ℕ
hex_step n c = 16 * n + digit_value c

abbrev value_step : ℕ → ℕ → ℕ
value_step n c = cond (c == 95) n (16 * n + digit_value c)

pub number_same : (n : ℕ) (ds : List ℕ) → list_all is_code_character ds ≡ true
    → fold hex_step n (filter is_hex ds) ≡ fold value_step n ds
number_same n [] all = refl
number_same n (c ∷ ds) all =
    let parts = and_parts (is_code_character c) (list_all is_code_character ds) all in
    step (is_hex c) (line_is c parts.0) (λ m. number_same m ds parts.1)
  where
    step : (b : Bool) → (c == 95) ≡ not b → ((m : ℕ) → fold hex_step m (filter is_hex ds) ≡ fold value_step m ds)
        → fold hex_step n (cond b (c ∷ filter is_hex ds) (filter is_hex ds))
        ≡ fold value_step (cond (c == 95) n (16 * n + digit_value c)) ds
    step true line ih = ih (hex_step n c) ∙ ap (λ m. fold value_step m ds) (sym (cond-false _ _ _ line))
    step false line ih = ih n ∙ ap (λ m. fold value_step m ds) (sym (cond-true _ _ _ line))

-- ---- the characters of which a kind of string makes a unit

-- the grammar allows each character of which the kind makes a unit
pub record Allows {U : Type 0} (kind : Kind U) (strings : StringKind) : Type 0 where
  pub by_letter : (c d : ℕ) (u : U) → letter c ≡ Some d → kind.of_char d ≡ Ok u
      → is_one_of (letters strings) c ≡ true
  pub by_pair : (a b : ℕ) (u : U) (r : List ℕ) → is_hex a ≡ true → is_hex b ≡ true
      → kind.of_hex (16 * digit_value a + digit_value b) ≡ Ok u → Stands (rule.pair strings) (a ∷ b ∷ []) r
  pub by_code : (n : ℕ) (u : U) → kind.of_code (character n) ≡ Ok u
      → (is_scalar n ≡ true) × (allows strings n ≡ true)
  pub by_char : (c : ℕ) (u : U) → kind.of_char c ≡ Ok u → (c == 34) ≡ false → (c == 92) ≡ false
      → (c == 13) ≡ false → is_plain strings c ≡ true

-- ---- what was read

-- what was read matches the rule, whatever follows the content
pub record IsRead {U : Type 0} (rule : Rule) (text more : List ℕ) (read : Read U) : Type 0 where
  pub part : List ℕ
  pub whole : text ≡ part ++ read.rest
  pub stands : Stands rule part (read.rest ++ more)

no_unit : {U : Type 0} (P : Type 0) (e : EscapeError) (u : U) → ◌≡◌ {A = Result U EscapeError} (Err e) (Ok u) → P
no_unit P e u h = absurd (cc)

module _ {U : Type 0} (kind : Kind U) (strings : StringKind) (are : Allows kind strings) (more : List ℕ) (u : U) where
  abbrev Is : List ℕ → Read U → Type 0
  Is text read = read.unit ≡ Ok u → IsRead (rule.escape strings) text more read

  hex_is : (c : ℕ) (text : List ℕ) → (c == 120) ≡ true → Is (c ∷ text) (hex_escape kind text)
  unfolding hex_escape
  hex_is c [] e = λ h. no_unit _ _ u h
  hex_is c (a ∷ []) e =
      cond_both (is_hex a) _ _ (Is (c ∷ a ∷ [])) (λ high h. no_unit _ _ u h) (λ high h. no_unit _ _ u h)
  hex_is c (a ∷ (b ∷ rest)) e =
      cond_both (is_hex a) _ _ (Is (c ∷ a ∷ b ∷ rest))
      (λ high. cond_both (is_hex b) _ _ (Is (c ∷ a ∷ b ∷ rest))
      (λ low h. record {
        part = 120 ∷ a ∷ b ∷ [];
        whole = ap (λ d. d ∷ a ∷ b ∷ rest) (eqb-true c 120 e);
        stands = inr (inl (record {
          front = codes "x";
          back = a ∷ b ∷ [];
          whole = refl;
          first = refl;
          second = are.by_pair a b u (rest ++ more) high low h;
        }));
      })
      (λ low h. no_unit _ _ u h))
      (λ high h. no_unit _ _ u h)

  -- the digits are a code of the grammar if their number is that of a character
  code_is : (ds : List ℕ) → list_all is_code_character ds ≡ true → code_unit kind (filter is_hex ds) ≡ Ok u
      → is_code (allows strings) ds ≡ true
  code_is ds all = cond_both (nat_lt 6 (length (filter is_hex ds))) _ _
      (λ o. o ≡ Ok u → is_code (allows strings) ds ≡ true)
      (λ many h. no_unit _ _ u h)
      (λ few h.
      let number : hex_number (filter is_hex ds) ≡ hex_value ds = number_same 0 ds all in
      let allowed = are.by_code (hex_value ds) u (subst (λ n. kind.of_code (character n) ≡ Ok u) number h) in
      let count : nat_lt 6 (length (filter is_ascii_hexdigit ds)) ≡ false =
      ap (λ d. nat_lt 6 (length d)) (sym (digits_same ds)) ∙ few in
      and_from _ _ (at_most (length (filter is_ascii_hexdigit ds)) count) (and_from _ _ allowed.0 allowed.1))
    where
      at_most : (n : ℕ) → nat_lt 6 n ≡ false → nat_le n 6 ≡ true
      at_most n e = grind (arith, e)

  -- `u{`, digits of which the first is `x`, and `}` are an escape
  closed_is : (c d x : ℕ) (ds tail : List ℕ) → (c == 117) ≡ true → (d == 123) ≡ true → is_hex x ≡ true
      → list_all is_code_character (x ∷ ds) ≡ true
      → Is (c ∷ d ∷ x ∷ (ds ++ tail)) (read_closing kind (filter is_hex (x ∷ ds)) tail)
  closed_is c d x ds [] e f hex all = λ h. no_unit _ _ u h
  closed_is c d x ds (y ∷ tail) e f hex all =
      cond_both (y == 125) _ _ (Is (c ∷ d ∷ x ∷ (ds ++ (y ∷ tail))))
      (λ brace h. record {
        part = 117 ∷ 123 ∷ ((x ∷ ds) ++ 125 ∷ []);
        whole = ap₂ (λ a b. a ∷ b ∷ x ∷ (ds ++ (y ∷ tail))) (eqb-true c 117 e) (eqb-true d 123 f)
            ∙ (ap (λ z. 117 ∷ 123 ∷ x ∷ (ds ++ (z ∷ tail))) (eqb-true y 125 brace)
            ∙ ap (λ t. 117 ∷ 123 ∷ x ∷ t) (sym (append_assoc ds (125 ∷ []) tail)));
        stands = inr (inr (record {
          front = codes "u{";
          back = (x ∷ ds) ++ 125 ∷ [];
          whole = refl;
          first = refl;
          second = record {
            front = x ∷ ds;
            back = codes "}";
            whole = refl;
            first = (
              record {
                front = x ∷ [];
                back = ds;
                whole = refl;
                first = (x, refl, sym (hex_same x) ∙ hex);
                second = record {
                  each = sym (passes_same ds) ∙ (and_parts _ _ all).1;
                  stops = refl;
                };
              },
              code_is (x ∷ ds) all h,
            );
            second = refl;
          };
        }));
      })
      (λ brace h. no_unit _ _ u h)

  braced_is : (c d x : ℕ) (text : List ℕ) → (c == 117) ≡ true → (d == 123) ≡ true → is_hex x ≡ true
      → Is (c ∷ d ∷ x ∷ text) (read_code kind (x ∷ text))
  unfolding read_code
  braced_is c d x text e f hex =
      let passes : is_code_character x ≡ true = ap (λ b. b || (x == 95)) hex in
      subst (λ t. Is (c ∷ d ∷ x ∷ t) (read_code kind (x ∷ text))) (sym (code_whole text))
      (subst (λ (read : Read U). Is (c ∷ d ∷ x ∷ (while_front is_code_character text
      ++ while_rest is_code_character text)) read)
      (sym (ap₂ (λ p r. read_closing kind (filter is_hex p) r) (cond-true _ _ _ passes) (cond-true _ _ _ passes)))
      (closed_is c d x (while_front is_code_character text) (while_rest is_code_character text) e f hex
      (and_from _ _ passes (code_passes text))))

  unicode_is : (c : ℕ) (text : List ℕ) → (c == 117) ≡ true → Is (c ∷ text) (unicode_escape kind text)
  unfolding unicode_escape
  unicode_is c [] e = λ h. no_unit _ _ u h
  unicode_is c (d ∷ []) e =
      cond_both (d == 123) _ _ (Is (c ∷ d ∷ [])) (λ f h. no_unit _ _ u h) (λ f h. no_unit _ _ u h)
  unicode_is c (d ∷ (x ∷ text)) e =
      cond_both (d == 123) _ _ (Is (c ∷ d ∷ x ∷ text))
      (λ f. cond_both (x == 95) _ _ (Is (c ∷ d ∷ x ∷ text)) (λ line h. no_unit _ _ u h)
      (λ line. cond_both (x == 125) _ _ (Is (c ∷ d ∷ x ∷ text)) (λ brace h. no_unit _ _ u h)
      (λ brace. cond_both (is_hex x) _ _ (Is (c ∷ d ∷ x ∷ text)) (braced_is c d x text e f)
      (λ other h. no_unit _ _ u h))))
      (λ f h. no_unit _ _ u h)

  letter_is : (c : ℕ) (text : List ℕ) (o : Option ℕ) → letter c ≡ o → letter_unit kind o ≡ Ok u
      → IsRead (rule.escape strings) (c ∷ text) more (record { unit = letter_unit kind o; rest = text })
  letter_is c text None e h = no_unit _ _ u h
  letter_is c text (Some d) e h = record {
    part = c ∷ [];
    whole = refl;
    stands = inl (c, refl, are.by_letter c d u e h);
  }

  pub escape_is : (text : List ℕ) → Is text (escape kind text)
  unfolding escape
  escape_is [] = λ h. no_unit _ _ u h
  escape_is (c ∷ text) =
      cond_both (c == 120) _ _ (Is (c ∷ text)) (hex_is c text)
      (λ e. cond_both (c == 117) _ _ (Is (c ∷ text)) (unicode_is c text)
      (λ f h. letter_is c text (letter c) refl h))

-- ---- the kinds

-- a character that isn't ASCII is no letter of an escape
letter_past : (c : ℕ) → nat_lt c 128 ≡ false → letter c ≡ None
letter_past c e =
    let far : 128 ≤ c = ltb-false c 128 e in
    let other : (k : ℕ) → k < 128 → (c == k) ≡ false = λ k low. false_from_ne_true _ (λ h.
    let same = eqb-true c k h in
    absurd (omega arith)) in
    cond-false _ _ _ (other 48 (omega arith))
    ∙ (cond-false _ _ _ (other 110 (omega arith))
    ∙ (cond-false _ _ _ (other 114 (omega arith))
    ∙ (cond-false _ _ _ (other 116 (omega arith))
    ∙ cond-false _ _ _ (or_from _ _ (or_from _ _ (other 92 (omega arith)) (other 39 (omega arith)))
    (other 34 (omega arith))))))

-- a letter of an escape is one of these, given whether it is ASCII
known_of : (b : Bool) (c d : ℕ) → nat_lt c 128 ≡ b → letter c ≡ Some d → is_one_of (codes "nrt\\0'\"") c ≡ true
known_of true c d low e =
    sym (agree_below_at (λ x. is_some (letter x)) (is_one_of (codes "nrt\\0'\"")) 128 c refl (ltb-true c 128 low))
    ∙ ap is_some e
known_of false c d past e = let clash : ◌≡◌ {A = Option ℕ} None (Some d) = sym (letter_past c past) ∙ e in absurd (cc)

-- a letter that is an escape for a character is one of these
letter_known : (c d : ℕ) → letter c ≡ Some d → is_one_of (codes "nrt\\0'\"") c ≡ true
letter_known c d e = known_of (nat_lt c 128) c d refl e

-- a letter that is an escape for a character other than NUL is one of these
known_some : (c d : ℕ) → letter c ≡ Some d → (d == 0) ≡ false → is_one_of (codes "nrt\\'\"") c ≡ true
known_some c d e some = grind (arith, e, some, letter_known c d e)

-- a number that is a character is a scalar value
scalar_of : (n m : ℕ) → character n ≡ Ok m → (is_scalar n ≡ true) × (m ≡ n)
scalar_of n m = cond_both (nat_lt 0x10_FFFF n) _ _ (λ o. o ≡ Ok m → (is_scalar n ≡ true) × (m ≡ n))
    (λ e h. no_unit _ _ m h)
    (λ e. cond_both (nat_le 0xD800 n && nat_lt n 0xE000) _ _ (λ o. o ≡ Ok m → (is_scalar n ≡ true) × (m ≡ n))
    (λ f h. no_unit _ _ m h)
    (λ f h. (grind (arith, e, f), cc)))

plain_is : (c : ℕ) → (c == 34) ≡ false → (c == 92) ≡ false → (c == 13) ≡ false → is_string_plain c ≡ true
plain_is c quote backslash return = grind (arith, quote, backslash, return)

octal_is : (c : ℕ) → digit_value c < 8 → is_octal_digit c ≡ true
octal_is c h = lt-ltb (digit_value c) 8 h

hexdigit : (c : ℕ) → is_hex c ≡ true → is_ascii_hexdigit c ≡ true
hexdigit c h = sym (hex_same c) ∙ h

pub string_allows : Allows string_kind kinds.Plain
string_allows = record {
  by_letter = λ c d u e h. letter_known c d e;
  by_pair = λ a b u r high low. cond_both (is_ascii (16 * digit_value a + digit_value b)) _ _
      (λ o. o ≡ Ok u → Stands (rule.pair kinds.Plain) (a ∷ b ∷ []) r)
      (λ e h.
      let small = ltb-true (16 * digit_value a + digit_value b) 128 e in
      record {
        front = a ∷ [];
        back = b ∷ [];
        whole = refl;
        first = (a, refl, octal_is a (omega arith));
        second = (b, refl, hexdigit b low);
      })
      (λ e h. no_unit _ _ u h);
  by_code = λ n u h. ((scalar_of n u h).0, refl);
  by_char = λ c u h quote backslash return. plain_is c quote backslash return;
}

hex_pair_is : (a b : ℕ) (r : List ℕ) → is_hex a ≡ true → is_hex b ≡ true → Stands rule.hex_pair (a ∷ b ∷ []) r
hex_pair_is a b r high low = record {
  front = a ∷ [];
  back = b ∷ [];
  whole = refl;
  first = (a, refl, hexdigit a high);
  second = (b, refl, hexdigit b low);
}

pub byte_allows : Allows byte_kind kinds.Byte
byte_allows = record {
  by_letter = λ c d u e h. letter_known c d e;
  by_pair = λ a b u r high low h. hex_pair_is a b r high low;
  by_code = λ n u h. no_unit _ _ u h;
  by_char = λ c u h quote backslash return. and_from _ _ (plain_is c quote backslash return) (ascii c u h);
}
  where
    ascii : (c u : ℕ) → byte_kind.of_char c ≡ Ok u → is_ascii c ≡ true
    ascii c u = cond_both (is_ascii c) _ _ (λ o. o ≡ Ok u → is_ascii c ≡ true) (λ e h. e) (λ e h. no_unit _ _ u h)

-- a unit of a C string is not zero
some_char : (c : ℕ) (u : MixedUnit) → c_char c ≡ Ok u → (c == 0) ≡ false
some_char c u = cond_both (c == 0) _ _ (λ o. o ≡ Ok u → (c == 0) ≡ false) (λ e h. no_unit _ _ u h) (λ e h. e)

some_byte : (n : ℕ) (u : MixedUnit) → c_byte n ≡ Ok u → (n == 0) ≡ false
some_byte n u = cond_both (n == 0) _ _ (λ o. o ≡ Ok u → (n == 0) ≡ false) (λ e h. no_unit _ _ u h) (λ e h. e)

code_some : (n : ℕ) (u : MixedUnit) (o : Result ℕ EscapeError) → character n ≡ o → c_code o ≡ Ok u
    → (is_scalar n ≡ true) × (nat_lt 0 n ≡ true)
code_some n u (Err e) is h = no_unit _ _ u h
code_some n u (Ok m) is h =
    let scalar = scalar_of n m is in
    (scalar.0, more n (ap (λ d. d == 0) (sym scalar.1) ∙ some_char m u h))
  where
    more : (n : ℕ) → (n == 0) ≡ false → nat_lt 0 n ≡ true
    more n e = grind (arith, e)

zeros : (a b : ℕ) (r : List ℕ) → begins_any (codes "00" ∷ []) (a ∷ b ∷ r) ≡ true → (a ≡ 48) × (b ≡ 48)
zeros a b r h = grind (arith, h)

pub c_allows : Allows c_kind kinds.C
c_allows = record {
  by_letter = λ c d u e h. known_some c d e (some_char d u h);
  by_pair = λ a b u r high low h. (
    hex_pair_is a b r high low,
    false_from_ne_true _ (λ e.
        let both = zeros a b r e in
        both_ways _ (some_byte (16 * digit_value a + digit_value b) u h)
        (ap₂ (λ x y. (16 * digit_value x + digit_value y) == 0) both.0 both.1)),
  );
  by_code = λ n u h. code_some n u (character n) refl h;
  by_char = λ c u h quote backslash return. and_from _ _ (plain_is c quote backslash return)
      (ap not (some_char c u h));
}
