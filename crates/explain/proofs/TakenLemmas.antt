-- An escape or a unit of the grammar is also one for the escaper.
use Rattle.std.proofs.Common.{◌≡◌, ℕ, ◌*◌, ◌+◌, ◌<◌, Bool, true, false, not, ◌&&◌, ◌||◌, ◌==◌, nat_lt, nat_le}
use Rattle.std.proofs.Common.{List, [], ◌∷◌, ◌++◌, codes, length, Result, Ok, Err, inl, inr, refl, sym, ap, ap₂, ◌∙◌}
use Rattle.std.proofs.Common.{subst}
use Rattle.std.proofs.Common.{arith, append_assoc, eqb-true, ltb-true}
use Rattle.std.specs.Prelude.{filter}
use Rattle.std.specs.Char.{digit_value, is_ascii_hexdigit}
use Rattle.std.specs.List.{list_all}
use Rattle.std.proofs.lemmas.Bool.{agree_below_at, and_from, and_parts, both_ways, cond-false, cond-true}
use Rattle.std.proofs.lemmas.Bool.{false_from_ne_true, lt-ltb}
use Rattle.lexical.specs.Form.{HasNone}
use Rattle.lexical.specs.Quoted as rule
use Rattle.lexical.specs.Quoted.{allows, escape as escape_rule, hex_value, is_code, is_one_of, is_plain, is_scalar}
use Rattle.lexical.specs.Quoted.{letters, unit as unit_rule}
use Rattle.lexical.specs.Rule.{Stands}
use Rattle.lexical.specs.Text.{begins_any}
use Rattle.lexical.specs.declared.quoted.StringKind.{StringKind}
use Rattle.lexical.specs.declared.quoted.StringKind.TheVariants as kinds
use Rattle.lexical.proofs.ClassLemmas.{any_of}
use Rattle.literal_escaper.specs.declared.errors.EscapeError.{EscapeError}
use Rattle.literal_escaper.specs.Escape.{Read, read_closing, code_unit, read_code, escape, fault, hex_escape}
use Rattle.literal_escaper.specs.Escape.{is_code_character, is_hex, unicode_escape}
use Rattle.literal_escaper.specs.Items.{plain, unit_front}
use Rattle.literal_escaper.specs.Kind.{Kind, byte_kind, c_kind, character, string_kind}
use Rattle.literal_escaper.specs.Text.{while_front, while_rest}
use Rattle.explain.specs.Content.{GivesFault, StringFault, line_ends}
use Rattle.explain.proofs.EscapeLemmas.{digits_same, hex_same, number_same, passes_same, past_hexdigit}
use Rattle.explain.proofs.PairedLemmas.{IsPairOf, Paired, before_quote, code_alone, hex_alone, pair_of}

-- ---- what the escaper takes

-- the escaper reads a unit, and this text is left
abbrev pub Takes : {U : Type 0} → Read U → List ℕ → Type 0
Takes {U = U} read rest = (u : U) × (read ≡ record { unit = Ok u; rest = rest })

-- where the escaper reads a unit, it reads no error
pub no_fault : {U : Type 0} (read : Read U) (e : EscapeError) (rest left : List ℕ) → Takes read rest
    → read ≡ fault e left → ⊥
no_fault {U = U} read e rest left takes is =
    let clash : ◌≡◌ {A = Result U EscapeError} (Ok takes.0) (Err e) = ap (λ r. r.unit) (sym takes.1 ∙ is) in
    cc

-- the kind of string makes units of everything that the grammar allows in it
pub record TakesAll {U : Type 0} (kind : Kind U) (strings : StringKind) : Type 0 where
  pub by_letter : (c : ℕ) (text : List ℕ) → is_one_of (letters strings) c ≡ true → Takes (escape kind (c ∷ text)) text
  pub by_pair : (ds r : List ℕ) (is : IsPairOf ds) → Stands (rule.pair strings) ds r
      → (u : U) × (kind.of_hex (16 * digit_value is.high + digit_value is.low) ≡ Ok u)
  pub by_code : (n : ℕ) → is_scalar n ≡ true → allows strings n ≡ true
      → (u : U) × (kind.of_code (character n) ≡ Ok u)
  pub by_plain : (c : ℕ) → is_plain strings c ≡ true → ((c == 92) ≡ false) × ((u : U) × (plain kind c ≡ Ok u))

-- ---- escapes

module _ {U : Type 0} (kind : Kind U) where
  hex_taken : (a b : ℕ) (text : List ℕ) → is_ascii_hexdigit a ≡ true → is_ascii_hexdigit b ≡ true
      → ((u : U) × (kind.of_hex (16 * digit_value a + digit_value b) ≡ Ok u))
      → Takes (escape kind (120 ∷ a ∷ b ∷ text)) text
  unfolding escape hex_escape
  hex_taken a b text high low is = (
    is.0,
    cond-true _ _ _ (hex_same a ∙ high)
        ∙ (cond-true _ _ _ (hex_same b ∙ low) ∙ ap (λ o. record { unit = o; rest = text }) is.1),
  )

  -- the digits of a code, up to the brace
  code_ends : (ds text : List ℕ) → list_all is_code_character ds ≡ true
      → (while_front is_code_character (ds ++ (125 ∷ text)) ≡ ds)
      × (while_rest is_code_character (ds ++ (125 ∷ text)) ≡ 125 ∷ text)
  code_ends [] text all = (refl, refl)
  code_ends (c ∷ ds) text all =
      let parts = and_parts (is_code_character c) (list_all is_code_character ds) all in
      let more = code_ends ds text parts.1 in (
        cond-true _ _ _ parts.0 ∙ ap (λ t. c ∷ t) more.0,
        cond-true _ _ _ parts.0 ∙ more.1,
      )

  code_taken : (c : ℕ) (ds text : List ℕ) → is_ascii_hexdigit c ≡ true → list_all is_code_character (c ∷ ds) ≡ true
      → (u : U) → code_unit kind (filter is_hex (c ∷ ds)) ≡ Ok u
      → Takes (escape kind (117 ∷ 123 ∷ ((c ∷ ds) ++ (125 ∷ text)))) text
  unfolding escape unicode_escape read_code
  code_taken c ds text hex all u is =
      let ends = code_ends (c ∷ ds) text all in (
        u,
        cond-false (c == 95) _ _ (other 95 refl)
            ∙ (cond-false (c == 125) _ _ (other 125 refl)
            ∙ (cond-true (is_hex c) _ _ (hex_same c ∙ hex)
            ∙ (ap₂ (λ p t. read_closing kind (filter is_hex p) t) ends.0 ends.1
            ∙ ap (λ o. record { unit = o; rest = text }) is))),
      )
    where
      other : (k : ℕ) → is_ascii_hexdigit k ≡ false → (c == k) ≡ false
      other k out = false_from_ne_true _ (λ same.
          both_ways _ out (ap is_ascii_hexdigit (sym (eqb-true c k same)) ∙ hex))

  module _ (strings : StringKind) (takes : TakesAll kind strings) where
    code_unit_is : (ds : List ℕ) → list_all is_code_character ds ≡ true → is_code (allows strings) ds ≡ true
        → (u : U) × (code_unit kind (filter is_hex ds) ≡ Ok u)
    code_unit_is ds all is =
        let parts = and_parts _ _ is in
        let inner = and_parts _ _ parts.1 in
        let taken = takes.by_code (hex_value ds) inner.0 inner.1 in
        let few : nat_lt 6 (length (filter is_hex ds)) ≡ false =
        ap (λ d. nat_lt 6 (length d)) (digits_same ds) ∙ at_most (length (filter is_ascii_hexdigit ds)) parts.0 in (
          taken.0,
          cond-false _ _ _ few ∙ (ap (λ n. kind.of_code (character n)) (number_same 0 ds all) ∙ taken.1),
        )
      where
        at_most : (n : ℕ) → nat_le n 6 ≡ true → nat_lt 6 n ≡ false
        at_most n e = grind (arith, e)

    -- an escape before the quote that closes the content
    pub escape_taken : (v r text tail : List ℕ) → Stands (escape_rule strings) v r → v ++ r ≡ text ++ (34 ∷ tail)
        → Paired (92 ∷ text) → (rest : List ℕ) × (text ≡ v ++ rest) × Takes (escape kind text) rest
    escape_taken v r [] tail (inl letter) e paired = absurd (both_ways _ refl paired)
    escape_taken v r (d ∷ text) tail (inl letter) e paired =
        let same : letter.0 ∷ r ≡ d ∷ (text ++ (34 ∷ tail)) = ap (λ t. t ++ r) (sym letter.1) ∙ e in
        let first : letter.0 ≡ d = cc in (
          text,
          ap (λ x. x ∷ text) (sym first) ∙ ap (λ t. t ++ text) (sym letter.1),
          takes.by_letter d text (ap (is_one_of (letters strings)) (sym first) ∙ letter.2),
        )
    escape_taken v r text tail (inr (inl hex)) e paired =
        let digits = pair_of strings hex.back r hex.second in
        let whole : v ≡ 120 ∷ digits.high ∷ digits.low ∷ [] =
        hex.whole ∙ (ap (λ t. t ++ hex.back) hex.first ∙ ap (λ t. 120 ∷ t) digits.whole) in
        let cut = before_quote (120 ∷ digits.high ∷ digits.low ∷ []) r text tail
        (ap₂ (λ a b. a && (b && true)) (hex_alone digits.high digits.first) (hex_alone digits.low digits.second))
        (ap (λ t. t ++ r) (sym whole) ∙ e) in (
          cut.0,
          cut.1 ∙ ap (λ t. t ++ cut.0) (sym whole),
          subst (λ t. Takes (escape kind t) cut.0) (sym cut.1)
              (hex_taken digits.high digits.low cut.0 digits.first digits.second
              (takes.by_pair hex.back r digits hex.second)),
        )
    escape_taken v r text tail (inr (inr code)) e paired =
        let inner = code.second in
        let digits = inner.first.0 in
        let one = digits.first in
        let ds : List ℕ = one.0 ∷ digits.back in
        let same : inner.front ≡ ds = digits.whole ∙ ap (λ t. t ++ digits.back) one.1 in
        let whole : v ≡ 117 ∷ 123 ∷ (ds ++ codes "}") =
        code.whole ∙ (ap (λ t. t ++ code.back) code.first
        ∙ ap (λ t. 117 ∷ 123 ∷ t) (inner.whole ∙ ap₂ (λ p q. p ++ q) same inner.second)) in
        let all : list_all is_code_character ds ≡ true =
        passes_same ds ∙ ap₂ (λ a b. (a || (one.0 == 95)) && b) one.2 digits.second.each in
        let alone : list_all (λ c. not (is_one_of (codes "\"\\") c)) (117 ∷ 123 ∷ (ds ++ codes "}")) ≡ true =
        all_alone (ds ++ codes "}") (more_alone ds (ap₂ (λ a b. a && b) (hex_alone one.0 one.2)
        (code_alone digits.back digits.second.each))) in
        let cut = before_quote (117 ∷ 123 ∷ (ds ++ codes "}")) r text tail alone (ap (λ t. t ++ r) (sym whole) ∙ e) in
        let unit = code_unit_is ds all (ap (is_code (allows strings)) (sym same) ∙ inner.first.1) in (
          cut.0,
          cut.1 ∙ ap (λ t. t ++ cut.0) (sym whole),
          subst (λ t. Takes (escape kind t) cut.0)
              (sym (cut.1 ∙ ap (λ t. 117 ∷ 123 ∷ t) (append_assoc ds (codes "}") cut.0)))
              (code_taken one.0 digits.back cut.0 one.2 all unit.0 unit.1),
        )
      where
        all_alone : (t : List ℕ) → list_all (λ c. not (is_one_of (codes "\"\\") c)) t ≡ true
            → list_all (λ c. not (is_one_of (codes "\"\\") c)) (117 ∷ 123 ∷ t) ≡ true
        all_alone t h = h

        more_alone : (t : List ℕ) → list_all (λ c. not (is_one_of (codes "\"\\") c)) t ≡ true
            → list_all (λ c. not (is_one_of (codes "\"\\") c)) (t ++ codes "}") ≡ true
        more_alone [] h = refl
        more_alone (c ∷ t) h =
            let parts = and_parts _ _ h in
            and_from _ _ parts.0 (more_alone t parts.1)

    -- ---- units

    pub no_unit : (e : EscapeError) (c : ℕ) (text left v r tail : List ℕ) → Stands (unit_rule strings) v r
        → v ++ r ≡ (c ∷ text) ++ (34 ∷ tail) → begins_any line_ends (v ++ r) ≡ false → Paired (c ∷ text)
        → unit_front kind c text ≡ fault e left → ⊥
    no_unit e c text left v r tail (inl one) split apart paired is =
        let same : one.0 ∷ r ≡ c ∷ (text ++ (34 ∷ tail)) = ap (λ t. t ++ r) (sym one.1) ∙ split in
        let first : one.0 ≡ c = cc in
        let taken = takes.by_plain c (ap (is_plain strings) (sym first) ∙ one.2) in
        no_fault (unit_front kind c text) e text left
        (taken.1.0, cond-false (c == 92) _ _ taken.0 ∙ ap (λ o. record { unit = o; rest = text }) taken.1.1) is
    no_unit e c text left v r tail (inr (inl newline)) split apart paired is =
        both_ways _ apart (ap (λ t. begins_any line_ends (t ++ r)) newline)
    no_unit e c text left v r tail (inr (inr escaped)) split apart paired is =
        by_second escaped.back (escaped.whole ∙ ap (λ t. t ++ escaped.back) escaped.first) escaped.second
      where
        by_second : (w : List ℕ) → v ≡ 92 ∷ w → Stands (rule.escape_or_line_end strings) w r → ⊥
        by_second w whole (inl (inl feed)) =
            both_ways _ apart (ap (λ t. begins_any line_ends (t ++ r)) (whole ∙ ap (λ t. 92 ∷ t) feed))
        by_second w whole (inl (inr return)) =
            both_ways _ apart (ap (λ t. begins_any line_ends (t ++ r)) (whole ∙ ap (λ t. 92 ∷ t) return))
        by_second w whole (inr escape) =
            let same : 92 ∷ (w ++ r) ≡ c ∷ (text ++ (34 ∷ tail)) = ap (λ t. t ++ r) (sym whole) ∙ split in
            let first : c ≡ 92 = cc in
            let rest : w ++ r ≡ text ++ (34 ∷ tail) = cc in
            let taken = escape_taken w r text tail escape rest (subst (λ d. Paired (d ∷ text)) first paired) in
            no_fault (unit_front kind c text) e taken.0 left
            (taken.2.0, cond-true (c == 92) _ _ (ap (λ d. d == 92) first) ∙ taken.2.1) is

-- ---- the kinds

plain_taken : (c : ℕ) → not (is_one_of (codes "\"\\\r") c) ≡ true
    → ((c == 34) ≡ false) × ((c == 92) ≡ false) × ((c == 13) ≡ false)
plain_taken c is = (other 34 refl, other 92 refl, other 13 refl)
  where
    other : (k : ℕ) → not (is_one_of (codes "\"\\\r") k) ≡ false → (c == k) ≡ false
    other k out = false_from_ne_true _ (λ same.
        both_ways _ out (ap (λ d. not (is_one_of (codes "\"\\\r") d)) (sym (eqb-true c k same)) ∙ is))

module _ {U : Type 0} (kind : Kind U) where
  plain_is : (c : ℕ) → not (is_one_of (codes "\"\\\r") c) ≡ true → (u : U) → kind.of_char c ≡ Ok u
      → ((c == 92) ≡ false) × ((u : U) × (plain kind c ≡ Ok u))
  plain_is c is u of =
      let parts = plain_taken c is in
      (parts.1, (u, cond-false _ _ _ parts.0 ∙ (cond-false _ _ _ parts.2 ∙ of)))

character_of : (n : ℕ) → is_scalar n ≡ true → character n ≡ Ok n
character_of n e = grind (arith, e)

below_hex : (c : ℕ) → is_ascii_hexdigit c ≡ true → c < 128
below_hex c hex = by_test (nat_lt c 128) refl
  where
    by_test : (b : Bool) → nat_lt c 128 ≡ b → c < 128
    by_test true e = ltb-true c 128 e
    by_test false e = absurd (both_ways _ (past_hexdigit c e) hex)

octal_low : (kind : StringKind) (ds r : List ℕ) (is : IsPairOf ds) → Stands rule.low_pair ds r
    → digit_value is.high < 8
octal_low kind ds r is low =
    let one = low.first in
    let same : one.0 ∷ low.back ≡ is.high ∷ is.low ∷ [] =
    sym (low.whole ∙ ap (λ t. t ++ low.back) one.1) ∙ is.whole in
    let first : one.0 ≡ is.high = cc in
    ltb-true (digit_value is.high) 8 (ap (λ d. nat_lt (digit_value d) 8) (sym first) ∙ one.2)

value_below : (c : ℕ) → is_ascii_hexdigit c ≡ true → digit_value c < 16
value_below c hex = ltb-true (digit_value c) 16 (hex_same c ∙ hex)

pub string_takes : TakesAll string_kind kinds.Plain
unfolding escape
string_takes = record {
  by_letter = λ c text is. any_of (λ d. Takes (escape string_kind (d ∷ text)) text) (letters kinds.Plain) c
      ((_, refl), ((_, refl), ((_, refl), ((_, refl), ((_, refl), ((_, refl), ((_, refl), tt))))))) is;
  by_pair = λ ds r is stands.
      let high = octal_low kinds.Plain ds r is stands in
      let low = value_below is.low is.second in
      (_, cond-true _ _ _ (lt-ltb (16 * digit_value is.high + digit_value is.low) 128 (omega (arith, high, low))));
  by_code = λ n scalar allowed. (n, character_of n scalar);
  by_plain = λ c is. plain_is string_kind c is c refl;
}

pub byte_takes : TakesAll byte_kind kinds.Byte
unfolding escape
byte_takes = record {
  by_letter = λ c text is. any_of (λ d. Takes (escape byte_kind (d ∷ text)) text) (letters kinds.Byte) c
      ((_, refl), ((_, refl), ((_, refl), ((_, refl), ((_, refl), ((_, refl), ((_, refl), tt))))))) is;
  by_pair = λ ds r is stands. (_, refl);
  by_code = λ n scalar allowed. absurd (both_ways _ refl allowed);
  by_plain = λ c is.
      let parts = and_parts _ _ is in
      plain_is byte_kind c parts.0 c (cond-true _ _ _ parts.1);
}

zero_digit : (c : ℕ) → is_ascii_hexdigit c ≡ true → digit_value c ≡ 0 → (48 == c) ≡ true
zero_digit c hex zero =
    sym (ap₂ (λ a b. not (a && (b == 0)) || (48 == c)) hex zero)
    ∙ agree_below_at (λ x. not (is_ascii_hexdigit x && (digit_value x == 0)) || (48 == x)) (λ x. true) 128 c refl
    (below_hex c hex)

some_pair : (ds r : List ℕ) (is : IsPairOf ds) → Stands rule.nonzero_pair ds r
    → ((16 * digit_value is.high + digit_value is.low) == 0) ≡ false
some_pair ds r is stands = false_from_ne_true _ (λ e.
    let zero = eqb-true (16 * digit_value is.high + digit_value is.low) 0 e in
    let high = zero_digit is.high is.first (omega (arith, zero)) in
    let low = zero_digit is.low is.second (omega (arith, zero)) in
    both_ways _ stands.1 (ap (λ t. begins_any (codes "00" ∷ []) (t ++ r)) is.whole
    ∙ ap₂ (λ a b. (a && (b && true)) || false) high low))

pub c_takes : TakesAll c_kind kinds.C
unfolding escape
c_takes = record {
  by_letter = λ c text is. any_of (λ d. Takes (escape c_kind (d ∷ text)) text) (letters kinds.C) c
      ((_, refl), ((_, refl), ((_, refl), ((_, refl), ((_, refl), ((_, refl), tt)))))) is;
  by_pair = λ ds r is stands. (_, cond-false _ _ _ (some_pair ds r is stands));
  by_code = λ n scalar allowed.
      (_, ap c_kind.of_code (character_of n scalar) ∙ cond-false _ _ _ (positive n allowed));
  by_plain = λ c is.
      let parts = and_parts _ _ is in
      plain_is c_kind c parts.0 _ (cond-false _ _ _ (not_zero (c == 0) parts.1));
}
  where
    positive : (n : ℕ) → nat_lt 0 n ≡ true → (n == 0) ≡ false
    positive n e = grind (arith, e)

    not_zero : (b : Bool) → not b ≡ true → b ≡ false
    not_zero false e = refl
    not_zero true e = absurd (both_ways _ refl e)

-- ---- where the escaper reads an error, there is no unit

no_unit_by : {U : Type 0} (kind : Kind U) (strings : StringKind) → TakesAll kind strings → (e : EscapeError)
    (content left tail : List ℕ) → GivesFault kind e content left → Paired content
    → begins_any line_ends (content ++ (34 ∷ tail)) ≡ false
    → HasNone (Stands (unit_rule strings)) (content ++ (34 ∷ tail))
no_unit_by kind strings takes e [] left tail gives paired apart v r split is = gives
no_unit_by kind strings takes e (c ∷ text) left tail gives paired apart v r split is =
    no_unit kind strings takes e c text left v r tail is (sym split)
    (ap (begins_any line_ends) (sym split) ∙ apart) paired gives

pub no_unit_at : (kind : StringKind) (e : EscapeError) (content left tail : List ℕ) → StringFault kind e content left
    → Paired content → begins_any line_ends (content ++ (34 ∷ tail)) ≡ false
    → HasNone (Stands (unit_rule kind)) (content ++ (34 ∷ tail))
no_unit_at kinds.Plain = no_unit_by string_kind kinds.Plain string_takes
no_unit_at kinds.Byte = no_unit_by byte_kind kinds.Byte byte_takes
no_unit_at kinds.C = no_unit_by c_kind kinds.C c_takes
