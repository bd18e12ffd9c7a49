-- Pairs, character by character, and the units among them.
use Rattle.std.proofs.Common.{◌≡◌, ℕ, Bool, true, false, not, ◌==◌, List, [], ◌∷◌, ◌++◌, codes, ◌⊎◌, inl, inr}
use Rattle.std.proofs.Common.{refl, sym, ap, ap₂, ◌∙◌, ◌&&◌, subst, arith, append_assoc, eqb-true, ltb-true}
use Rattle.std.specs.Char.{is_ascii_hexdigit, digit_value}
use Rattle.std.specs.List.{concat, list_all}
use Rattle.std.proofs.lemmas.Bool.{and_parts, both_ways, false_from_ne_true, or_from, lt-ltb}
use Rattle.lexical.specs.Form.{Each, Many}
use Rattle.lexical.specs.Quoted as rule
use Rattle.lexical.specs.Quoted.{escape_or_line_end, hex_pair, is_code_digit, is_octal_digit, is_one_of, is_plain, unit}
use Rattle.lexical.specs.Rule.{Stands}
use Rattle.lexical.specs.declared.quoted.StringKind.{StringKind}
use Rattle.lexical.specs.declared.quoted.StringKind.TheVariants as kinds
use Rattle.explain.specs.Shapes.{pair}
use Rattle.explain.proofs.EscapeLemmas.{hex_same}

-- a character that is a pair by itself
abbrev pub is_alone : ℕ → Bool
is_alone c = not (is_one_of (codes "\"\\") c)

-- the text consists of pairs
abbrev pub Paired : List ℕ → Type 0
Paired [] = Unit {0}
Paired (c ∷ []) = is_alone c ≡ true
Paired (c ∷ (d ∷ text)) = ((is_alone c ≡ true) × Paired (d ∷ text)) ⊎ ((c ≡ 92) × Paired text)

-- ---- pairs before a text

more_alone : (c : ℕ) (text : List ℕ) → is_alone c ≡ true → Paired text → Paired (c ∷ text)
more_alone c [] alone is = alone
more_alone c (d ∷ text) alone is = inl (alone, is)

pair_more : (u r text : List ℕ) → Stands pair u r → Paired text → Paired (u ++ text)
pair_more u r text (inl one) is =
    subst (λ t. Paired (t ++ text)) (sym one.1) (more_alone one.0 text one.2 is)
pair_more u r text (inr two) is =
    let any = two.second in
    subst (λ t. Paired (t ++ text)) (sym (two.whole ∙ (ap (λ t. t ++ two.back) two.first ∙ ap (λ t. 92 ∷ t) any.1)))
    (inr (refl, is))

pub paired_of : (us : List (List ℕ)) (r : List ℕ) → Each (Stands pair) us r → Paired (concat us)
paired_of [] r each = tt
paired_of (u ∷ us) r each = pair_more u (concat us ++ r) (concat us) each.0 (paired_of us r each.1)

-- ---- the text after pairs

pub past_alone : (c : ℕ) (text : List ℕ) → is_alone c ≡ true → Paired (c ∷ text) → Paired text
past_alone c [] alone is = tt
past_alone c (d ∷ text) alone (inl is) = is.1
past_alone c (d ∷ text) alone (inr is) = absurd (both_ways (is_alone 92) refl (ap is_alone (sym is.0) ∙ alone))

past_all : (cs text : List ℕ) → list_all is_alone cs ≡ true → Paired (cs ++ text) → Paired text
past_all [] text all is = is
past_all (c ∷ cs) text all is =
    let parts = and_parts (is_alone c) (list_all is_alone cs) all in
    past_all cs text parts.1 (past_alone c (cs ++ text) parts.0 is)

past_two : (d : ℕ) (text : List ℕ) → Paired (92 ∷ d ∷ text) → Paired text
past_two d text (inl is) = absurd (both_ways _ refl is.0)
past_two d text (inr is) = is.1

-- ---- classes without `"` and backslash

pub alone_by : (class : ℕ → Bool) → class 34 ≡ false → class 92 ≡ false → (c : ℕ) → class c ≡ true
    → is_alone c ≡ true
alone_by class quote backslash c is =
    ap not (or_from (34 == c) _ (false_from_ne_true _ (λ same.
    both_ways (class 34) quote (ap class (eqb-true 34 c same) ∙ is)))
    (or_from (92 == c) _ (false_from_ne_true _ (λ same.
    both_ways (class 92) backslash (ap class (eqb-true 92 c same) ∙ is))) refl))

pub plain_alone : (kind : StringKind) (c : ℕ) → is_plain kind c ≡ true → is_alone c ≡ true
plain_alone kinds.Plain = alone_by (is_plain kinds.Plain) refl refl
plain_alone kinds.Byte = alone_by (is_plain kinds.Byte) refl refl
plain_alone kinds.C = alone_by (is_plain kinds.C) refl refl

pub hex_alone : (c : ℕ) → is_ascii_hexdigit c ≡ true → is_alone c ≡ true
hex_alone = alone_by is_ascii_hexdigit refl refl

pub code_alone : (cs : List ℕ) → list_all is_code_digit cs ≡ true → list_all is_alone cs ≡ true
code_alone [] all = refl
code_alone (c ∷ cs) all =
    let parts = and_parts (is_code_digit c) (list_all is_code_digit cs) all in
    ap₂ (λ a b. a && b) (alone_by is_code_digit refl refl c parts.0) (code_alone cs parts.1)

-- ---- the two digits after `x`

octal_hex : (c : ℕ) → is_octal_digit c ≡ true → is_ascii_hexdigit c ≡ true
octal_hex c octal =
    let low = ltb-true (digit_value c) 8 octal in
    sym (hex_same c) ∙ lt-ltb (digit_value c) 16 (omega (arith, low))

pub record IsPairOf (ds : List ℕ) : Type 0 where
  pub high : ℕ
  pub low : ℕ
  pub whole : ds ≡ high ∷ low ∷ []
  pub first : is_ascii_hexdigit high ≡ true
  pub second : is_ascii_hexdigit low ≡ true

hex_pair_of : (ds r : List ℕ) → Stands hex_pair ds r → IsPairOf ds
hex_pair_of ds r is =
    let one = is.first in
    let two = is.second in
    record {
      high = one.0;
      low = two.0;
      whole = is.whole ∙ (ap (λ t. t ++ is.back) one.1 ∙ ap (λ t. one.0 ∷ t) two.1);
      first = one.2;
      second = two.2;
    }

pub pair_of : (kind : StringKind) (ds r : List ℕ) → Stands (rule.pair kind) ds r → IsPairOf ds
pair_of kinds.Plain ds r is =
    let one = is.first in
    let two = is.second in
    record {
      high = one.0;
      low = two.0;
      whole = is.whole ∙ (ap (λ t. t ++ is.back) one.1 ∙ ap (λ t. one.0 ∷ t) two.1);
      first = octal_hex one.0 one.2;
      second = two.2;
    }
pair_of kinds.Byte ds r is = hex_pair_of ds r is
pair_of kinds.C ds r is = hex_pair_of ds r is.0

-- ---- a unit among pairs

module _ (kind : StringKind) (r text : List ℕ) where
  past_escaped : (v : List ℕ) → Stands (escape_or_line_end kind) v r → Paired (92 ∷ (v ++ text)) → Paired text
  past_escaped v (inl (inl feed)) is = past_two 10 text (subst (λ t. Paired (92 ∷ (t ++ text))) feed is)
  past_escaped v (inl (inr return)) is =
      past_alone 10 text refl (past_two 13 (10 ∷ text) (subst (λ t. Paired (92 ∷ (t ++ text))) return is))
  past_escaped v (inr (inl letter)) is =
      past_two letter.0 text (subst (λ t. Paired (92 ∷ (t ++ text))) letter.1 is)
  past_escaped v (inr (inr (inl hex))) is =
      let digits = pair_of kind hex.back r hex.second in
      past_alone digits.low text (hex_alone digits.low digits.second)
      (past_alone digits.high (digits.low ∷ text) (hex_alone digits.high digits.first)
      (past_two 120 (digits.high ∷ digits.low ∷ text) (subst (λ t. Paired (92 ∷ (t ++ text)))
      (hex.whole ∙ (ap (λ t. t ++ hex.back) hex.first ∙ ap (λ t. 120 ∷ t) digits.whole)) is)))
  past_escaped v (inr (inr (inr code))) is =
      let inner = code.second in
      let digits = inner.first.0 in
      let one = digits.first in
      let whole : v ++ text ≡ 117 ∷ 123 ∷ one.0 ∷ (digits.back ++ (125 ∷ text)) =
      ap (λ t. t ++ text) (code.whole ∙ ap (λ t. t ++ code.back) code.first)
      ∙ ap (λ t. 117 ∷ 123 ∷ t) (ap (λ t. t ++ text) (inner.whole ∙ ap (λ t. inner.front ++ t) inner.second)
      ∙ (append_assoc inner.front (125 ∷ []) text
      ∙ ap (λ t. t ++ (125 ∷ text)) (digits.whole ∙ ap (λ t. t ++ digits.back) one.1))) in
      past_alone 125 text refl
      (past_all digits.back (125 ∷ text) (code_alone digits.back digits.second.each)
      (past_alone one.0 (digits.back ++ (125 ∷ text)) (hex_alone one.0 one.2)
      (past_alone 123 (one.0 ∷ (digits.back ++ (125 ∷ text))) refl
      (past_two 117 (123 ∷ one.0 ∷ (digits.back ++ (125 ∷ text))) (subst (λ t. Paired (92 ∷ t)) whole is)))))

  past_unit : (v : List ℕ) → Stands (unit kind) v r → Paired (v ++ text) → Paired text
  past_unit v (inl one) is =
      past_alone one.0 text (plain_alone kind one.0 one.2) (subst (λ t. Paired (t ++ text)) one.1 is)
  past_unit v (inr (inl newline)) is =
      past_alone 10 text refl (past_alone 13 (10 ∷ text) refl (subst (λ t. Paired (t ++ text)) newline is))
  past_unit v (inr (inr escape)) is =
      past_escaped escape.back escape.second (subst (λ t. Paired (t ++ text))
      (escape.whole ∙ ap (λ t. t ++ escape.back) escape.first) is)

pub past_units : (kind : StringKind) (us : List (List ℕ)) (r text : List ℕ) → Each (Stands (unit kind)) us r
    → Paired (concat us ++ text) → Paired text
past_units kind [] r text each is = is
past_units kind (u ∷ us) r text each is =
    past_units kind us r text each.1
    (past_unit kind (concat us ++ r) (concat us ++ text) u each.0
    (subst Paired (append_assoc u (concat us) text) is))

-- ---- units are pairs

more_all : (cs text : List ℕ) → list_all is_alone cs ≡ true → Paired text → Paired (cs ++ text)
more_all [] text all is = is
more_all (c ∷ cs) text all is =
    let parts = and_parts (is_alone c) (list_all is_alone cs) all in
    more_alone c (cs ++ text) parts.0 (more_all cs text parts.1 is)

module _ (kind : StringKind) (r text : List ℕ) (is : Paired text) where
  pub more_escaped : (v : List ℕ) → Stands (escape_or_line_end kind) v r → Paired (92 ∷ (v ++ text))
  more_escaped v (inl (inl feed)) = subst (λ t. Paired (92 ∷ (t ++ text))) (sym feed) (inr (refl, is))
  more_escaped v (inl (inr return)) =
      subst (λ t. Paired (92 ∷ (t ++ text))) (sym return) (inr (refl, more_alone 10 text refl is))
  more_escaped v (inr (inl letter)) =
      subst (λ t. Paired (92 ∷ (t ++ text))) (sym letter.1) (inr (refl, is))
  more_escaped v (inr (inr (inl hex))) =
      let digits = pair_of kind hex.back r hex.second in
      subst (λ t. Paired (92 ∷ (t ++ text)))
      (sym (hex.whole ∙ (ap (λ t. t ++ hex.back) hex.first ∙ ap (λ t. 120 ∷ t) digits.whole)))
      (inr (
        refl,
        more_alone digits.high (digits.low ∷ text) (hex_alone digits.high digits.first)
            (more_alone digits.low text (hex_alone digits.low digits.second) is),
      ))
  more_escaped v (inr (inr (inr code))) =
      let inner = code.second in
      let digits = inner.first.0 in
      let one = digits.first in
      let whole : v ++ text ≡ 117 ∷ 123 ∷ one.0 ∷ (digits.back ++ (125 ∷ text)) =
      ap (λ t. t ++ text) (code.whole ∙ ap (λ t. t ++ code.back) code.first)
      ∙ ap (λ t. 117 ∷ 123 ∷ t) (ap (λ t. t ++ text) (inner.whole ∙ ap (λ t. inner.front ++ t) inner.second)
      ∙ (append_assoc inner.front (125 ∷ []) text
      ∙ ap (λ t. t ++ (125 ∷ text)) (digits.whole ∙ ap (λ t. t ++ digits.back) one.1))) in
      subst (λ t. Paired (92 ∷ t)) (sym whole)
      (inr (
        refl,
        more_alone 123 (one.0 ∷ (digits.back ++ (125 ∷ text))) refl
            (more_alone one.0 (digits.back ++ (125 ∷ text)) (hex_alone one.0 one.2)
            (more_all digits.back (125 ∷ text) (code_alone digits.back digits.second.each)
            (more_alone 125 text refl is))),
      ))

  more_unit : (v : List ℕ) → Stands (unit kind) v r → Paired (v ++ text)
  more_unit v (inl one) =
      subst (λ t. Paired (t ++ text)) (sym one.1) (more_alone one.0 text (plain_alone kind one.0 one.2) is)
  more_unit v (inr (inl newline)) =
      subst (λ t. Paired (t ++ text)) (sym newline) (more_alone 13 (10 ∷ text) refl (more_alone 10 text refl is))
  more_unit v (inr (inr escape)) =
      subst (λ t. Paired (t ++ text)) (sym (escape.whole ∙ ap (λ t. t ++ escape.back) escape.first))
      (more_escaped escape.back escape.second)

pub units_paired : (kind : StringKind) (us : List (List ℕ)) (r : List ℕ) → Each (Stands (unit kind)) us r
    → Paired (concat us)
units_paired kind [] r each = tt
units_paired kind (u ∷ us) r each =
    more_unit kind (concat us ++ r) (concat us) (units_paired kind us r each.1) u each.0

-- the pairs of a text, as a list
pub pairs_of : (text r : List ℕ) → Paired text → Many (Stands pair) text r
pairs_of [] r is = record { units = []; whole = refl; each = tt }
pairs_of (c ∷ []) r is =
    record { units = (c ∷ []) ∷ []; whole = refl; each = (inl (c, refl, is), tt) }
pairs_of (c ∷ (d ∷ text)) r (inl is) =
    let more = pairs_of (d ∷ text) r is.1 in
    record {
      units = (c ∷ []) ∷ more.units;
      whole = ap (λ t. c ∷ t) more.whole;
      each = (inl (c, refl, is.0), more.each);
    }
pairs_of (c ∷ (d ∷ text)) r (inr is) =
    let more = pairs_of text r is.1 in
    record {
      units = (c ∷ d ∷ []) ∷ more.units;
      whole = ap (λ t. c ∷ d ∷ t) more.whole;
      each = (
        inr (record {
          front = codes "\\";
          back = d ∷ [];
          whole = ap (λ x. x ∷ d ∷ []) is.0;
          first = refl;
          second = (d, refl, refl);
        }),
        more.each,
      );
    }

-- ---- the text before the quote

-- text without `"` and backslash comes before the first `"`
pub before_quote : (front more left tail : List ℕ) → list_all is_alone front ≡ true
    → front ++ more ≡ left ++ (34 ∷ tail)
    → (rest : List ℕ) × (left ≡ front ++ rest) × (more ≡ rest ++ (34 ∷ tail))
before_quote [] more left tail all e = (left, refl, e)
before_quote (c ∷ front) more [] tail all e =
    let first : 34 ≡ c = cc in
    absurd (both_ways (is_alone 34) refl (ap is_alone first ∙ (and_parts _ _ all).0))
before_quote (c ∷ front) more (d ∷ left) tail all e =
    let first : d ≡ c = cc in
    let rest : front ++ more ≡ left ++ (34 ∷ tail) = cc in
    let is = before_quote front more left tail (and_parts _ _ all).1 rest in
    (is.0, ap₂ (λ x t. x ∷ t) first is.1, is.2)
