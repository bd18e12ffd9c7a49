-- How a content that the constructors wrote is read.
use Rattle.std.proofs.Common.{◌≡◌, ◌⊎◌, ℕ, ◌<◌, true, false, ◌&&◌, ◌==◌, List, [], ◌∷◌, ◌++◌, codes, None, Ok, refl}
use Rattle.std.proofs.Common.{sym, ap, ap₂, ◌∙◌, subst, arith, inl, inr, eqb-true}
use Rattle.std.specs.declared.ops.Range.{Range}
use Rattle.std.proofs.lemmas.Bool.{and_parts, cond_both, cond-false}
use Rattle.lexical.specs.Text.{first_passes}
use Rattle.lexical.specs.Quoted.{is_octal_digit}
use Rattle.literal_escaper.specs.Escape.{escape, hex_escape}
use Rattle.literal_escaper.specs.Items.{Item, front, items_from, one_item, unit_front}
use Rattle.literal_escaper.specs.Kind.{Kind}
use Rattle.literal_escaper.specs.Text.{first_is}
use Rattle.literal_escaper.specs.Value.{last_fault, units_of, value_of, value_or}
use Rattle.literal_escaper.proofs.ItemLemmas.{items_none, items_past}
use Rattle.pm_token.specs.Escaped.{char_text}

-- ---- items without an error

-- whether the items have these units in order, and no error
pub record Give {U : Type 0} (items : List (Item U)) (units : List U) : Type 0 where
  pub sound : last_fault items ≡ None
  pub all : units_of items ≡ units

pub given_value : {U : Type 0} (items : List (Item U)) (units : List U) → Give items units → value_of items ≡ Ok units
given_value items units give = ap₂ value_or give.sound give.all

pub give_none : {U : Type 0} (kind : Kind U) (end : ℕ) → Give (items_from kind end []) []
give_none kind end = subst (λ items. Give items []) (sym (items_none kind end 0)) (record { sound = refl; all = refl })

give_more : {U : Type 0} (range : Range ℕ) (unit : U) (items : List (Item U)) (units : List U) → Give items units
    → Give ((range, Ok unit) ∷ items) (unit ∷ units)
give_more range unit items units give = record { sound = give.sound; all = ap (λ us. unit ∷ us) give.all }

-- whether the text begins with this unit, and `rest` follows it
pub record Begins {U : Type 0} (kind : Kind U) (end : ℕ) (text : List ℕ) (unit : U) (rest : List ℕ) : Type 0 where
  pub range : Range ℕ
  pub items : (front kind end text).items ≡ (range, Ok unit) ∷ []
  pub rest_is : (front kind end text).rest ≡ rest

pub give_front : {U : Type 0} (kind : Kind U) (end : ℕ) (text : List ℕ) (unit : U) (rest : List ℕ) (units : List U)
    → Begins kind end text unit rest → Give (items_from kind end rest) units
    → Give (items_from kind end text) (unit ∷ units)
give_front kind end text unit rest units begins give =
    let whole : items_from kind end text ≡ (begins.range, Ok unit) ∷ items_from kind end rest =
    items_past kind end text ∙ ap₂ (λ xs r. xs ++ items_from kind end r) begins.items begins.rest_is in
    subst (λ items. Give items (unit ∷ units)) (sym whole)
    (give_more begins.range unit (items_from kind end rest) units give)

-- ---- one unit

-- whether p is an escape of this unit, whatever follows it
pub record Escapes {U : Type 0} (kind : Kind U) (p : List ℕ) (unit : U) : Type 0 where
  pub letter : ℕ
  pub back : List ℕ
  pub whole : p ≡ 92 ∷ letter ∷ back
  pub no_line : (letter == 10) ≡ false
  pub gives : (more : List ℕ) → escape kind (letter ∷ (back ++ more)) ≡ record { unit = Ok unit; rest = more }

-- whether p is the character c alone, which is this unit between such quotes
pub record Stands {U : Type 0} (kind : Kind U) (quote c : ℕ) (p : List ℕ) (unit : U) : Type 0 where
  pub whole : p ≡ c ∷ []
  pub unit_is : kind.of_char c ≡ Ok unit
  pub no_tab : (c == 9) ≡ false
  pub no_return : (c == 13) ≡ false
  pub no_line : (c == 10) ≡ false
  pub no_backslash : (c == 92) ≡ false
  pub no_quote : (c == quote) ≡ false

-- whether p is an escape of this unit, or the character c alone
abbrev pub WrittenAs : {U : Type 0} → Kind U → ℕ → ℕ → List ℕ → U → Type 0
WrittenAs kind quote c p unit = Escapes kind p unit ⊎ Stands kind quote c p unit

one_front : {U : Type 0} (kind : Kind U) (end c : ℕ) (text : List ℕ) → ((c == 92) && first_is 10 text) ≡ false
    → front kind end (c ∷ text) ≡ one_item end (c ∷ text) (unit_front kind c text)
unfolding front
one_front kind end c text h = cond-false _ _ _ h

begins_read : {U : Type 0} (kind : Kind U) (end c : ℕ) (text : List ℕ) (unit : U) (rest : List ℕ)
    → ((c == 92) && first_is 10 text) ≡ false
    → unit_front kind c text ≡ record { unit = Ok unit; rest = rest } → Begins kind end (c ∷ text) unit rest
begins_read kind end c text unit rest h read =
    let whole = one_front kind end c text h ∙ ap (one_item end (c ∷ text)) read in record {
      range = _;
      items = ap (λ x. x.items) whole;
      rest_is = ap (λ x. x.rest) whole;
    }

pub begins_escape : {U : Type 0} (kind : Kind U) (end : ℕ) (p : List ℕ) (unit : U) (more : List ℕ) → Escapes kind p unit
    → Begins kind end (p ++ more) unit more
begins_escape kind end p unit more is =
    subst (λ q. Begins kind end (q ++ more) unit more) (sym is.whole)
    (begins_read kind end 92 (is.letter ∷ (is.back ++ more)) unit more is.no_line (is.gives more))

-- whether the character alone is this unit between double quotes
pub record Alone {U : Type 0} (kind : Kind U) (c : ℕ) (unit : U) : Type 0 where
  pub unit_is : kind.of_char c ≡ Ok unit
  pub no_return : (c == 13) ≡ false
  pub no_backslash : (c == 92) ≡ false
  pub no_quote : (c == 34) ≡ false

pub begins_alone : {U : Type 0} (kind : Kind U) (end c : ℕ) (unit : U) (more : List ℕ) → Alone kind c unit
    → Begins kind end (c ∷ more) unit more
begins_alone kind end c unit more is =
    begins_read kind end c more unit more (ap (λ b. b && first_is 10 more) is.no_backslash) (
    cond-false _ _ _ is.no_backslash
    ∙ ap (λ u. record { unit = u; rest = more })
    (cond-false _ _ _ is.no_quote ∙ (cond-false _ _ _ is.no_return ∙ is.unit_is)))

begins_stand : {U : Type 0} (kind : Kind U) (end c : ℕ) (p : List ℕ) (unit : U) (more : List ℕ)
    → Stands kind 34 c p unit
    → Begins kind end (p ++ more) unit more
begins_stand kind end c p unit more is =
    let alone : Alone kind c unit =
    record {
      unit_is = is.unit_is;
      no_return = is.no_return;
      no_backslash = is.no_backslash;
      no_quote =
          is.no_quote;
    } in
    subst (λ q. Begins kind end (q ++ more) unit more) (sym is.whole) (begins_alone kind end c unit more alone)

pub begins_written : {U : Type 0} (kind : Kind U) (end c : ℕ) (p : List ℕ) (unit : U) (more : List ℕ)
    → WrittenAs kind 34 c p unit
    → Begins kind end (p ++ more) unit more
begins_written kind end c p unit more (inl is) = begins_escape kind end p unit more is
begins_written kind end c p unit more (inr is) = begins_stand kind end c p unit more is

-- ---- letters after a backslash

-- whether each ASCII character alone is a unit of the kind
pub record IsPlain (kind : Kind ℕ) : Type 0 where
  pub chars : (d : ℕ) → d < 128 → kind.of_char d ≡ Ok d
  pub zero : kind.of_hex 0 ≡ Ok 0

simple : (kind : Kind ℕ) (letter d : ℕ) → (letter == 10) ≡ false
    → ((more : List ℕ) → escape kind (letter ∷ more) ≡ record { unit = kind.of_char d; rest = more })
    → kind.of_char d ≡ Ok d → Escapes kind (92 ∷ letter ∷ []) d
simple kind letter d line reads is =
    record {
      letter = letter;
      back = [];
      whole = refl;
      no_line = line;
      gives = λ more. reads more
          ∙ ap (λ u. record { unit = u; rest = more }) is;
    }

long_zero : (kind : Kind ℕ) → IsPlain kind → Escapes kind (codes "\\x00") 0
unfolding escape hex_escape
long_zero kind is =
    record {
      letter = 120;
      back = codes "00";
      whole = refl;
      no_line = refl;
      gives =
          λ more. ap (λ u. record { unit = u; rest = more }) is.zero;
    }

short_zero : (kind : Kind ℕ) → IsPlain kind → Escapes kind (codes "\\0") 0
unfolding escape
short_zero kind is = simple kind 48 0 refl (λ more. refl) (is.chars 0 (omega arith))

short_tab : (kind : Kind ℕ) → IsPlain kind → Escapes kind (codes "\\t") 9
unfolding escape
short_tab kind is = simple kind 116 9 refl (λ more. refl) (is.chars 9 (omega arith))

short_return : (kind : Kind ℕ) → IsPlain kind → Escapes kind (codes "\\r") 13
unfolding escape
short_return kind is = simple kind 114 13 refl (λ more. refl) (is.chars 13 (omega arith))

short_line : (kind : Kind ℕ) → IsPlain kind → Escapes kind (codes "\\n") 10
unfolding escape
short_line kind is = simple kind 110 10 refl (λ more. refl) (is.chars 10 (omega arith))

short_backslash : (kind : Kind ℕ) → IsPlain kind → Escapes kind (codes "\\\\") 92
unfolding escape
short_backslash kind is = simple kind 92 92 refl (λ more. refl) (is.chars 92 (omega arith))

pub short_double : (kind : Kind ℕ) → IsPlain kind → Escapes kind (92 ∷ 34 ∷ []) 34
unfolding escape
short_double kind is = simple kind 34 34 refl (λ more. refl) (is.chars 34 (omega arith))

pub short_single : (kind : Kind ℕ) → IsPlain kind → Escapes kind (92 ∷ 39 ∷ []) 39
unfolding escape
short_single kind is = simple kind 39 39 refl (λ more. refl) (is.chars 39 (omega arith))

-- an escape of d is one of c, if they are equal
same_unit : (kind : Kind ℕ) (p : List ℕ) (c d : ℕ) → (c == d) ≡ true → Escapes kind p d → Escapes kind p c
same_unit kind p c d e is = subst (Escapes kind p) (sym (eqb-true c d e)) is

-- any character is read back, if those without a short escape are
pub written_as : (kind : Kind ℕ) (quote : ℕ) (how : ℕ → List ℕ) (c : ℕ) (rest : List ℕ) → IsPlain kind
    → Escapes kind (92 ∷ quote ∷ []) quote
    → ((c == 9) ≡ false → (c == 13) ≡ false → (c == 10) ≡ false → (c == 92) ≡ false → (c == quote) ≡ false
    → WrittenAs kind quote c (how c) c)
    → WrittenAs kind quote c (char_text quote how c rest) c
written_as kind quote how c rest is closing other =
    cond_both ((c == 0) && first_passes is_octal_digit rest) _ _ (λ p. WrittenAs kind quote c p c)
    (λ e. inl (same_unit kind _ c 0 (and_parts (c == 0) _ e).0 (long_zero kind is)))
    (λ e. cond_both (c == 0) _ _ (λ p. WrittenAs kind quote c p c)
    (λ e. inl (same_unit kind _ c 0 e (short_zero kind is)))
    (λ e. cond_both (c == 9) _ _ (λ p. WrittenAs kind quote c p c)
    (λ e. inl (same_unit kind _ c 9 e (short_tab kind is)))
    (λ tab. cond_both (c == 13) _ _ (λ p. WrittenAs kind quote c p c)
    (λ e. inl (same_unit kind _ c 13 e (short_return kind is)))
    (λ return. cond_both (c == 10) _ _ (λ p. WrittenAs kind quote c p c)
    (λ e. inl (same_unit kind _ c 10 e (short_line kind is)))
    (λ line. cond_both (c == 92) _ _ (λ p. WrittenAs kind quote c p c)
    (λ e. inl (same_unit kind _ c 92 e (short_backslash kind is)))
    (λ backslash. cond_both (c == quote) _ _ (λ p. WrittenAs kind quote c p c)
    (λ e. inl (same_unit kind _ c quote e closing))
    (λ plain. other tab return line backslash plain)))))))
