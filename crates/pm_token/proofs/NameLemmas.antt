-- Lemmas on the names of identifiers.
use Rattle.std.proofs.Common.{◌≡◌, ◌≢◌, ◌↔◌, ℕ, Bool, true, false, not, ◌==◌, List, [], ◌∷◌, ◌++◌, length, drop, IsTrue}
use Rattle.std.proofs.Common.{nat_eq, codes, refl, sym, ap, ◌∙◌, arith, ne_eqb, cond}
use Rattle.std.proofs.Common.{Option, Some, None}
use Rattle.std.specs.Str.{chars, IsUtf8, encode_utf8_all}
use Rattle.std.specs.Cmp.Lexicographic.{pointwise}
use Rattle.std.proofs.lemmas.Bool.{and_parts, both_ways, not-false}
use Rattle.std.proofs.lemmas.Option.{none-some}
use Rattle.std.proofs.lemmas.Slice.Eq.{bytes_eq-Decides}
use Rattle.std.proofs.lemmas.Str.{encodes-chars, encodes-append, encodes_same, length-le-encodes}
use Rattle.lexical.specs.Identifier.{Name, is_allowed}
use Rattle.lexical.specs.Token as tokens
use Rattle.lexical.specs.Token.{raw_front}
use Rattle.lexical.proofs.TextLemmas.{encode_all_ascii}
use Rattle.pm_token.specs.Built.{IsBuiltToken}
use Rattle.pm_token.specs.IdentFault.{is_name, is_number, ident_fault}
use Rattle.pm_token.specs.Text.{IsText}
use Rattle.pm_token.specs.declared.identifiers.faults.IdentError.{IdentError}
use Rattle.pm_token.specs.declared.identifiers.faults.IdentError.TheVariants.{Empty, Number, Invalid, Reserved}

-- ---- texts

-- a text has no bytes exactly if it has no characters
pub empty_same : (text : List ℕ) → IsUtf8 text → (length text == 0) ≡ (length (chars text) == 0)
empty_same text utf8 = sym (empty_encodes (chars text) ∙ ap (λ bytes. length bytes == 0) (encodes-chars text utf8))
  where
    empty_encodes : (cs : List ℕ) → (length cs == 0) ≡ (length (encode_utf8_all cs) == 0)
    empty_encodes [] = refl
    empty_encodes (c ∷ cs) =
        let more = length-le-encodes (c ∷ cs) in
        ne_eqb _ 0 (λ e. omega arith) ∙ sym (ne_eqb _ 0 (λ e. omega (arith, more)))

-- the bytes of an identifier as it is written
pub written_is : (raw : Bool) (name : List ℕ)
    → encode_utf8_all (raw_front raw ++ name) ≡ raw_front raw ++ encode_utf8_all name
written_is true name = encodes-append (codes "r#") name
    ∙ ap (λ x. x ++ encode_utf8_all name) (encode_all_ascii (codes "r#") refl)
written_is false name = refl

-- a plain identifier is written as the bytes of its name
pub plain_bytes : (raw : Bool) (name s : List ℕ) → raw ≡ false → name ≡ chars s → IsUtf8 s
    → encode_utf8_all (raw_front raw ++ name) ≡ s
plain_bytes true name s plain e own = absurd (both_ways _ plain refl)
plain_bytes false name s plain e own = ap encode_utf8_all e ∙ encodes-chars s own

-- equality of the written bytes is that of the written characters
pub text_bytes : (raw : Bool) (name s text : List ℕ) → name ≡ chars s → IsUtf8 s → IsUtf8 text
    → (raw_front raw ++ s ≡ text) ↔ (raw_front raw ++ name ≡ chars text)
text_bytes raw name s text e own utf8 =
    let bytes : encode_utf8_all (raw_front raw ++ name) ≡ raw_front raw ++ s =
    written_is raw name ∙ ap (λ x. raw_front raw ++ x) (ap encode_utf8_all e ∙ encodes-chars s own) in (
      λ h. encodes_same (raw_front raw ++ name) (chars text) (bytes ∙ (h ∙ sym (encodes-chars text utf8))),
      λ h. sym bytes ∙ (ap encode_utf8_all h ∙ encodes-chars text utf8),
    )

-- a plain identifier is written as its name
pub plain_is : (raw : Bool) (name s text : List ℕ) (r : Bool) → raw ≡ false → name ≡ chars s → IsUtf8 s → IsUtf8 text
    → r ≡ pointwise nat_eq s text
    → IsTrue r ↔ (raw_front raw ++ name ≡ chars text)
plain_is true name s text r plain e own utf8 is = absurd (both_ways _ plain refl)
plain_is false name s text r plain e own utf8 is =
    let same = bytes_eq-Decides s text in
    let bytes = text_bytes false name s text e own utf8 in
    (λ h. bytes.0 (same.0 (sym is ∙ h)), λ h. is ∙ same.1 (bytes.1 h))

-- a raw identifier is written as `r#` and its name
pub raw_is : (raw : Bool) (name s text rest : List ℕ) (r : Bool) → raw ≡ true → name ≡ chars s → IsUtf8 s
    → IsUtf8 text → text ≡ codes "r#" ++ rest → r ≡ pointwise nat_eq s rest
    → IsTrue r ↔ (raw_front raw ++ name ≡ chars text)
raw_is false name s text rest r marked e own utf8 split is = absurd (both_ways _ refl marked)
raw_is true name s text rest r marked e own utf8 split is =
    let same = bytes_eq-Decides s rest in
    let bytes = text_bytes true name s text e own utf8 in (
      λ h. bytes.0 (ap (λ x. codes "r#" ++ x) (same.0 (sym is ∙ h)) ∙ sym split),
      λ h. is ∙ same.1 (ap (drop 2) (bytes.1 h ∙ split)),
    )

-- a raw identifier is not written as a text that doesn't begin with `r#`
pub raw_is_not : (raw : Bool) (name s text : List ℕ) → raw ≡ true → name ≡ chars s → IsUtf8 s → IsUtf8 text
    → ((rest : List ℕ) → text ≢ codes "r#" ++ rest)
    → IsTrue false ↔ (raw_front raw ++ name ≡ chars text)
raw_is_not false name s text marked e own utf8 none = absurd (both_ways _ refl marked)
raw_is_not true name s text marked e own utf8 none =
    (λ h. absurd (both_ways _ refl h), λ h. absurd (none s (sym ((text_bytes true name s text e own utf8).1 h))))

-- ---- names

-- a text that is a name is a name of the grammar, with nothing after it
pub is_name-Name : (text : List ℕ) → is_name text ≡ true → Name text []
is_name-Name [] h = absurd (both_ways _ refl h)
is_name-Name (c ∷ text) h =
    let parts = and_parts _ _ h in
    record {
      front = c ∷ [];
      back = text;
      whole = refl;
      first = (c, refl, parts.0);
      second = record { each = parts.1; stops = refl };
    }

-- ---- faults

-- a text without a fault is an allowed name
pub built_from : (raw : Bool) (name : List ℕ) → IsText name → ident_fault raw name ≡ None
    → IsBuiltToken (tokens.Name raw name)
built_from raw name text h =
    let full = past (length name == 0) Empty _ h in
    let number = past (is_number name) Number _ full.1 in
    let invalid = past (not (is_name name)) Invalid _ number.1 in
    let reserved = past (not (is_allowed raw name)) Reserved None invalid.1 in
    (is_name-Name name (not-false _ invalid.0), not-false _ reserved.0, text)
  where
    past : (test : Bool) (error : IdentError) (more : Option IdentError) → cond test (Some error) more ≡ None
        → (test ≡ false) × (more ≡ None)
    past true error more e = absurd (none-some error (sym e))
    past false error more e = (refl, e)
