-- Comparisons of identifiers as they are written.
use Rattle.std.proofs.Common.{◌≡◌, ◌≢◌, ◌↔◌, ℕ, Bool, true, false, not, ◌&&◌, ◌||◌, ◌==◌, List, [], ◌∷◌, ◌++◌, IsTrue}
use Rattle.std.proofs.Common.{nat_eq, codes, refl, sym, ap, ap₂, ◌∙◌, subst, arith, ◌⊎◌, inl, inr}
use Rattle.std.specs.Bool.{beq}
use Rattle.std.specs.Cmp.{Equal-is, booleans_Decides}
use Rattle.std.specs.Cmp.Lexicographic.{pointwise, slice_cmp, texts_ties, nat_list_eq_equiv}
use Rattle.std.specs.Hash as fed
use Rattle.std.specs.Ordering.{nat_cmp, ordering_then, is_eq}
use Rattle.std.specs.declared.cmp.Ordering.{Ordering}
use Rattle.std.specs.declared.cmp.Ordering.TheVariants.{Less, Equal, Greater}
use Rattle.std.specs.Str.{chars, IsUtf8, encode_utf8_all}
use Rattle.std.proofs.lemmas.Bool.{both_ways, false_from_ne_true, and_parts, eq-eqb, cond-false}
use Rattle.std.proofs.lemmas.Bool.Decides.{same_from_decides}
use Rattle.std.proofs.lemmas.Map.Lookups.{exact_unsigned}
use Rattle.std.proofs.lemmas.Slice.Eq.{bytes_eq-Decides}
use Rattle.std.proofs.lemmas.Str.{chars-encodes, encodes-chars, encodes_same}
use Rattle.lexical.specs.Class.{is_ident_continue}
use Rattle.lexical.specs.Identifier as identifiers
use Rattle.lexical.specs.Text.{begins_with}
use Rattle.lexical.specs.Token.{raw_front}
use Rattle.lexical.proofs.ClassLemmas.{ident_continue_ascii}
use Rattle.lexical.proofs.PieceFacts.{name_continues, none_begins}
use Rattle.lexical.proofs.TextLemmas.{begins_chars}
use Rattle.pm_token.specs.Built.{IsBuiltToken}
use Rattle.pm_token.specs.Leaf.{Name, name_token}
use Rattle.pm_token.specs.Spelling.{name_text, spelling, name_eq, name_cmp, fed_for}
use Rattle.pm_token.proofs.NameLemmas.{written_is}

-- ---- texts that begin with another text

begins_apart : (front x t : List ℕ) → begins_with front t ≡ false → pointwise nat_eq (front ++ x) t ≡ false
begins_apart [] x t h = absurd (both_ways _ h refl)
begins_apart (c ∷ front) x [] h = refl
begins_apart (c ∷ front) x (d ∷ t) h = false_from_ne_true _ (λ same.
    let parts = and_parts _ _ same in
    let more : begins_with front t ≡ false = ap (λ b. b && begins_with front t) (sym parts.0) ∙ h in
    both_ways _ (begins_apart front x t more) parts.1)

-- two lexicographic orders are equal if they are in the case that the first part leaves open
then_same : (o a b : Ordering) → (o ≡ Equal → a ≡ b) → ordering_then o a ≡ ordering_then o b
then_same Less a b h = refl
then_same Equal a b h = h refl
then_same Greater a b h = refl

-- if t doesn't begin with a text, that text decides the order
pub order_front : (front x t : List ℕ) → begins_with front t ≡ false
    → slice_cmp nat_cmp (front ++ x) t ≡ slice_cmp nat_cmp front t
order_front [] x t h = absurd (both_ways _ h refl)
order_front (c ∷ front) x [] h = refl
order_front (c ∷ front) x (d ∷ t) h = then_same (nat_cmp c d) _ _ (λ e.
    let same : (c == d) ≡ true = eq-eqb c d (exact_unsigned c d e) in
    order_front front x t (ap (λ b. b && begins_with front t) (sym same) ∙ h))

pub order_back : (front x t : List ℕ) → begins_with front t ≡ false
    → slice_cmp nat_cmp t (front ++ x) ≡ slice_cmp nat_cmp t front
order_back [] x t h = absurd (both_ways _ h refl)
order_back (c ∷ front) x [] h = refl
order_back (c ∷ front) x (d ∷ t) h = then_same (nat_cmp d c) _ _ (λ e.
    let same : (c == d) ≡ true = eq-eqb c d (sym (exact_unsigned d c e)) in
    order_back front x t (ap (λ b. b && begins_with front t) (sym same) ∙ h))

-- ---- identifiers

-- whether s has the bytes of the identifier's name
pub record IsNameOf (a : Name) (s : List ℕ) : Type 0 where
  pub own : a.name ≡ chars s
  pub utf8 : IsUtf8 s
  pub plain : begins_with (codes "r#") s ≡ false

-- no name begins with `r#`
name_plain : (s : List ℕ) → IsUtf8 s → identifiers.Name (chars s) [] → begins_with (codes "r#") s ≡ false
name_plain s utf8 is =
    begins_chars (codes "r#") s utf8 refl
    ∙ left_false _ (none_begins is_ident_continue (codes "r#" ∷ []) (chars s) none (name_continues (chars s) [] is))
  where
    none : (not (is_ident_continue 114 && (is_ident_continue 35 && true)) && true) ≡ true
    none = ap₂ (λ x y. not (x && (y && true)) && true) (ident_continue_ascii 114 (omega arith))
        (ident_continue_ascii 35 (omega arith))

    left_false : (b : Bool) → (b || false) ≡ false → b ≡ false
    left_false true h = h
    left_false false h = refl

pub name_of : {a b : Name} (s : List ℕ) → b ≡ a → chars s ≡ b.name → IsUtf8 s → IsBuiltToken (name_token b)
    → IsNameOf a s
name_of {a} {b} s view e utf8 built = record {
  own = sym (ap (λ (x : Name). x.name) view) ∙ sym e;
  utf8 = utf8;
  plain = name_plain s utf8 (subst (λ n. identifiers.Name n []) (sym e) built.0);
}

-- the bytes of an identifier as it is written
pub spelling_bytes : (a : Name) (s : List ℕ) → IsNameOf a s → spelling a ≡ raw_front a.raw ++ s
spelling_bytes a s h = written_is a.raw a.name
    ∙ ap (λ x. raw_front a.raw ++ x) (ap encode_utf8_all h.own ∙ encodes-chars s h.utf8)

-- ---- equality

-- identifiers are equal exactly if the same characters are written
pub eq_text : (a b : Name) (r : Bool) → r ≡ name_eq a b → IsTrue r ↔ (name_text a ≡ name_text b)
eq_text a b r is =
    let same = bytes_eq-Decides (spelling a) (spelling b) in
    (λ h. encodes_same (name_text a) (name_text b) (same.0 (sym is ∙ h)), λ h. is ∙ same.1 (ap encode_utf8_all h))

past_front : (raw : Bool) (x y : List ℕ)
    → pointwise nat_eq (raw_front raw ++ x) (raw_front raw ++ y) ≡ pointwise nat_eq x y
past_front true x y = refl
past_front false x y = refl

-- if both are raw or both plain, the names decide
pub eq_alike : (a b : Name) (s t : List ℕ) (r : Bool) → IsNameOf a s → IsNameOf b t → a.raw ≡ b.raw
    → r ≡ pointwise nat_eq s t → r ≡ name_eq a b
eq_alike a b s t r h k alike is =
    is ∙ (sym (past_front b.raw s t)
    ∙ ap₂ (pointwise nat_eq) (ap (λ x. raw_front x ++ s) (sym alike) ∙ sym (spelling_bytes a s h))
    (sym (spelling_bytes b t k)))

-- a raw and a plain identifier differ
pub eq_apart : (a b : Name) (s t : List ℕ) → IsNameOf a s → IsNameOf b t → a.raw ≢ b.raw → name_eq a b ≡ false
eq_apart a b s t h k differ = ap₂ (pointwise nat_eq) (spelling_bytes a s h) (spelling_bytes b t k)
    ∙ fronts_apart a.raw b.raw differ
  where
    fronts_apart : (x y : Bool) → x ≢ y → pointwise nat_eq (raw_front x ++ s) (raw_front y ++ t) ≡ false
    fronts_apart true true differ = absurd (differ refl)
    fronts_apart true false differ = begins_apart (codes "r#") s t k.plain
    fronts_apart false true differ = nat_list_eq_equiv.symm s (codes "r#" ++ t) ∙ begins_apart (codes "r#") t s h.plain
    fronts_apart false false differ = absurd (differ refl)

-- if both are raw or both plain, they are equal exactly if their fields are
pub eq_fields : (a b : Name) (s t : List ℕ) (r : Bool) → IsNameOf a s → IsNameOf b t → a.raw ≡ b.raw
    → r ≡ pointwise nat_eq s t → IsTrue r ↔ ((a.name ≡ b.name) × (a.raw ≡ b.raw))
eq_fields a b s t r h k alike is =
    let same = bytes_eq-Decides s t in (
      λ yes. (h.own ∙ (ap chars (same.0 (sym is ∙ yes)) ∙ sym k.own), alike),
      λ fields. is ∙ same.1 (sym (encodes-chars s h.utf8)
          ∙ (ap encode_utf8_all (sym h.own ∙ (fields.0 ∙ k.own)) ∙ encodes-chars t k.utf8)),
    )

-- the bytes of an identifier's name
pub name_by_bytes : {a b : Name} → b ≡ a → IsBuiltToken (name_token b) → IsNameOf a (encode_utf8_all b.name)
name_by_bytes {a} {b} view built =
    name_of (encode_utf8_all b.name) view (chars-encodes b.name built.2) (b.name, (built.2, refl)) built

alike_or_apart : (x y : Bool) → (x ≡ y) ⊎ (x ≢ y)
alike_or_apart true true = inl refl
alike_or_apart true false = inr (λ e. both_ways true e refl)
alike_or_apart false true = inr (λ e. both_ways false refl e)
alike_or_apart false false = inl refl

-- a test of the fields tells whether both are written alike
pub eq_by_fields : (a b : Name) (s t : List ℕ) (r : Bool) → IsNameOf a s → IsNameOf b t
    → IsTrue r ↔ ((a.name ≡ b.name) × (a.raw ≡ b.raw)) → r ≡ name_eq a b
eq_by_fields a b s t r h k fields = same_from_decides r (name_eq a b) fields (elim (alike_or_apart a.raw b.raw) [
  | inl alike ↦ eq_fields a b s t (name_eq a b) h k alike
      (sym (eq_alike a b s t (pointwise nat_eq s t) h k alike refl))
  | inr differ ↦ (
    λ yes. absurd (both_ways _ (eq_apart a b s t h k differ) yes),
    λ same. absurd (differ same.1),
  )
])

-- ---- order

-- the order is `Equal` exactly if both are written alike
pub cmp_text : (a b : Name) (o : Ordering) → o ≡ name_cmp a b → (o ≡ Equal) ↔ (name_text a ≡ name_text b)
cmp_text a b o is =
    let text = eq_text a b (name_eq a b) refl in
    let tie = Equal-is o in
    let ties = texts_ties (spelling a) (spelling b) in (
      λ h. text.0 (ties ∙ (ap is_eq (sym is) ∙ tie.1 h)),
      λ h. tie.0 (ap is_eq is ∙ (sym ties ∙ text.1 h)),
    )

cmp_bytes : (a b : Name) (s t : List ℕ) → IsNameOf a s → IsNameOf b t
    → name_cmp a b ≡ slice_cmp nat_cmp (raw_front a.raw ++ s) (raw_front b.raw ++ t)
cmp_bytes a b s t h k = ap₂ (slice_cmp nat_cmp) (spelling_bytes a s h) (spelling_bytes b t k)

cmp_fronts : (a b : Name) (s t : List ℕ) (x y : Bool) → IsNameOf a s → IsNameOf b t → a.raw ≡ x → b.raw ≡ y
    → name_cmp a b ≡ slice_cmp nat_cmp (raw_front x ++ s) (raw_front y ++ t)
cmp_fronts a b s t x y h k p q = cmp_bytes a b s t h k
    ∙ ap₂ (λ u v. slice_cmp nat_cmp (raw_front u ++ s) (raw_front v ++ t)) p q

-- a raw and a plain identifier: the plain name is compared with `r#`
pub cmp_raw_plain : (a b : Name) (s t : List ℕ) → IsNameOf a s → IsNameOf b t
    → a.raw ≡ true → b.raw ≡ false → slice_cmp nat_cmp (codes "r#") t ≡ name_cmp a b
cmp_raw_plain a b s t h k p q = sym (cmp_fronts a b s t true false h k p q ∙ order_front (codes "r#") s t k.plain)

pub cmp_plain_raw : (a b : Name) (s t : List ℕ) → IsNameOf a s → IsNameOf b t
    → a.raw ≡ false → b.raw ≡ true → slice_cmp nat_cmp s (codes "r#") ≡ name_cmp a b
cmp_plain_raw a b s t h k p q = sym (cmp_fronts a b s t false true h k p q ∙ order_back (codes "r#") t s h.plain)

-- if both are raw or both plain, the order is that of the names
pub cmp_alike : (a b : Name) (s t : List ℕ) (x : Bool) → IsNameOf a s → IsNameOf b t → a.raw ≡ x → b.raw ≡ x
    → slice_cmp nat_cmp s t ≡ name_cmp a b
cmp_alike a b s t true h k p q = sym (cmp_fronts a b s t true true h k p q)
cmp_alike a b s t false h k p q = sym (cmp_fronts a b s t false false h k p q)

-- if two flags differ and one is set, the other is not
pub other_plain : (x y : Bool) → beq x y ≡ false → x ≡ true → y ≡ false
other_plain x true h e = absurd (both_ways _ h ((booleans_Decides x true).1 e))
other_plain x false h e = refl

pub other_raw : (x y : Bool) → beq x y ≡ false → x ≡ false → y ≡ true
other_raw x true h e = refl
other_raw x false h e = absurd (both_ways _ h ((booleans_Decides x false).1 e))

-- ---- hashes

pub fed_raw : (a : Name) (s : List ℕ) → IsNameOf a s → a.raw ≡ true → fed_for (spelling a) ≡ codes "r#" ∷ fed.str s
fed_raw a s h p = ap fed_for (spelling_bytes a s h ∙ ap (λ x. raw_front x ++ s) p)

pub fed_plain : (a : Name) (s : List ℕ) → IsNameOf a s → a.raw ≡ false → fed_for (spelling a) ≡ fed.str s
fed_plain a s h p = ap fed_for (spelling_bytes a s h ∙ ap (λ x. raw_front x ++ s) p) ∙ cond-false _ _ _ h.plain
