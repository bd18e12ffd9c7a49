-- The first name of each form, after one more name.
use Rattle.std.proofs.Common.{◌≡◌, ◌∙◌, ℕ, Bool, true, false, not, List, ◌∷◌, Option, Some, None, refl, sym}
use Rattle.std.proofs.Common.{ap, subst, bytes_eq, string_bytes, String}
use Rattle.std.specs.HashMap.{HashMap, get_by_text}
use Rattle.std.specs.Map.{update}
use Rattle.std.specs.Str.{encode_utf8_all}
use Rattle.std.proofs.lemmas.Bool.{cond-false, cond-true}
use Rattle.std.proofs.lemmas.Bool.Decides.{same_from_decides}
use Rattle.std.proofs.lemmas.Slice.Eq.{bytes_eq-Decides}
use Rattle.std.proofs.lemmas.Str.{encodes_same}
use Rattle.unicode_normalization.specs.Forms.{nfkc}
use Rattle.rust_check.specs.NameForms.{AreFirst, IsText, first_named, is_other, is_other_than, is_same_text, or_named}

-- texts are the same exactly if their bytes are
bytes_tell : (a b : List ℕ) → bytes_eq (encode_utf8_all a) (encode_utf8_all b) ≡ is_same_text a b
bytes_tell a b =
    let bytes = bytes_eq-Decides (encode_utf8_all a) (encode_utf8_all b) in
    same_from_decides (bytes_eq (encode_utf8_all a) (encode_utf8_all b)) (is_same_text a b)
    ((λ e. encodes_same a b (bytes.0 e)), (λ e. bytes.1 (ap encode_utf8_all e))) (bytes_eq-Decides a b)

same_text : (a b : List ℕ) → is_same_text a b ≡ true → a ≡ b
same_text a b e = (bytes_eq-Decides a b).0 e

module _ {A B S : Type 0} (map : HashMap (String A) (String B) S) (names : List (List ℕ))
    (are : AreFirst map names) (name : List ℕ) where
  -- a form that the map has is the form of a name
  known : (first : String B) → get_by_text map (encode_utf8_all (nfkc name)) ≡ Some first
      → (f : List ℕ) × (first_named (nfkc name) names ≡ Some f) × (string_bytes first ≡ encode_utf8_all f)
  known first found = by (first_named (nfkc name) names) refl
      (subst (λ o. IsText o (first_named (nfkc name) names)) found (are (nfkc name)))
    where
      by : (o : Option (List ℕ)) → first_named (nfkc name) names ≡ o → IsText (Some first) o
          → (f : List ℕ) × (first_named (nfkc name) names ≡ Some f) × (string_bytes first ≡ encode_utf8_all f)
      by None e is = absurd is
      by (Some f) e is = (f, e, is)

  pub other_report : (first : String B) (bytes : List ℕ) (is : Bool)
      → get_by_text map (encode_utf8_all (nfkc name)) ≡ Some first → bytes ≡ encode_utf8_all name
      → is ≡ not (bytes_eq (string_bytes first) bytes)
      → (is ≡ is_other name names) × AreFirst map (name ∷ names)
  other_report first bytes is found spelled tells =
      let k = known first found in (
        tells ∙ ap not (ap (bytes_eq (string_bytes first)) spelled
            ∙ (ap (λ b. bytes_eq b (encode_utf8_all name)) k.2 ∙ bytes_tell k.0 name))
            ∙ ap (is_other_than name) (sym k.1),
        λ form. step form k.0 k.1 (first_named form names) refl (are form),
      )
    where
      by_same : (form f : List ℕ) → first_named (nfkc name) names ≡ Some f → first_named form names ≡ None
          → IsText (get_by_text map (encode_utf8_all form)) None
          → (b : Bool) → is_same_text (nfkc name) form ≡ b
          → IsText (get_by_text map (encode_utf8_all form)) (or_named None form name)
      by_same form f has e h true so =
          let clash : Some f ≡ None =
          sym has ∙ (ap (λ t. first_named t names) (same_text (nfkc name) form so) ∙ e) in
          absurd (cc)
      by_same form f has e h false off =
          subst (IsText (get_by_text map (encode_utf8_all form))) (sym (cond-false _ _ _ off)) h

      step : (form f : List ℕ) → first_named (nfkc name) names ≡ Some f → (o : Option (List ℕ))
          → first_named form names ≡ o → IsText (get_by_text map (encode_utf8_all form)) o
          → IsText (get_by_text map (encode_utf8_all form)) (or_named o form name)
      step form f has (Some x) e h = h
      step form f has None e h =
          by_same form f has e h (is_same_text (nfkc name) form) refl

  pub new_report : (new : HashMap (String A) (String B) S) (stored : String B)
      → get_by_text map (encode_utf8_all (nfkc name)) ≡ None
      → string_bytes stored ≡ encode_utf8_all name
      → ((form : List ℕ) → get_by_text new (encode_utf8_all form)
      ≡ update bytes_eq (get_by_text map) (encode_utf8_all (nfkc name)) (Some stored) (encode_utf8_all form))
      → (false ≡ is_other name names) × AreFirst new (name ∷ names)
  new_report new stored lacks spelled updates =
      let none = unknown (first_named (nfkc name) names) (subst (λ o. IsText o (first_named (nfkc name) names)) lacks
      (are (nfkc name))) in
      (ap (is_other_than name) (sym none), λ form. step form none)
    where
      unknown : (o : Option (List ℕ)) → IsText {A = B} None o → o ≡ None
      unknown None h = refl
      unknown (Some x) h = absurd h

      kept : (form : List ℕ) (o : Option (List ℕ)) → is_same_text (nfkc name) form ≡ false
          → IsText (get_by_text map (encode_utf8_all form)) o
          → IsText (get_by_text map (encode_utf8_all form)) (or_named o form name)
      kept form (Some x) off h = h
      kept form None off h =
          subst (IsText (get_by_text map (encode_utf8_all form))) (sym (cond-false _ _ _ off)) h

      by_same : (form : List ℕ) → first_named (nfkc name) names ≡ None
          → (b : Bool) → is_same_text (nfkc name) form ≡ b
          → IsText (get_by_text new (encode_utf8_all form)) (or_named (first_named form names) form name)
      by_same form none true so =
          let same = same_text (nfkc name) form so in
          let empty : first_named form names ≡ None = ap (λ t. first_named t names) (sym same) ∙ none in
          let here = updates form ∙ cond-true _ _ _ (bytes_tell (nfkc name) form ∙ so) in
          subst (λ o. IsText o (or_named (first_named form names) form name)) (sym here)
          (subst (IsText (Some stored)) (sym (ap (λ o. or_named o form name) empty ∙ cond-true _ _ _ so)) spelled)
      by_same form none false off =
          let here = updates form ∙ cond-false _ _ _ (bytes_tell (nfkc name) form ∙ off) in
          subst (λ o. IsText o (or_named (first_named form names) form name)) (sym here)
          (kept form (first_named form names) off (are form))

      step : (form : List ℕ) → first_named (nfkc name) names ≡ None
          → IsText (get_by_text new (encode_utf8_all form)) (or_named (first_named form names) form name)
      step form none =
          by_same form none (is_same_text (nfkc name) form) refl
