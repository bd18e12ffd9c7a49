-- More ways to make a form have finders, and forms that cannot begin alike.
use Rattle.std.proofs.Common.{◌≡◌, ℕ, zero, suc, ◌≤◌, Bool, true, false, not, ◌==◌, ◌||◌, List, [], ◌∷◌, ◌++◌, length}
use Rattle.std.proofs.Common.{Some, None, IfSome, refl, sym, ap, ap₂, ◌∙◌, subst, arith, append_assoc, length-append}
use Rattle.std.proofs.Common.{inl, inr}
use Rattle.std.specs.List.{concat}
use Rattle.std.proofs.lemmas.Bool.{both_ways}
use Rattle.lexical.specs.Form.{Form, HasNone, Then, Either, Else, Exactly, Each, Many}
use Rattle.lexical.specs.Finder.{Answer, Finder, Finds, prepend, or_find, find_else, find_then, some_of, or_stop}
use Rattle.lexical.specs.Finder.{find_many}
use Rattle.lexical.proofs.FinderLemmas.{IsSplit, found_is, none_is, none_found, one_split, finds_same, finds_then}
use Rattle.lexical.proofs.FinderLemmas.{next_whole}

-- ---- `Else`

else_sound : (A B : Form) (text : List ℕ) (o u : Answer) → IfSome o (IsSplit A text) → IfSome u (IsSplit B text)
    → (o ≡ None → HasNone A text) → IfSome (or_find o u) (IsSplit (Else A B) text)
else_sound A B text None None is other none = tt
else_sound A B text None (Some y) is other none = (other.0, inr (subst (HasNone A) other.0 (none refl), other.1))
else_sound A B text (Some x) u is other none = (is.0, inl is.1)

pub finds_else : (f g : Finder) (A B : Form) → Finds f A → Finds g B → Finds (find_else f g) (Else A B)
finds_else f g A B h j = record {
  sound = λ text. else_sound A B text (f text) (g text) (h.sound text) (j.sound text) (none_is f A h text);
  complete = λ p r is.
      elim is [ inl a ↦ rw (h.complete p r a) | inr b ↦ rw (none_found f A h (p ++ r) b.0, j.complete p r b.1) ];
}

-- ---- `Either` of forms that cannot begin alike

-- whether no text begins with a piece of each form
abbrev pub Disjoint : Form → Form → Type 0
Disjoint A B = (p q r s : List ℕ) → A p r → B q s → p ++ r ≡ q ++ s → ⊥

pub none_apart : (f : Finder) (A B : Form) → Finds f A → Disjoint A B → (p r : List ℕ) → B p r → f (p ++ r) ≡ None
none_apart f A B h apart p r b = none_found f A h (p ++ r) (λ q s e a. apart q p s r a b (sym e))

pub finds_apart : (f g : Finder) (A B : Form) → Finds f A → Finds g B → Disjoint A B
    → Finds (find_else f g) (Either A B)
finds_apart f g A B h j apart = finds_same (find_else f g) (Else A B) (Either A B) (finds_else f g A B h j)
    (λ p r is. elim is [ inl a ↦ inl a | inr b ↦ inr b.1 ])
    (λ p r is. elim is [ inl a ↦ inl a | inr b ↦ inr (λ q s e a. apart q p s r a b (sym e), b) ])

-- ---- forms with no empty piece

abbrev pub NotEmpty : Form → Type 0
NotEmpty A = (p r : List ℕ) → A p r → 1 ≤ length p

-- ---- pieces of one form in a row

-- pieces of the form, as long as there is one
abbrev pub AllOf : Form → Form
AllOf A p r = Many A p r × HasNone A r

none_at_end : (A : Form) → NotEmpty A → HasNone A []
none_at_end A some p r e is = let long = some p r is in absurd (omega (arith, length-append p r, ap length e))

module _ (f : Finder) (A : Form) (h : Finds f A) (some : NotEmpty A) where
  many_more : (text : List ℕ) (x y : List ℕ × List ℕ) → IsSplit A text x → IsSplit (AllOf A) x.1 y
      → IsSplit (AllOf A) text (x.0 ++ y.0, y.1)
  many_more text x y is more =
      let rest = more.1.0 in
      let first = rw (more.0, rest.whole) at is.1 in
      let all : Many A (x.0 ++ y.0) y.1 =
      record { units = x.0 ∷ rest.units; whole = ap (λ xs. x.0 ++ xs) rest.whole; each = (first, rest.each) } in
      (rw (is.0, more.0, append_assoc), (all, more.1.1))

  many_sound : (n : ℕ) (text : List ℕ) → length text ≤ n → IsSplit (AllOf A) text (some_of f n text)
  many_sound zero [] few = (refl, (record { units = []; whole = refl; each = tt }, none_at_end A some))
  many_sound zero (c ∷ text) few = absurd (omega arith)
  many_sound (suc n) text few =
      (elim (f text) as (λ o. IfSome o (IsSplit A text) → (o ≡ None → HasNone A text)
      → IsSplit (AllOf A) text (or_stop text (λ x. some_of f n x.1) o)) [
        | None ↦ λ is none. (refl, (record { units = []; whole = refl; each = tt }, none refl))
        | Some x ↦ λ is none.
            let long = some x.0 x.1 is.1 in
            let few : length x.1 ≤ n = omega (arith, length-append x.0 x.1, ap length is.0) in
            many_more text x (some_of f n x.1) is (many_sound n x.1 few)
      ]) (h.sound text) (none_is f A h text)

  -- no other pieces in a row are as long
  many_same : (us vs : List (List ℕ)) (r s : List ℕ) → Each A us r → Each A vs s → HasNone A r → HasNone A s
      → concat us ++ r ≡ concat vs ++ s → ◌≡◌ {A = List ℕ × List ℕ} (concat us, r) (concat vs, s)
  many_same [] [] r s a b none stop e = ap (λ x. ([], x)) e
  many_same [] (v ∷ vs) r s a b none stop e = absurd (none v _ (simp append_assoc at e) b.0)
  many_same (u ∷ us) [] r s a b none stop e = absurd (stop u _ (simp append_assoc at (sym e)) a.0)
  many_same (u ∷ us) (v ∷ vs) r s a b none stop e =
      let one = one_split f A h u v _ _ a.0 b.0 (simp append_assoc at e) in
      ap₂ (λ p x. (p ++ x.0, x.1)) one.0 (many_same us vs r s a.1 b.1 none stop one.1)

  all_same : (p q r s : List ℕ) → AllOf A p r → AllOf A q s → p ++ r ≡ q ++ s → ◌≡◌ {A = List ℕ × List ℕ} (p, r) (q, s)
  all_same p q r s a b e = rw (a.0.whole, b.0.whole)
      (many_same a.0.units b.0.units r s a.0.each b.0.each a.1 b.1 (rw (a.0.whole, b.0.whole) at e))

  pub finds_many : Finds (find_many f) (AllOf A)
  unfolding find_many
  finds_many = record {
    sound = λ text. many_sound (length text) text (omega arith);
    complete = λ p r is.
        let got = many_sound (length (p ++ r)) (p ++ r) (omega arith) in
        ap Some (all_same _ p _ r got.1 is (sym got.0));
  }

  -- the pieces and then another form, no piece of which begins like them
  pub finds_many_then : (g : Finder) (B : Form) → Finds g B → Disjoint A B
      → Finds (find_then (find_many f) g) (Then (Many A) B)
  finds_many_then g B j apart = finds_same (find_then (find_many f) g) (Then (AllOf A) B) (Then (Many A) B)
      (finds_then (find_many f) g (AllOf A) B finds_many j)
      (λ p r is. record { front = is.front; back = is.back; whole = is.whole; first = is.first.0; second = is.second })
      (λ p r is.
      let stops : HasNone A (is.back ++ r) = λ q s e a. apart q is.back s r a is.second (sym e) in
      record { front = is.front; back = is.back; whole = is.whole; first = (is.first, stops); second = is.second })

  -- one more piece in a row
  pub many_found : (text unit rest : List ℕ) → f text ≡ Some (unit, rest)
      → find_many f text ≡ prepend unit (find_many f rest)
  unfolding find_many
  many_found text unit rest e =
      let x = some_of f (length rest) rest in
      let all = many_more text (unit, rest) x (found_is f A h text unit rest e)
      (many_sound (length rest) rest (omega arith)) in
      ap (find_many f) all.0 ∙ finds_many.complete (unit ++ x.0) x.1 all.1

  pub many_ends : (text : List ℕ) → f text ≡ None → find_many f text ≡ Some ([], text)
  many_ends text e = finds_many.complete [] text (record { units = []; whole = refl; each = tt }, none_is f A h text e)

-- ---- forms that begin with different texts

-- whether two texts differ at some index that both have
abbrev pub differ : List ℕ → List ℕ → Bool
differ [] q = false
differ (c ∷ p) [] = false
differ (c ∷ p) (d ∷ q) = not (c == d) || differ p q

pub texts_differ : (p q r s : List ℕ) → differ p q ≡ true → p ++ r ≡ q ++ s → ⊥
texts_differ [] q r s h e = absurd (both_ways _ refl h)
texts_differ (c ∷ p) [] r s h e = absurd (both_ways _ refl h)
texts_differ (c ∷ p) (d ∷ q) r s h e = grind (arith, h, e, texts_differ p q r s)

pub front_whole : (front : List ℕ) (A : Form) (p r : List ℕ) (h : Then (Exactly front) A p r)
    → p ++ r ≡ front ++ (h.back ++ r)
front_whole front A p r h = next_whole (Exactly front) (λ x. A) p r h ∙ ap (λ x. x ++ (h.back ++ r)) h.first

pub apart_fronts : (f g : List ℕ) (A B : Form) → differ f g ≡ true → Disjoint (Then (Exactly f) A) (Then (Exactly g) B)
apart_fronts f g A B h p q r s a b e =
    texts_differ f g (a.back ++ r) (b.back ++ s) h (sym (front_whole f A p r a) ∙ (e ∙ front_whole g B q s b))
