-- A rule finds exactly its pieces, if its choices cannot begin alike. This condition computes.
use Rattle.std.proofs.Common.{◌≡◌, ◌⊎◌, ℕ, Bool, true, false, not, ◌&&◌, ◌||◌, IsTrue, List, [], ◌∷◌, ◌++◌, length}
use Rattle.std.proofs.Common.{None, inl, inr, refl, sym, ap, ◌∙◌, arith, append_assoc, append-nil}
use Rattle.std.proofs.lemmas.Bool.{both_ways, and_parts, or_cases, not-true, false_from_ne_true}
use Rattle.lexical.specs.Text.{begins_any, first_passes}
use Rattle.lexical.specs.Form.{HasNone}
use Rattle.lexical.specs.Finder.{Finds}
use Rattle.lexical.specs.Rule.{Rule, One, Run, Exactly, Then, Next, UpTo, Either, Else, NotAt, NotBefore, Where, Stands}
use Rattle.lexical.specs.Rule.{find, Ends}
use Rattle.lexical.proofs.TextLemmas.{first_more, first_cons, any_begins_more}
use Rattle.lexical.proofs.BlockLemmas.{finds_ends}
use Rattle.lexical.proofs.FinderLemmas as finders
use Rattle.lexical.proofs.FinderLemmas.{finds_then, finds_next, finds_not_at, finds_not_before, finds_where, finds_one}
use Rattle.lexical.proofs.FinderLemmas.{finds_run, finds_text}
use Rattle.lexical.proofs.WordLemmas.{Disjoint, NotEmpty, differ, texts_differ, finds_apart, finds_else}
use Rattle.lexical.proofs.WordLemmas.{finds_many_then}

-- ---- how the pieces of a rule begin

-- The three ways to begin that pass: with a character of a class, with a text, or if none of some texts begins.
module _ (class : (ℕ → Bool) → Bool) (exact : List ℕ → Bool) (none : List (List ℕ) → Bool) where
  -- whether each piece of the rule begins in a way that passes, as far as its constructors show
  abbrev pub leads : Rule → Bool
  leads (One passes) = class passes
  leads (Run passes) = false
  leads (Exactly text) = exact text
  leads (Then a b) = leads a
  leads (Next a b) = leads a
  leads (UpTo a b) = false
  leads (Either a b) = leads a && leads b
  leads (Else a b) = leads a && leads b
  leads (NotAt fronts a) = none fronts || leads a
  leads (NotBefore passes a) = leads a
  leads (Where test a) = leads a
  leads (Ends depth) = false

  -- whether the piece p, followed by r, begins in a way that passes
  abbrev pub Led : List ℕ → List ℕ → Type 0
  Led p r =
      ((passes : ℕ → Bool) × (class passes ≡ true) × (first_passes passes p ≡ true))
      ⊎ (((front : List ℕ) × (rest : List ℕ) × (exact front ≡ true) × (p ≡ front ++ rest))
      ⊎ ((fronts : List (List ℕ)) × (none fronts ≡ true) × (begins_any fronts (p ++ r) ≡ false)))

  -- a piece of the rule with more text after it begins in a way that passes
  led_more : (rule : Rule) → leads rule ≡ true → (p q back r : List ℕ) → q ≡ p ++ back → Stands rule p (back ++ r)
      → Led q r
  led_more (One passes) h p q back r e is =
      inl (passes, h, ap (first_passes passes) (e ∙ ap (λ x. x ++ back) is.1) ∙ is.2)
  led_more (Run passes) h p q back r e is = absurd (both_ways _ refl h)
  led_more (Exactly front) h p q back r e is = inr (inl (front, back, h, e ∙ ap (λ x. x ++ back) is))
  led_more (Then a b) h p q back r e is =
      led_more a h is.front q (is.back ++ back) r (rw (e, is.whole, append_assoc)) (rw append_assoc is.first)
  led_more (Next a b) h p q back r e is =
      led_more a h is.front q (is.back ++ back) r (rw (e, is.whole, append_assoc)) (rw append_assoc is.first)
  led_more (UpTo a b) h p q back r e is = absurd (both_ways _ refl h)
  led_more (Either a b) h p q back r e (inl is) = led_more a (and_parts _ _ h).0 p q back r e is
  led_more (Either a b) h p q back r e (inr is) = led_more b (and_parts _ _ h).1 p q back r e is
  led_more (Else a b) h p q back r e (inl is) = led_more a (and_parts _ _ h).0 p q back r e is
  led_more (Else a b) h p q back r e (inr is) = led_more b (and_parts _ _ h).1 p q back r e is.1
  led_more (NotAt fronts a) h p q back r e is = elim (or_cases _ _ h) [
    | inl at ↦ inr (inr (fronts, at, ap (begins_any fronts) (ap (λ x. x ++ r) e ∙ append_assoc p back r) ∙ is.1))
    | inr other ↦ led_more a other p q back r e is.0
  ]
  led_more (NotBefore passes a) h p q back r e is = led_more a h p q back r e is.0
  led_more (Where test a) h p q back r e is = led_more a h p q back r e is.0
  led_more (Ends depth) h p q back r e is = absurd (both_ways _ refl h)

  pub led : (rule : Rule) → leads rule ≡ true → (p r : List ℕ) → Stands rule p r → Led p r
  led rule h p r is = led_more rule h p p [] r (sym (append-nil p)) is

-- whether each piece of the rule begins with a text that passes
abbrev pub begins : (List ℕ → Bool) → Rule → Bool
begins test = leads (λ passes. false) test (λ fronts. false)

pub begins_holds : (test : List ℕ → Bool) (rule : Rule) → begins test rule ≡ true → (p r : List ℕ) → Stands rule p r
    → (front : List ℕ) × (rest : List ℕ) × (test front ≡ true) × (p ≡ front ++ rest)
begins_holds test rule h p r is = elim (led (λ passes. false) test (λ fronts. false) rule h p r is) [
  | inl one ↦ absurd (both_ways _ refl one.1)
  | inr (inl text) ↦ text
  | inr (inr none) ↦ absurd (both_ways _ refl none.1)
]

-- each piece of the rule begins with one of the prefixes, if each text that it can begin with does
pub begins_one : (fronts : List (List ℕ)) (rule : Rule) → begins (begins_any fronts) rule ≡ true → (p r : List ℕ)
    → Stands rule p r
    → begins_any fronts p ≡ true
begins_one fronts rule h p r is =
    let at = begins_holds (begins_any fronts) rule h p r is in
    ap (begins_any fronts) at.3 ∙ any_begins_more fronts at.0 at.1 at.2

-- each piece begins with a character that passes, if all characters of the classes and the first ones of the texts do
first_led : (class : (ℕ → Bool) → Bool) (passes : ℕ → Bool) (rule : Rule)
    → leads class (first_passes passes) (λ fronts. false) rule ≡ true
    → ((k : ℕ → Bool) (c : ℕ) → class k ≡ true → k c ≡ true → passes c ≡ true) → (p r : List ℕ) → Stands rule p r
    → (c : ℕ) × (q : List ℕ) × (p ≡ c ∷ q) × (passes c ≡ true)
first_led class passes rule h part p r is = elim (led class (first_passes passes) (λ fronts. false) rule h p r is) [
  | inl one ↦ let at = first_cons one.0 p one.2 in (at.0, at.1, at.2, part one.0 at.0 one.1 at.3)
  | inr (inl text) ↦ first_cons passes p (ap (first_passes passes) text.3 ∙ first_more passes text.0 text.1 text.2)
  | inr (inr none) ↦ absurd (both_ways _ refl none.1)
]

pub first_one : (passes : ℕ → Bool) (rule : Rule) → begins (first_passes passes) rule ≡ true → (p r : List ℕ)
    → Stands rule p r
    → (c : ℕ) × (q : List ℕ) × (p ≡ c ∷ q) × (passes c ≡ true)
first_one passes rule h = first_led (λ k. false) passes rule h (λ k c no is. absurd (both_ways _ refl no))

-- whether each piece of the rule begins with a character, so that it is not empty
abbrev pub some : Rule → Bool
some = leads (λ passes. true) (first_passes (λ c. true)) (λ fronts. false)

pub some_holds : (rule : Rule) → some rule ≡ true → NotEmpty (Stands rule)
some_holds rule h p r is =
    let at = first_led (λ passes. true) (λ c. true) rule h (λ k c yes is. refl) p r is in
    omega (arith, ap length at.2)

-- whether no text with this prefix begins with a piece of the rule
abbrev pub bars : List ℕ → Rule → Bool
bars front = leads (λ passes. first_passes (λ c. not (passes c)) front) (λ text. differ text front)
    (λ fronts. begins_any fronts front)

pub bars_sound : (front : List ℕ) (rule : Rule) → bars front rule ≡ true → (rest p r : List ℕ) → Stands rule p r
    → p ++ r ≡ front ++ rest → ⊥
bars_sound front rule h rest p r is e = elim (led _ _ _ rule h p r is) [
  | inl one ↦
      never one.0 (p ++ r) (first_more one.0 p r one.2) (rw e (first_more (λ c. not (one.0 c)) front rest one.1))
  | inr (inl text) ↦ texts_differ text.0 front (text.1 ++ r) rest text.2 (rw (text.3, append_assoc) at e)
  | inr (inr none) ↦ both_ways _ none.2 (ap (begins_any none.0) e ∙ any_begins_more none.0 front rest none.1)
]
  where
    never : (passes : ℕ → Bool) (text : List ℕ) → first_passes passes text ≡ true
        → first_passes (λ c. not (passes c)) text ≡ true → ⊥
    never passes [] is out = both_ways _ refl is
    never passes (c ∷ text) is out = both_ways _ (not-true _ out) is

-- if a rule has no empty piece, each piece begins with a character that the rule does not bar
pub first_unbarred : (rule : Rule) → some rule ≡ true → (p r : List ℕ) → Stands rule p r
    → (c : ℕ) × (q : List ℕ) × (p ≡ c ∷ q) × (bars (c ∷ []) rule ≡ false)
first_unbarred rule h p r is =
    let at = first_led (λ passes. true) (λ c. true) rule h (λ k c yes is. refl) p r is in (
      at.0,
      at.1,
      at.2,
      false_from_ne_true _
          (λ out. bars_sound (at.0 ∷ []) rule out (at.1 ++ r) p r is (ap (λ q. q ++ r) at.2)),
    )

-- ---- rules that cannot begin alike

-- whether one of two rules begins only with texts that bar the other
abbrev pub apart : Rule → Rule → Bool
apart a b = begins (λ front. bars front b) a || begins (λ front. bars front a) b

pub apart_holds : (a b : Rule) → apart a b ≡ true → Disjoint (Stands a) (Stands b)
apart_holds a b h = elim (or_cases _ _ h) [
  | inl one ↦ by_texts a b one
  | inr other ↦ λ p q r s one also e. by_texts b a other q p s r also one (sym e)
]
  where
    by_texts : (a b : Rule) → begins (λ front. bars front b) a ≡ true → Disjoint (Stands a) (Stands b)
    by_texts a b h p q r s one other e =
        let at = begins_holds _ a h p r one in
        bars_sound at.0 b at.2 (at.1 ++ r) q s other (sym e ∙ (ap (λ x. x ++ r) at.3 ∙ append_assoc at.0 at.1 r))

-- ---- clear rules

-- whether the rules of each `Either` in the rule cannot begin alike. Nor can the repeated rule of an `UpTo`, which has
-- no empty piece, and the rule that ends it. For a rule without variables, `assumption` proves this
abbrev pub Clear : Rule → Type 0
Clear (One passes) = Unit {0}
Clear (Run passes) = Unit {0}
Clear (Exactly text) = Unit {0}
Clear (Then a b) = Clear a × Clear b
Clear (Next a b) = Clear a × ((front : List ℕ) → Clear (b front))
Clear (UpTo a b) = Clear a × Clear b × IsTrue (some a) × IsTrue (apart a b)
Clear (Either a b) = Clear a × Clear b × IsTrue (apart a b)
Clear (Else a b) = Clear a × Clear b
Clear (NotAt fronts a) = Clear a
Clear (NotBefore passes a) = Clear a
Clear (Where test a) = Clear a
Clear (Ends depth) = Unit {0}

pub exact : (rule : Rule) → Clear rule → Finds (find rule) (Stands rule)
unfolding find
exact (One passes) clear = finds_one passes
exact (Run passes) clear = finds_run passes
exact (Exactly text) clear = finds_text text
exact (Then a b) clear = finds_then _ _ _ _ (exact a clear.0) (exact b clear.1)
exact (Next a b) clear = finds_next _ _ _ _ (exact a clear.0) (λ front. exact (b front) (clear.1 front))
exact (UpTo a b) clear = finds_many_then _ _ (exact a clear.0) (some_holds a clear.2) _ _ (exact b clear.1)
    (apart_holds a b clear.3)
exact (Either a b) clear = finds_apart _ _ _ _ (exact a clear.0) (exact b clear.1) (apart_holds a b clear.2)
exact (Else a b) clear = finds_else _ _ _ _ (exact a clear.0) (exact b clear.1)
exact (NotAt fronts a) clear = finds_not_at fronts _ _ (exact a clear)
exact (NotBefore passes a) clear = finds_not_before passes _ _ (exact a clear)
exact (Where test a) clear = finds_where (λ p r. test p) _ _ (exact a clear)
exact (Ends depth) clear = finds_ends depth

-- ---- consequences for all rules

pub none_found : (rule : Rule) → Clear rule → (text : List ℕ) → HasNone (Stands rule) text → find rule text ≡ None
none_found rule clear = finders.none_found (find rule) (Stands rule) (exact rule clear)

-- at most one prefix of a text is a piece of the rule
pub one_split : (rule : Rule) → Clear rule → (p q r s : List ℕ) → Stands rule p r → Stands rule q s → p ++ r ≡ q ++ s
    → (p ≡ q) × (r ≡ s)
one_split rule clear = finders.one_split (find rule) (Stands rule) (exact rule clear)
