-- Rules that keep their pieces when the text after the pieces changes.
use Rattle.std.proofs.Common.{◌≡◌, ◌⊎◌, ℕ, ◌≤◌, ◌+◌, zero, suc, min, Bool, true, false, ◌||◌, ◌&&◌, ◌==◌, ◌<◌, ◌-◌}
use Rattle.std.proofs.Common.{nat_lt, ltb-true, List, [], ◌∷◌, ◌++◌, length, drop, refl, sym, ap, ap₂, ◌∙◌, subst}
use Rattle.std.proofs.Common.{arith, inl, inr, append_assoc, length-append, eqb-true}
use Rattle.std.specs.List.{list_all, concat}
use Rattle.std.proofs.Math.Nat.{min-le_left, min-le_right}
use Rattle.std.proofs.lemmas.Bool.{both_ways, and_parts, and_from, and_left, and_right, or_cases, false_from_ne_true}
use Rattle.std.proofs.lemmas.Bool.{agree_below, agree_below_at}
use Rattle.std.proofs.lemmas.List.Folds.{list_all-append}
use Rattle.lexical.specs.Text.{begins_any, first_passes}
use Rattle.lexical.specs.Form.{Form, HasNone, Next, Many, Each}
use Rattle.lexical.specs.Rule as rules
use Rattle.lexical.specs.Rule.{Rule, Stands}
use Rattle.lexical.specs.Finder.{while_front, while_rest}
use Rattle.lexical.proofs.TextLemmas.{all_pass, any_after}
use Rattle.lexical.proofs.ClassLemmas.{Sub}
use Rattle.lexical.proofs.FinderLemmas.{finds_run}

-- ---- classes

pub sub_one : (class : ℕ → Bool) (n : ℕ) → class n ≡ true → Sub (λ c. c == n) class
sub_one class n is c e = ap class (eqb-true c n e) ∙ is

pub sub_either : (passes others class : ℕ → Bool) → Sub passes class → Sub others class
    → Sub (λ c. passes c || others c) class
sub_either passes others class one other c is =
    elim (or_cases (passes c) (others c) is) [ inl x ↦ one c x | inr y ↦ other c y ]

-- the characters of a range are in the class, which computes
pub sub_between : (class : ℕ → Bool) (low high : ℕ)
    → agree_below (λ k. class (1 + low + k)) (λ k. true) (high - (1 + low)) ≡ true
    → Sub (λ c. nat_lt low c && nat_lt c high) class
sub_between class low high all c is =
    let parts = and_parts (nat_lt low c) (nat_lt c high) is in
    let above : low < c = ltb-true low c parts.0 in
    let below : c < high = ltb-true c high parts.1 in
    let same : 1 + low + (c - (1 + low)) ≡ c = omega arith in
    subst (λ x. class x ≡ true) same
    (agree_below_at (λ k. class (1 + low + k)) (λ k. true) (high - (1 + low)) (c - (1 + low)) all (omega arith))

pub stops_within : (passes class : ℕ → Bool) → Sub passes class → (s : List ℕ) → first_passes class s ≡ false
    → first_passes passes s ≡ false
stops_within passes class within [] ends = refl
stops_within passes class within (c ∷ s) ends = false_from_ne_true _ (λ is. both_ways _ ends (within c is))

-- ---- how short pieces can be

-- the least number of characters of a piece of the rule
abbrev pub least : Rule → ℕ
least (rules.One passes) = 1
least (rules.Exactly text) = length text
least (rules.Then a b) = least a + least b
least (rules.Next a b) = least a
least (rules.UpTo a b) = least b
least (rules.Either a b) = min (least a) (least b)
least (rules.NotAt fronts a) = least a
least (rules.NotBefore passes a) = least a
least (rules.Where test a) = least a
least rule = 0

pub least_holds : (rule : Rule) (p r : List ℕ) → Stands rule p r → least rule ≤ length p
least_holds (rules.One passes) p r is = omega (arith, ap length is.1)
least_holds (rules.Exactly text) p r is = omega (arith, ap length is)
least_holds (rules.Then a b) p r is =
    omega (
      arith,
      ap length is.whole,
      length-append is.front is.back,
      least_holds a is.front (is.back ++ r) is.first,
      least_holds b is.back r is.second,
    )
least_holds (rules.Next a b) p r is =
    omega (arith, ap length is.whole, length-append is.front is.back, least_holds a is.front (is.back ++ r) is.first)
least_holds (rules.UpTo a b) p r is =
    omega (arith, ap length is.whole, length-append is.front is.back, least_holds b is.back r is.second)
least_holds (rules.Either a b) p r is = elim is [
  | inl x ↦ omega (arith, min-le_left (least a) (least b), least_holds a p r x)
  | inr y ↦ omega (arith, min-le_right (least a) (least b), least_holds b p r y)
]
least_holds (rules.NotAt fronts a) p r is = least_holds a p r is.0
least_holds (rules.NotBefore passes a) p r is = least_holds a p r is.0
least_holds (rules.Where test a) p r is = least_holds a p r is.0
least_holds rule p r is = omega arith

-- ---- rules that keep their pieces

-- whether the form keeps its pieces, if n characters after them stay and the new text begins outside the class
abbrev pub Keeps : (ℕ → Bool) → ℕ → Form → Type 0
Keeps class n A = (p b r s : List ℕ) → n ≤ length b → first_passes class s ≡ false → A p (b ++ r) → A p (b ++ s)

-- whether no new piece of the form appears, if n characters stay and the new text begins outside the class
abbrev pub KeepsNone : (ℕ → Bool) → ℕ → Form → Type 0
KeepsNone class n A = (b r s : List ℕ) → n ≤ length b → first_passes class s ≡ false → HasNone A (b ++ r)
    → HasNone A (b ++ s)

-- whether the form keeps its pieces, however many characters stay, if the new text begins outside the class
abbrev pub Stable : (ℕ → Bool) → Form → Type 0
Stable class A = (p b r s : List ℕ) → first_passes class s ≡ false → A p (b ++ r) → A p (b ++ s)

-- whether the characters that pass are in the class, if no character needs to stay
abbrev pub Ends : (ℕ → Bool) → ℕ → (ℕ → Bool) → Type 0
Ends class zero passes = Sub passes class
Ends class (suc n) passes = Unit {0}

pub ends_after : (class : ℕ → Bool) (n : ℕ) (passes : ℕ → Bool) → 1 ≤ n → Ends class n passes
ends_after class zero passes some = absurd (omega (arith, some))
ends_after class (suc n) passes some = tt

-- whether the rule depends only on n characters after its pieces, and on whether a character of the class follows them
abbrev pub Looks : (ℕ → Bool) → ℕ → Rule → Type 0
Looks class n (rules.One passes) = Unit {0}
Looks class n (rules.Run passes) = Ends class n passes
Looks class n (rules.Exactly text) = Unit {0}
Looks class n (rules.Then a b) = Looks class (n + least b) a × Looks class n b
Looks class n (rules.Next a b) = (front : List ℕ) → Looks class (n + least (b front)) a × Looks class n (b front)
Looks class n (rules.UpTo a b) = Looks class (n + least b) a × Looks class n b
Looks class n (rules.Either a b) = Looks class n a × Looks class n b
Looks class n (rules.Else a b) = Looks class n a × Looks class n b × KeepsNone class n (Stands a)
Looks class n (rules.NotAt fronts a) = (list_all (λ front. list_all class (drop (n + least a) front)) fronts ≡ true)
    × Looks class n a
Looks class n (rules.NotBefore passes a) = Ends class n passes × Looks class n a
Looks class n (rules.Where test a) = Looks class n a
Looks class n (rules.Ends depth) = Keeps class n (Stands (rules.Ends depth))

-- makes a piece of two parts again, if both parts are pieces before the new text
pub anew : (A : Form) (B C : List ℕ → Form) (p r s : List ℕ) (h : Next A B p r) → A h.front (h.back ++ s)
    → C h.front h.back s → Next A C p s
anew A B C p r s h first second =
    record { front = h.front; back = h.back; whole = h.whole; first = first; second = second }

module _ (class : ℕ → Bool) where
  keeps_ends : (n : ℕ) (passes : ℕ → Bool) → Ends class n passes → (b r s : List ℕ) → n ≤ length b
      → first_passes class s ≡ false
      → first_passes passes (b ++ r) ≡ false → first_passes passes (b ++ s) ≡ false
  keeps_ends n passes within (c ∷ b) r s long ends stops = stops
  keeps_ends zero passes within [] r s long ends stops = stops_within passes class within s ends
  keeps_ends (suc n) passes within [] r s long ends stops = absurd (omega (arith, long))

  -- a form keeps its pieces, if the text after them is in two parts
  pub keeps_before : (n : ℕ) (A : Form) → Keeps class n A → (front back b r s : List ℕ) → n ≤ length back + length b
      → first_passes class s ≡ false
      → A front (back ++ (b ++ r)) → A front (back ++ (b ++ s))
  keeps_before n A keeps front back b r s long ends is =
      subst (A front) (append_assoc back b s)
      (keeps front (back ++ b) r s (omega (arith, long, length-append back b)) ends
      (subst (A front) (sym (append_assoc back b r)) is))

  keeps_next : (n : ℕ) (A : Form) (B : List ℕ → Rule) → ((front : List ℕ) → Keeps class (n + least (B front)) A)
      → ((front : List ℕ) → Keeps class n (Stands (B front))) → Keeps class n (Next A (λ front. Stands (B front)))
  keeps_next n A B one other p b r s long ends is =
      let m = n + least (B is.front) in
      anew A _ (λ front. Stands (B front)) p (b ++ r) (b ++ s) is
      (keeps_before m A (one is.front) is.front is.back b r s
      (omega (arith, long, least_holds (B is.front) is.back (b ++ r) is.second)) ends is.first)
      (other is.front is.back b r s long ends is.second)

  keeps_each : (n : ℕ) (A : Form) → Keeps class n A → (units : List (List ℕ)) (b r s : List ℕ) → n ≤ length b
      → first_passes class s ≡ false
      → Each A units (b ++ r) → Each A units (b ++ s)
  keeps_each n A keeps [] b r s long ends each = tt
  keeps_each n A keeps (unit ∷ units) b r s long ends each = (
    keeps_before n A keeps unit (concat units) b r s (omega (arith, long)) ends each.0,
    keeps_each n A keeps units b r s long ends each.1,
  )

  keeps_many : (n : ℕ) (A : Form) → Keeps class n A → Keeps class n (Many A)
  keeps_many n A keeps p b r s long ends is =
      record { units = is.units; whole = is.whole; each = keeps_each n A keeps is.units b r s long ends is.each }

  pub keeps : (rule : Rule) (n : ℕ) → Looks class n rule → Keeps class n (Stands rule)
  keeps (rules.One passes) n looks = λ p b r s long ends is. is
  keeps (rules.Run passes) n looks =
      λ p b r s long ends is. record { each = is.each; stops = keeps_ends n passes looks b r s long ends is.stops }
  keeps (rules.Exactly text) n looks = λ p b r s long ends is. is
  keeps (rules.Then a b) n looks =
      keeps_next n (Stands a) (λ front. b) (λ front. keeps a (n + least b) looks.0) (λ front. keeps b n looks.1)
  keeps (rules.Next a b) n looks =
      keeps_next n (Stands a) b (λ front. keeps a (n + least (b front)) (looks front).0)
      (λ front. keeps (b front) n (looks front).1)
  keeps (rules.UpTo a b) n looks =
      keeps_next n (Many (Stands a)) (λ front. b)
      (λ front. keeps_many (n + least b) (Stands a) (keeps a (n + least b) looks.0))
      (λ front. keeps b n looks.1)
  keeps (rules.Either a b) n looks = λ p between r s long ends is. elim is [
    | inl x ↦ inl (keeps a n looks.0 p between r s long ends x)
    | inr y ↦ inr (keeps b n looks.1 p between r s long ends y)
  ]
  keeps (rules.Else a b) n looks = λ p between r s long ends is. elim is [
    | inl x ↦ inl (keeps a n looks.0 p between r s long ends x)
    | inr y ↦ inr (
      subst (HasNone (Stands a)) (append_assoc p between s)
          (looks.2 (p ++ between) r s (omega (arith, long, length-append p between)) ends
          (subst (HasNone (Stands a)) (sym (append_assoc p between r)) y.0)),
      keeps b n looks.1 p between r s long ends y.1,
    )
  ]
  keeps (rules.NotAt fronts a) n looks = λ p b r s long ends is. (
    keeps a n looks.1 p b r s long ends is.0,
    ap (begins_any fronts) (sym (append_assoc p b s))
        ∙ any_after class (n + least a) fronts (p ++ b) r s looks.0
        (omega (arith, long, length-append p b, least_holds a p (b ++ r) is.0)) ends
        (ap (begins_any fronts) (append_assoc p b r) ∙ is.1),
  )
  keeps (rules.NotBefore passes a) n looks = λ p b r s long ends is.
      (keeps a n looks.1 p b r s long ends is.0, keeps_ends n passes looks.0 b r s long ends is.1)
  keeps (rules.Where test a) n looks = λ p b r s long ends is. (keeps a n looks p b r s long ends is.0, is.1)
  keeps (rules.Ends depth) n looks = looks

  pub stable : (a : Rule) → Looks class 0 a → Stable class (Stands a)
  stable a looks p b r s ends is = keeps a 0 looks p b r s (omega arith) ends is

-- ---- the characters of pieces

-- whether each character of the form's pieces is in the class
abbrev pub AllIn : (ℕ → Bool) → Form → Type 0
AllIn class A = (p r : List ℕ) → A p r → list_all class p ≡ true

-- whether the rule's characters are in the class
abbrev pub Within : (ℕ → Bool) → Rule → Type 0
Within class (rules.One passes) = Sub passes class
Within class (rules.Run passes) = Sub passes class
Within class (rules.Exactly text) = list_all class text ≡ true
Within class (rules.Then a b) = Within class a × Within class b
Within class (rules.Either a b) = Within class a × Within class b
Within class (rules.Else a b) = Within class a × Within class b
Within class (rules.NotAt fronts a) = Within class a
Within class (rules.NotBefore passes a) = Within class a
Within class (rules.Where test a) = Within class a
Within class rule = AllIn class (Stands rule)

module _ (class : ℕ → Bool) where
  pub all_append : (xs ys : List ℕ) → list_all class xs ≡ true → list_all class ys ≡ true
      → list_all class (xs ++ ys) ≡ true
  all_append xs ys h j = list_all-append class xs ys ∙ and_from _ _ h j

  pub all_in : (rule : Rule) → Within class rule → AllIn class (Stands rule)
  all_in (rules.One passes) within = λ p r is. ap (list_all class) is.1 ∙ and_from _ _ (within is.0 is.2) refl
  all_in (rules.Run passes) within = λ p r is. all_pass passes class within p is.each
  all_in (rules.Exactly text) within = λ p r is. ap (list_all class) is ∙ within
  all_in (rules.Then a b) within = λ p r is.
      ap (list_all class) is.whole
      ∙ all_append is.front is.back (all_in a within.0 is.front (is.back ++ r) is.first)
      (all_in b within.1 is.back r is.second)
  all_in (rules.Either a b) within =
      λ p r is. elim is [ inl x ↦ all_in a within.0 p r x | inr y ↦ all_in b within.1 p r y ]
  all_in (rules.Else a b) within =
      λ p r is. elim is [ inl x ↦ all_in a within.0 p r x | inr y ↦ all_in b within.1 p r y.1 ]
  all_in (rules.NotAt fronts a) within = λ p r is. all_in a within p r is.0
  all_in (rules.NotBefore passes a) within = λ p r is. all_in a within p r is.0
  all_in (rules.Where test a) within = λ p r is. all_in a within p r is.0
  all_in rule within = within

-- whether each piece of the rule has a character that is not in the class
abbrev pub Misses : (ℕ → Bool) → Rule → Type 0
Misses class (rules.Exactly text) = list_all class text ≡ false
Misses class (rules.Then a b) = Misses class a ⊎ Misses class b
Misses class (rules.Next a b) = (front : List ℕ) → Misses class (b front)
Misses class (rules.Either a b) = Misses class a × Misses class b
Misses class rule = (p r : List ℕ) → Stands rule p r → list_all class p ≡ false

pub misses : (class : ℕ → Bool) (rule : Rule) → Misses class rule → (p r : List ℕ) → Stands rule p r
    → list_all class p ≡ false
misses class (rules.Exactly text) out = λ p r is. ap (list_all class) is ∙ out
misses class (rules.Then a b) out = λ p r is.
    ap (list_all class) is.whole ∙ (list_all-append class is.front is.back ∙ elim out [
      | inl front ↦ and_left _ _ (misses class a front is.front (is.back ++ r) is.first)
      | inr back ↦ and_right _ _ (misses class b back is.back r is.second)
    ])
misses class (rules.Next a b) out = λ p r is.
    ap (list_all class) is.whole
    ∙ (list_all-append class is.front is.back
    ∙ and_right _ _ (misses class (b is.front) (out is.front) is.back r is.second))
misses class (rules.Either a b) out =
    λ p r is. elim is [ inl x ↦ misses class a out.0 p r x | inr y ↦ misses class b out.1 p r y ]
misses class rule out = out

-- ---- where no piece is

-- whether a piece of the form is also there before any other text, possibly a longer one
abbrev pub Extends : Form → Type 0
Extends A = (p r s : List ℕ) → A p r → (q : List ℕ) × (t : List ℕ) × (p ++ s ≡ q ++ t) × A q t

-- a class without characters
abbrev pub none : ℕ → Bool
none c = false

no_first : (s : List ℕ) → first_passes none s ≡ false
no_first [] = refl
no_first (c ∷ s) = refl

-- whether the rule's pieces are there before any other text, possibly longer
abbrev pub Grows : Rule → Type 0
Grows (rules.One passes) = Unit {0}
Grows (rules.Run passes) = Unit {0}
Grows (rules.Exactly text) = Unit {0}
Grows (rules.Then a b) = Looks none (least b) a × Grows b
Grows rule = Extends (Stands rule)

extends : (rule : Rule) → Grows rule → Extends (Stands rule)
extends (rules.One passes) grows = λ p r s is. (p, s, refl, is)
extends (rules.Run passes) grows = λ p r s is.
    let run = (finds_run passes).sound s in (
      p ++ while_front passes s,
      while_rest passes s,
      ap (λ x. p ++ x) run.0 ∙ sym (append_assoc p _ _),
      record { each = all_append passes p (while_front passes s) is.each run.1.each; stops = run.1.stops },
    )
extends (rules.Exactly text) grows = λ p r s is. (p, s, refl, is)
extends (rules.Then a b) grows = λ p r s is.
    let more = extends b grows.1 is.back r s is.second in (
      is.front ++ more.0,
      more.1,
      ap (λ x. x ++ s) is.whole
          ∙ (append_assoc is.front is.back s
          ∙ (ap (λ x. is.front ++ x) more.2 ∙ sym (append_assoc is.front more.0 more.1))),
      record {
        front = is.front;
        back = more.0;
        whole = refl;
        first =
            subst (Stands a is.front) more.2
            (keeps none a (least b) grows.0 is.front is.back r s (least_holds b is.back r is.second)
            (no_first s) is.first);
        second = more.3;
      },
    )
extends rule grows = grows

-- of two prefixes of one text, one is a prefix of the other
pub fronts_compared : (y v x t : List ℕ) → y ++ v ≡ x ++ t
    → ((m : List ℕ) × (y ≡ x ++ m) × (t ≡ m ++ v)) ⊎ ((c : ℕ) × (m : List ℕ) × (x ≡ y ++ (c ∷ m)) × (v ≡ c ∷ (m ++ t)))
fronts_compared y v [] t e = inl (y, refl, sym e)
fronts_compared [] v (c ∷ x) t e = inr (c, x, refl, e)
fronts_compared (a ∷ y) v (c ∷ x) t e =
    let head : a ≡ c = cc in
    let tail : y ++ v ≡ x ++ t = cc in
    elim (fronts_compared y v x t tail) [
      | inl within ↦ inl (within.0, ap₂ (λ z zs. z ∷ zs) head within.1, within.2)
      | inr past ↦ inr (past.0, past.1, ap₂ (λ z zs. z ∷ zs) (sym head) past.2, past.3)
    ]

module _ (class : ℕ → Bool) where
  -- each character of a text in the class is in the class
  pub passes_at : (p front : List ℕ) (c : ℕ) (back : List ℕ) → list_all class p ≡ true → p ≡ front ++ (c ∷ back)
      → class c ≡ true
  passes_at p front c back all e =
      let parts = and_parts (list_all class front) _
      (sym (ap (list_all class) e ∙ list_all-append class front (c ∷ back)) ∙ all) in
      (and_parts _ _ parts.1).0

  -- a piece whose characters are in the class ends before a text that begins with no character of the class
  pub inside : (b s q t : List ℕ) → first_passes class s ≡ false → list_all class q ≡ true → b ++ s ≡ q ++ t
      → (d : List ℕ) × (b ≡ q ++ d) × (t ≡ d ++ s)
  inside b s q t ends on e = elim (fronts_compared b s q t e) [
    | inl within ↦ within
    | inr past ↦ absurd (both_ways _ (ap (first_passes class) (sym past.3) ∙ ends)
        (passes_at q b past.0 past.1 on past.2))
  ]

  pub none_extended : (rule : Rule) → Within class rule → Grows rule → KeepsNone class 0 (Stands rule)
  none_extended rule within grows b r s long ends none q t e is =
      let at = inside b s q t ends (all_in class rule within q t is) e in
      let more = extends rule grows q t (at.0 ++ r) is in
      none more.0 more.1 (ap (λ x. x ++ r) at.1 ∙ (append_assoc q at.0 r ∙ more.2)) more.3

  pub none_one : (passes : ℕ → Bool) → KeepsNone class 1 (Stands (rules.One passes))
  none_one passes [] r s long ends none q t e is = absurd (omega (arith, long))
  none_one passes (c ∷ b) r s long ends none q t e is =
      let same : ◌≡◌ {A = List ℕ} (c ∷ (b ++ s)) (is.0 ∷ t) = e ∙ ap (λ z. z ++ t) is.1 in
      let head : c ≡ is.0 = cc in
      none (c ∷ []) (b ++ r) refl (c, refl, ap passes head ∙ is.2)
