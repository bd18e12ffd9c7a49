-- Each way to make a form has a finder.
use Rattle.std.proofs.Common.{◌≡◌, ℕ, Bool, true, false, not, ◌==◌, List, [], ◌∷◌, ◌++◌, Some, None, IfSome, IsTrue}
use Rattle.std.proofs.Common.{refl, sym, ap, ap₂, ◌∙◌, subst, arith, append_assoc, append-nil, eqb-true, eq-eqb}
use Rattle.std.specs.List.{list_all}
use Rattle.std.proofs.lemmas.Bool.{both_ways, cond-true, cond-false, cond_both, not-true, not_from_false}
use Rattle.std.proofs.lemmas.Option.{IfSome_then, some_pair_parts}
use Rattle.lexical.specs.Text.{begins_any, first_passes}
use Rattle.lexical.specs.Form.{Form, HasNone, Then, Next, NotAt, NotBefore, Exactly, One, Run}
use Rattle.lexical.specs.Finder.{Answer, Finder, Finds, while_front, while_rest, prepend, and_next, if_passes}
use Rattle.lexical.specs.Finder.{find_next}
use Rattle.lexical.specs.Finder.{find_then, find_if, find_not_at, find_not_before, find_where, find_one, find_run}
use Rattle.lexical.specs.Finder.{find_text}

-- whether the text is split into a piece of the form and a rest
abbrev pub IsSplit : Form → List ℕ → List ℕ × List ℕ → Type 0
IsSplit A text x = (text ≡ x.0 ++ x.1) × A x.0 x.1

-- ---- facts about every finder

pub found_is : (f : Finder) (A : Form) → Finds f A → (text p r : List ℕ) → f text ≡ Some (p, r)
    → (text ≡ p ++ r) × A p r
found_is f A h text p r e = subst (λ o. IfSome o (IsSplit A text)) e (h.sound text)

pub none_is : (f : Finder) (A : Form) → Finds f A → (text : List ℕ) → f text ≡ None → HasNone A text
none_is f A h text e p r whole is = cc (h.complete p r is)

pub none_found : (f : Finder) (A : Form) → Finds f A → (text : List ℕ) → HasNone A text → f text ≡ None
none_found f A h text none = grind (arith, h.sound text, none)

-- at most one prefix of a text is a piece of the form
pub one_split : (f : Finder) (A : Form) → Finds f A → (p q r s : List ℕ) → A p r → A q s → p ++ r ≡ q ++ s
    → (p ≡ q) × (r ≡ s)
one_split f A h p q r s is other e = some_pair_parts p q r s (sym (h.complete p r is) ∙ (ap f e ∙ h.complete q s other))

-- a finder of one form finds another one that has the same pieces
pub finds_same : (f : Finder) (A B : Form) → Finds f A → ((p r : List ℕ) → A p r → B p r)
    → ((p r : List ℕ) → B p r → A p r) → Finds f B
finds_same f A B h to from = record {
  sound = λ text. IfSome_then (f text) (h.sound text) (λ x is. (is.0, to x.0 x.1 is.1));
  complete = λ p r is. h.complete p r (from p r is);
}

-- ---- `Next`, `Then`

-- an answer with a prefix put before it is a piece of the second form
pub prepend_sound : (A B : Form) (front text : List ℕ) → ((p r : List ℕ) → text ≡ p ++ r → A p r → B (front ++ p) r)
    → (o : Answer) → IfSome o (IsSplit A text) → IfSome (prepend front o) (IsSplit B (front ++ text))
prepend_sound A B front text step None is = tt
prepend_sound A B front text step (Some x) is =
    (ap (λ t. front ++ t) is.0 ∙ sym (append_assoc front x.0 x.1), step x.0 x.1 is.0 is.1)

next_sound : (g : List ℕ → Finder) (A : Form) (B : List ℕ → Form) → ((front : List ℕ) → Finds (g front) (B front))
    → (text : List ℕ) (o : Answer) → IfSome o (IsSplit A text) → IfSome (and_next g o) (IsSplit (Next A B) text)
next_sound g A B h text None is = tt
next_sound g A B h text (Some x) is = rw (is.0) (prepend_sound (B x.0) (Next A B) x.0 x.1
    (λ p r e back. record { front = x.0; back = p; whole = refl; first = subst (A x.0) e is.1; second = back })
    (g x.0 x.1) ((h x.0).sound x.1))

pub next_whole : (A : Form) (B : List ℕ → Form) (p r : List ℕ) (h : Next A B p r) → p ++ r ≡ h.front ++ (h.back ++ r)
next_whole A B p r h = ap (λ q. q ++ r) h.whole ∙ append_assoc h.front h.back r

pub finds_next : (f : Finder) (g : List ℕ → Finder) (A : Form) (B : List ℕ → Form) → Finds f A
    → ((front : List ℕ) → Finds (g front) (B front)) → Finds (find_next f g) (Next A B)
finds_next f g A B h j = record {
  sound = λ text. next_sound g A B j text (f text) (h.sound text);
  complete = λ p r is.
      rw (is.whole, append_assoc, h.complete is.front _ is.first, (j is.front).complete is.back r is.second);
}

pub finds_then : (f g : Finder) (A B : Form) → Finds f A → Finds g B → Finds (find_then f g) (Then A B)
finds_then f g A B h j = finds_next f (λ front. g) A (λ front. B) h (λ front. j)

-- ---- a form with a condition

pub finds_if : (holds : Bool) (f : Finder) (A : Form) → Finds f A
    → Finds (find_if holds f) (λ p r. IsTrue holds × A p r)
finds_if true f A h = finds_same f A _ h (λ p r is. (refl, is)) (λ p r is. is.1)
finds_if false f A h = record { sound = λ text. tt; complete = λ p r is. absurd (both_ways _ refl is.0) }

-- ---- `NotAt`

pub finds_not_at : (fronts : List (List ℕ)) (f : Finder) (A : Form) → Finds f A
    → Finds (find_not_at fronts f) (NotAt fronts A)
finds_not_at fronts f A h = record {
  sound =
      λ text. cond_both (begins_any fronts text) None (f text) (λ o. IfSome o (IsSplit (NotAt fronts A) text))
      (λ e. tt) (λ e. IfSome_then (f text) (h.sound text) (λ x is. (is.0, (is.1, rw (is.0) at e))));
  complete = λ p r is. cond-false _ _ _ is.1 ∙ h.complete p r is.0;
}

-- ---- a form whose pieces pass

where_sound : (test : List ℕ → List ℕ → Bool) (A : Form) (text : List ℕ) (o : Answer) → IfSome o (IsSplit A text)
    → IfSome (if_passes test o) (IsSplit (λ p r. A p r × IsTrue (test p r)) text)
where_sound test A text None is = tt
where_sound test A text (Some x) is = grind (arith, is)

pub finds_where : (test : List ℕ → List ℕ → Bool) (f : Finder) (A : Form) → Finds f A
    → Finds (find_where test f) (λ p r. A p r × IsTrue (test p r))
finds_where test f A h = record {
  sound = λ text. where_sound test A text (f text) (h.sound text);
  complete = λ p r is. ap (if_passes test) (h.complete p r is.0) ∙ cond-true _ _ _ is.1;
}

pub finds_not_before : (passes : ℕ → Bool) (f : Finder) (A : Form) → Finds f A
    → Finds (find_not_before passes f) (NotBefore passes A)
finds_not_before passes f A h = finds_same _ _ _ (finds_where (λ p r. not (first_passes passes r)) f A h)
    (λ p r is. (is.0, not-true _ is.1)) (λ p r is. (is.0, not_from_false _ is.1))

-- ---- `Run`

pub while_whole : (passes : ℕ → Bool) (text : List ℕ) → while_front passes text ++ while_rest passes text ≡ text
while_whole passes [] = refl
while_whole passes (c ∷ text) = grind (arith, while_whole passes text)

pub while_passes : (passes : ℕ → Bool) (text : List ℕ) → list_all passes (while_front passes text) ≡ true
while_passes passes [] = refl
while_passes passes (c ∷ text) = grind (arith, while_passes passes text)

while_stops : (passes : ℕ → Bool) (text : List ℕ) → first_passes passes (while_rest passes text) ≡ false
while_stops passes [] = refl
while_stops passes (c ∷ text) = grind (arith, while_stops passes text)

pub while_rest_none : (passes : ℕ → Bool) (r : List ℕ) → first_passes passes r ≡ false
    → (while_front passes r ≡ []) × (while_rest passes r ≡ r)
while_rest_none passes [] stops = (refl, refl)
while_rest_none passes (c ∷ r) stops = (cond-false _ _ _ stops, cond-false _ _ _ stops)

-- after characters that pass, the run continues
pub while_more : (passes : ℕ → Bool) (q r : List ℕ) → list_all passes q ≡ true
    → (while_front passes (q ++ r) ≡ q ++ while_front passes r) × (while_rest passes (q ++ r) ≡ while_rest passes r)
while_more passes [] r all = (refl, refl)
while_more passes (c ∷ q) r all = grind (arith, all, while_more passes q r)

pub finds_run : (passes : ℕ → Bool) → Finds (find_run passes) (Run passes)
finds_run passes = record {
  sound = λ text. (
    sym (while_whole passes text),
    record { each = while_passes passes text; stops = while_stops passes text },
  );
  complete = λ q r is.
      let more = while_more passes q r is.each in
      let none = while_rest_none passes r is.stops in
      cc (append-nil q, more.0, more.1, none.0, none.1);
}

-- ---- `One`, `Exactly`

one_sound : (passes : ℕ → Bool) (text : List ℕ) → IfSome (find_one passes text) (IsSplit (One passes) text)
one_sound passes [] = tt
one_sound passes (c ∷ text) = grind arith

pub finds_one : (passes : ℕ → Bool) → Finds (find_one passes) (One passes)
finds_one passes = record {
  sound = one_sound passes;
  complete = λ q r is. subst (λ x. find_one passes (x ++ r) ≡ Some (x, r)) (sym is.1) (cond-true _ _ _ is.2);
}

pub finds_text : (front : List ℕ) → Finds (find_text front) (Exactly front)
finds_text [] = record {
  sound = λ text. (refl, refl);
  complete =
      λ p r is. subst (λ q. find_text [] (q ++ r) ≡ Some (q, r)) (sym is) refl;
}
-- a text is its first character and then the others
finds_text (c ∷ front) = finds_same (find_text (c ∷ front)) (Then (One (λ d. d == c)) (Exactly front))
    (Exactly (c ∷ front))
    (finds_then (find_one (λ d. d == c)) (find_text front) (One (λ d. d == c)) (Exactly front) (finds_one (λ d. d == c))
    (finds_text front))
    (λ p r h. h.whole ∙ ap₂ ◌++◌ (h.first.1 ∙ ap (λ x. x ∷ []) (eqb-true h.first.0 c h.first.2)) h.second)
    (λ p r is. record { front = c ∷ []; back = front; whole = is; first = (c, refl, eq-eqb c c refl); second = refl })
