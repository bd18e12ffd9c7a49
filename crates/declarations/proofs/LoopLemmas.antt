-- Loops of functions that read by rules.
use Rattle.std.proofs.Common.{◌≡◌, refl, sym, ◌∙◌, ap, subst, ℕ, ◌≤◌, ◌<◌, length, Bool, true, false, List}
use Rattle.std.proofs.Common.{[], ◌∷◌, ◌++◌, Some, None, arith, if◌then◌else◌}
use Rattle.std.proofs.lemmas.Bool.{both_ways}
use Rattle.grammars.specs.Grammar.{Grammar, Many, Event}
use Rattle.grammars.specs.Machine.{Transition, closing, ends, step}
use Rattle.grammars.specs.First.{heads}
use Rattle.grammars.specs.Find.{Found, Past, Stuck, and_then, find, front, scan}
use Rattle.grammars.proofs.FindLemmas.{front_front, scan_step}
use Rattle.grammars.proofs.WordLemmas.{find_more, find_skips, into_some}
use Rattle.pm_stream.specs.declared.stream.TokenTree.{TokenTree}
use Rattle.declarations.specs.Reader.{Finds, Remains, Sticks, classes_in}
use Rattle.item_tables.specs.declared.class.SignClass.{SignClass}
use Rattle.declarations.specs.rules.Names.{G, Label}
use Rattle.declarations.specs.rules.Rules.{rules}
use Rattle.declarations.proofs.ReaderLemmas.{remains_on, remains_self}

-- ---- the rest has fewer signs

-- no more signs are left than this number
abbrev pub Fits : {C L : Type 0} → ℕ → Found C L → Type 0
Fits n (Past events rest) = length rest ≤ n
Fits n (Stuck left) = length left ≤ n

fits_front : {C L : Type 0} (n m : ℕ) (e : List (Event C L)) (f : Found C L) → n ≤ m → Fits n f → Fits m (front e f)
fits_front n m e (Past x r) h f = omega arith
fits_front n m e (Stuck l) h f = omega arith

pub scan_fits : {C N L : Type 0} (rules : N → Grammar C N L) (k : List (Grammar C N L)) (signs : List C)
    → Fits (length signs) (scan rules k signs)
scan_fits rules k [] = go (ends k)
  where
    go : (b : Bool) → Fits 0 (if b then Past (closing k) [] else Stuck [])
    go true = omega arith
    go false = omega arith
scan_fits {C = C} {N = N} {L = L} rules k (c ∷ signs) = go (step rules k c) (λ j. scan_fits rules j signs)
  where
    stop : (b : Bool) → Fits (length (c ∷ signs)) (if b then Past (closing k) (c ∷ signs) else Stuck (c ∷ signs))
    stop true = omega arith
    stop false = omega arith

    go : (s : Transition C N L) → ((j : List (Grammar C N L)) → Fits (length signs) (scan rules j signs))
        → Fits (length (c ∷ signs)) (elim s as (λ x. Found C L) [
          | None ↦ if ends k then Past (closing k) (c ∷ signs) else Stuck (c ∷ signs)
          | Some taken ↦ front taken.0 (scan rules taken.1 signs)
        ])
    go None f = stop (ends k)
    go (Some t) f = fits_front (length signs) (length (c ∷ signs)) t.0 (scan rules t.1 signs) (omega arith) (f t.1)

fewer_signs : (g : G) (left next : List SignClass) (events : List (Event SignClass Label)) → heads g left ≡ true
    → find rules g left ≡ Past events next
    → length next < length left
unfolding find
fewer_signs g [] next events h p = absurd (both_ways _ refl h)
fewer_signs g (c ∷ left) next events h p =
    let t = into_some rules g [] c h in
    let s = scan_step rules (g ∷ []) c left (Some t.0) (rw t.1 refl) in
    let fits = scan_fits rules t.0.1 left in
    let e : front t.0.0 (scan rules t.0.1 left) ≡ Past events next = sym s ∙ p in
    let all : Fits (length left) (front t.0.0 (scan rules t.0.1 left)) =
    fits_front (length left) (length left) t.0.0 (scan rules t.0.1 left) (omega arith) fits in
    let last : Fits (length left) (Past events next) = subst (Fits (length left)) e all in
    omega (arith, last)

-- an error is after the first sign if the rule can begin with it
pub stuck_fewer : (g : G) (left next : List SignClass) → heads g left ≡ true → find rules g left ≡ Stuck next
    → length next < length left
unfolding find
stuck_fewer g [] next h p = absurd (both_ways _ refl h)
stuck_fewer g (c ∷ left) next h p =
    let t = into_some rules g [] c h in
    let s = scan_step rules (g ∷ []) c left (Some t.0) (rw t.1 refl) in
    let fits = scan_fits rules t.0.1 left in
    let e : front t.0.0 (scan rules t.0.1 left) ≡ Stuck next = sym s ∙ p in
    let all : Fits (length left) (front t.0.0 (scan rules t.0.1 left)) =
    fits_front (length left) (length left) t.0.0 (scan rules t.0.1 left) (omega arith) fits in
    let last : Fits {C = SignClass} {L = Label} (length left) (Stuck next) = subst (Fits (length left)) e all in
    omega (arith, last)

pub fewer : (g : G) (left next : List TokenTree) → heads g (classes_in left) ≡ true → Finds g left next
    → length (classes_in next) < length (classes_in left)
fewer g left next h f = fewer_signs g (classes_in left) (classes_in next) f.events h f.found

-- ---- loops over what can be there many times

-- what the rule finds in the trees is what comes before the left trees, and then what it finds in them
pub record Leads (g : G) (trees left : List TokenTree) : Type 0 where
  pub events : List (Event SignClass Label)
  pub found : find rules g (classes_in trees) ≡ front events (find rules g (classes_in left))
  pub remains : Remains left trees

pub leads_start : (g : G) (trees : List TokenTree) → Leads g trees trees
leads_start g trees =
    record { events = []; found = go (find rules g (classes_in trees)); remains = remains_self trees }
  where
    go : (f : Found SignClass Label) → f ≡ front [] f
    go (Past e r) = refl
    go (Stuck l) = refl

pub leads_more : (a : G) (trees left next : List TokenTree) → Leads (Many a) trees left
    → heads a (classes_in left) ≡ true → Finds a left next
    → Leads (Many a) trees next
leads_more a trees left next x h p = record {
  events = x.events ++ p.events;
  found = x.found
      ∙ (ap (front x.events)
      (find_more rules a (classes_in left) h ∙ ap (λ f. and_then f (find rules (Many a))) p.found)
      ∙ front_front x.events p.events (find rules (Many a) (classes_in next)));
  remains = remains_on trees left next x.remains p.remains;
}

heads_many : (a : G) (cs : List SignClass) → heads (Many a) cs ≡ heads a cs
heads_many a [] = refl
heads_many a (c ∷ cs) = refl

pub leads_end : (a : G) (trees left : List TokenTree) → Leads (Many a) trees left → heads a (classes_in left) ≡ false
    → Finds (Many a) trees left
leads_end a trees left x h = record {
  events = x.events ++ [];
  found = x.found
      ∙ ap (front x.events) (find_skips rules (Many a) (classes_in left) (heads_many a (classes_in left) ∙ h) refl);
  remains = x.remains;
}

pub leads_stuck : (a : G) (trees left fault : List TokenTree) → Leads (Many a) trees left
    → heads a (classes_in left) ≡ true → Sticks a left fault
    → Sticks (Many a) trees fault
leads_stuck a trees left fault x h e = record {
  stuck = x.found
      ∙ ap (front x.events)
      (find_more rules a (classes_in left) h ∙ ap (λ f. and_then f (find rules (Many a))) e.stuck);
  remains = remains_on trees left fault x.remains e.remains;
}
