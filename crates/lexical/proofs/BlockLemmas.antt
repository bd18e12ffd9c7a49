-- Block comments: the finder finds the text up to the end of the outermost open one.
use Rattle.std.proofs.Common.{◌≡◌, ℕ, zero, suc, false, List, [], ◌∷◌, ◌++◌, codes, Some, None, IfSome, refl, sym, ap}
use Rattle.std.proofs.Common.{◌∙◌, arith, append_assoc}
use Rattle.std.proofs.lemmas.Bool.{cond_both, or_from}
use Rattle.lexical.specs.Text.{begins_with, begins_any}
use Rattle.lexical.specs.Block.{block_signs, BlockBody, Empty, Nested, Single, Closed, Ends, find_ends}
use Rattle.lexical.specs.Finder.{Answer, Finds, prepend}
use Rattle.lexical.proofs.FinderLemmas.{IsSplit, prepend_sound}
use Rattle.lexical.proofs.TextLemmas.{begins_splits}

-- ---- the finder at each sign and character

pub prepend_nothing : (o : Answer) → prepend [] o ≡ o
prepend_nothing None = refl
prepend_nothing (Some x) = refl

pub prepend_prepend : (p q : List ℕ) (o : Answer) → prepend p (prepend q o) ≡ prepend (p ++ q) o
prepend_prepend p q None = refl
prepend_prepend p q (Some x) = ap (λ y. Some (y, x.1)) (sym (append_assoc p q x.0))

pub at_close : (outer : ℕ) (text : List ℕ)
    → find_ends (suc outer) (codes "*/" ++ text) ≡ prepend (codes "*/") (find_ends outer text)
unfolding find_ends
at_close outer text = refl

pub at_open : (outer : ℕ) (text : List ℕ)
    → find_ends (suc outer) (codes "/*" ++ text) ≡ prepend (codes "/*") (find_ends (suc (suc outer)) text)
unfolding find_ends
at_open outer text = refl

pub at_other : (outer c : ℕ) (text : List ℕ) → begins_any block_signs (c ∷ text) ≡ false
    → find_ends (suc outer) (c ∷ text) ≡ prepend (c ∷ []) (find_ends (suc outer) text)
unfolding find_ends
at_other outer c [] h = refl
at_other outer c (d ∷ text) h = grind (arith, h)

-- ---- each text that ends this many comments is found

body_found : {body after : List ℕ} (outer : ℕ) → BlockBody body after
    → find_ends (suc outer) (body ++ after) ≡ prepend body (find_ends (suc outer) after)
body_found outer (Empty e) = rw e (sym (prepend_nothing _))
body_found outer (Nested inner more e nested h) =
    rw e (simp (append_assoc, at_open, body_found (suc outer) nested, at_close, body_found outer h, prepend_prepend))
body_found {after = after} outer (Single c more e plain h) =
    rw e (at_other outer c (more ++ after) plain ∙ simp (body_found outer h, prepend_prepend))

closed_found : (outer : ℕ) (p r : List ℕ) → Closed outer p r → find_ends (suc outer) (p ++ r) ≡ Some (p, r)
unfolding find_ends
closed_found zero p r h = rw h refl
closed_found (suc outer) p r h =
    let rest = h.second in
    let found = closed_found outer rest.back r rest.second in
    let more : find_ends (suc outer) (h.back ++ r) ≡ Some (h.back, r) =
    rw (rest.whole, append_assoc, body_found outer rest.first, found) refl in
    rw (h.whole, h.first) (ap (prepend (codes "*/")) more)

ends_found : (depth : ℕ) (p r : List ℕ) → Ends depth p r → find_ends depth (p ++ r) ≡ Some (p, r)
unfolding find_ends
ends_found zero p r h = rw h refl
ends_found (suc outer) p r h = rw
    (h.whole, append_assoc, body_found outer h.first, closed_found outer h.back r h.second) refl

-- ---- each text that is found ends this many comments

ends_closed : (outer : ℕ) (p r : List ℕ) → Ends outer p r → Closed outer (codes "*/" ++ p) r
ends_closed zero p r h = ap (λ x. codes "*/" ++ x) h
ends_closed (suc outer) p r h = record { front = codes "*/"; back = p; whole = refl; first = refl; second = h }

close_step : (outer : ℕ) (p r : List ℕ) → Ends outer p r → Ends (suc outer) (codes "*/" ++ p) r
close_step outer p r h = record {
  front = [];
  back = codes "*/" ++ p;
  whole = refl;
  first = Empty refl;
  second =
      ends_closed outer p r h;
}

open_step : (outer : ℕ) (p r : List ℕ) → Ends (suc (suc outer)) p r → Ends (suc outer) (codes "/*" ++ p) r
open_step outer p r h =
    let rest = h.second.second in
    record {
      front = codes "/*" ++ (h.front ++ (codes "*/" ++ rest.front));
      back = rest.back;
      whole = simp (h.whole, h.second.whole, h.second.first, rest.whole, append_assoc);
      first = Nested h.front rest.front refl
          (simp (h.second.whole, h.second.first, rest.whole, append_assoc) at h.first) rest.first;
      second = rest.second;
    }

other_step : (outer c : ℕ) (p r : List ℕ) → begins_any block_signs (c ∷ (p ++ r)) ≡ false → Ends (suc outer) p r
    → Ends (suc outer) (c ∷ p) r
other_step outer c p r plain h =
    let first : BlockBody (c ∷ h.front) (h.back ++ r) =
    Single c h.front refl (rw (h.whole, append_assoc h.front h.back r) at plain) h.first in
    record { front = c ∷ h.front; back = h.back; whole = ap (λ x. c ∷ x) h.whole; first = first; second = h.second }

ends_sound : (depth : ℕ) (text : List ℕ) → IfSome (find_ends depth text) (IsSplit (Ends depth) text)
unfolding find_ends
ends_sound zero text = (refl, refl)
ends_sound (suc outer) [] = tt
ends_sound (suc outer) (c ∷ []) = tt
ends_sound (suc outer) (c ∷ (d ∷ text)) =
    cond_both (begins_with (codes "*/") (c ∷ (d ∷ text))) _ _
    (λ o. IfSome o (IsSplit (Ends (suc outer)) (c ∷ (d ∷ text))))
    (λ closes. let split = begins_splits (codes "*/") (c ∷ (d ∷ text)) closes in
    let first : c ≡ 42 = cc in
    let second : d ≡ 47 = cc in
    rw (first, second) (prepend_sound (Ends outer) (Ends (suc outer)) (codes "*/") text
    (λ p r e. close_step outer p r) _ (ends_sound outer text)))
    (λ no. cond_both (begins_with (codes "/*") (c ∷ (d ∷ text))) _ _
    (λ o. IfSome o (IsSplit (Ends (suc outer)) (c ∷ (d ∷ text))))
    (λ opens. let split = begins_splits (codes "/*") (c ∷ (d ∷ text)) opens in
    let first : c ≡ 47 = cc in
    let second : d ≡ 42 = cc in
    rw (first, second) (prepend_sound (Ends (suc (suc outer))) (Ends (suc outer)) (codes "/*") text
    (λ p r e. open_step outer p r) _ (ends_sound (suc (suc outer)) text)))
    (λ nor. prepend_sound (Ends (suc outer)) (Ends (suc outer)) (c ∷ []) (d ∷ text)
    (λ p r e is. other_step outer c p r
    (ap (λ t. begins_any block_signs (c ∷ t)) (sym e) ∙ or_from _ _ nor (or_from _ _ no refl)) is)
    _ (ends_sound (suc outer) (d ∷ text))))

pub finds_ends : (depth : ℕ) → Finds (find_ends depth) (Ends depth)
finds_ends depth = record { sound = ends_sound depth; complete = ends_found depth }
