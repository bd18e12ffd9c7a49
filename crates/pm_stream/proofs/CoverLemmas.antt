-- Lemmas on covers: one more piece at the end of a partial cover.
use Rattle.std.proofs.Common.{◌≡◌, ℕ, ◌+◌, true, false, List, [], ◌∷◌, ◌++◌, length, refl, sym, ap, ◌∙◌, subst, arith}
use Rattle.std.proofs.Common.{add_assoc, add-zero}
use Rattle.lexical.specs.Piece.{Kind, Piece, FrontMark, Gap, Doc, Open, Close, Leaf, IsPiece}
use Rattle.lexical.specs.Cover.{onto, width, StandBefore, CoversUpTo}
use Rattle.pm_stream.specs.Events.{Event, events_onto, expansion}
use Rattle.pm_stream.specs.Parsing.{is_first}

pub onto-append : (us vs : List Piece) (r : List ℕ) → onto (us ++ vs) r ≡ onto us (onto vs r)
onto-append [] vs r = refl
onto-append (u ∷ us) vs r = ap (λ t. u.1 ++ t) (onto-append us vs r)

pub width-append : (us vs : List Piece) → width (us ++ vs) ≡ width us + width vs
width-append [] vs = omega arith
width-append (u ∷ us) vs = omega (arith, width-append us vs)

stand_more : (us : List Piece) (k : Kind) (p r : List ℕ) → StandBefore false us (p ++ r) → IsPiece false k p r
    → StandBefore false (us ++ ((k, p) ∷ [])) r
stand_more [] k p r h stands = (stands, tt)
stand_more (u ∷ us) k p r h stands =
    (subst (IsPiece false u.0 u.1) (sym (onto-append us ((k, p) ∷ []) r)) h.0, stand_more us k p r h.1 stands)

stand_first : (us : List Piece) (k : Kind) (p r : List ℕ) → StandBefore true us (p ++ r)
    → IsPiece (is_first us) k p r → StandBefore true (us ++ ((k, p) ∷ [])) r
stand_first [] k p r h stands = (stands, tt)
stand_first (u ∷ us) k p r h stands =
    (subst (IsPiece true u.0 u.1) (sym (onto-append us ((k, p) ∷ []) r)) h.0, stand_more us k p r h.1 stands)

pub covers_none : (source : List ℕ) → CoversUpTo [] source source
covers_none source = record { whole = refl; stand = tt }

pub covers_more : (us : List Piece) (source p rest : List ℕ) (k : Kind) → CoversUpTo us source (p ++ rest)
    → IsPiece (is_first us) k p rest
    → CoversUpTo (us ++ ((k, p) ∷ [])) source rest
covers_more us source p rest k h stands = record {
  whole = h.whole ∙ sym (onto-append us ((k, p) ∷ []) rest);
  stand = stand_first us k p rest h.stand stands;
}

pub is_first-more : (us : List Piece) (x : Piece) → is_first (us ++ (x ∷ [])) ≡ false
is_first-more [] x = refl
is_first-more (u ∷ us) x = refl

-- ---- the events of the pieces

pub events-append : (at : ℕ) (k : Kind) (p : List ℕ) (es fs : List Event)
    → events_onto at k p (es ++ fs) ≡ events_onto at k p es ++ fs
events-append at FrontMark p es fs = refl
events-append at Gap p es fs = refl
events-append at (Doc true text) p es fs = refl
events-append at (Doc false text) p es fs = refl
events-append at (Open c) p es fs = refl
events-append at (Close c) p es fs = refl
events-append at (Leaf token) p es fs = refl

pub expansion-append : (at : ℕ) (us vs : List Piece)
    → expansion at (us ++ vs) ≡ expansion at us ++ expansion (at + width us) vs
expansion-append at [] vs = ap (λ n. expansion n vs) (sym (add-zero at))
expansion-append at (u ∷ us) vs =
    ap (events_onto at u.0 u.1) (expansion-append (at + length u.1) us vs)
    ∙ (events-append at u.0 u.1 (expansion (at + length u.1) us) (expansion (at + length u.1 + width us) vs)
    ∙ ap (λ n. expansion at (u ∷ us) ++ expansion n vs) (add_assoc at (length u.1) (width us)))

pub expansion-more : (at : ℕ) (us : List Piece) (k : Kind) (p : List ℕ)
    → expansion at (us ++ ((k, p) ∷ [])) ≡ expansion at us ++ events_onto (at + width us) k p []
expansion-more at us k p = expansion-append at us ((k, p) ∷ [])
