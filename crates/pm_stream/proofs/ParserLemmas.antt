-- What the parser has read so far, and how reading ends.
use Rattle.std.proofs.Common.{◌≡◌, ◌≢◌, inl, inr, ℕ, ◌+◌, Bool, true, false, List, [], ◌∷◌, ◌++◌, length, refl, sym, ap}
use Rattle.std.proofs.Common.{◌∙◌, subst, arith}
use Rattle.lexical.specs.Class.{is_white}
use Rattle.lexical.specs.Piece.{Kind, Gap, Close, IsPiece, HasNoPiece}
use Rattle.std.specs.List.{list_all}
use Rattle.std.proofs.lemmas.Bool.{and_parts}
use Rattle.lexical.specs.Cover.{CoversUpTo}
use Rattle.lexical.proofs.PieceFacts.{piece_not_empty}
use Rattle.pm_stream.specs.Delimited.{delimiter_of}
use Rattle.pm_stream.specs.Events.{Opens, Closes, events_onto, expansion, CanGoOn}
use Rattle.pm_stream.specs.Forest.{Forest, nil, flattening}
use Rattle.pm_stream.specs.Parsing.{ParsesTo, is_first, HasStrayCloser, FaultAt}
use Rattle.pm_stream.specs.OpenGroups.{Opened, unclosed_onto, FitsInnermost}
use Rattle.pm_stream.specs.Reading.{Reads}
use Rattle.pm_stream.proofs.CoverLemmas.{covers_none, covers_more, width-append, is_first-more, expansion-more}
use Rattle.pm_stream.proofs.EventLemmas.{flattening_balanced, unclosed-append, unclosed_goes_on, stray_closer}

pub reads_none : (base : ℕ) (source : List ℕ) → Reads base source source base true [] nil
reads_none base source =
    record { pieces = []; covers = covers_none source; begins = refl; position = omega arith; expands = refl }

-- one more piece, whose events were read
pub reads_more : (base : ℕ) (source mid p rest : List ℕ) (at end : ℕ) (first : Bool) (groups groups' : List Opened)
    (trees trees' : Forest) (k : Kind)
    → Reads base source mid at first groups trees → mid ≡ p ++ rest → IsPiece first k p rest
    → end ≡ at + length p
    → unclosed_onto groups' trees' [] ≡ unclosed_onto groups trees (events_onto at k p [])
    → Reads base source rest end false groups' trees'
reads_more base source mid p rest at end first groups groups' trees trees' k h whole stands e grows = record {
  pieces = h.pieces ++ ((k, p) ∷ []);
  covers = covers_more h.pieces source p rest k (subst (CoversUpTo h.pieces source) whole h.covers)
      (subst (λ b. IsPiece b k p rest) (sym h.begins) stands);
  begins = is_first-more h.pieces (k, p);
  position = omega (arith, width-append h.pieces ((k, p) ∷ []), h.position);
  expands = grows ∙ (unclosed-append groups trees [] (events_onto at k p [])
      ∙ (ap (λ es. es ++ events_onto at k p []) h.expands
      ∙ (ap (λ n. expansion base h.pieces ++ events_onto n k p []) h.position
      ∙ sym (expansion-more base h.pieces k p))));
}

-- white characters are gaps, which have no events
pub reads_white : (base : ℕ) (source mid p rest : List ℕ) (at end : ℕ) (groups : List Opened) (trees : Forest)
    → Reads base source mid at false groups trees → mid ≡ p ++ rest → list_all is_white p ≡ true
    → end ≡ at + length p → Reads base source rest end false groups trees
reads_white base source mid [] rest at end groups trees h whole white e =
    subst (λ n. Reads base source rest n false groups trees) (omega arith)
    (subst (λ m. Reads base source m at false groups trees) whole h)
reads_white base source mid (c ∷ p) rest at end groups trees h whole white e =
    let parts = and_parts _ _ white in
    let past = reads_more base source mid (c ∷ []) (p ++ rest) at (at + 1) false groups groups trees trees Gap h whole
    (inl (c, refl, parts.0)) refl refl in
    reads_white base source (p ++ rest) p rest (at + 1) end groups trees past refl parts.1 (omega arith)

-- ---- how reading ends

pub reads_all : (base : ℕ) (source rest : List ℕ) (at : ℕ) (first : Bool) (trees : Forest)
    → Reads base source rest at first [] trees → rest ≡ [] → ParsesTo base source trees
reads_all base source rest at first trees h done = record
    { pieces = h.pieces; covers = subst (CoversUpTo h.pieces source) done h.covers; expands = h.expands }

goes_on : {base : ℕ} {source rest : List ℕ} {at : ℕ} {first : Bool} {groups : List Opened} {trees : Forest}
    (h : Reads base source rest at first groups trees) → CanGoOn (expansion base h.pieces)
goes_on {groups = groups} {trees = trees} h = subst CanGoOn h.expands (unclosed_goes_on groups trees)

pub reads_open : (base : ℕ) (source rest : List ℕ) (at : ℕ) (first : Bool) (x : Opened) (groups : List Opened)
    (trees : Forest)
    → Reads base source rest at first (x ∷ groups) trees → rest ≡ [] → FaultAt base source x.lo
reads_open base source rest at first x groups trees h done = inr (record {
  pieces = h.pieces;
  covers = subst (CoversUpTo h.pieces source) done h.covers;
  goes_on = goes_on h;
  delimiter = x.delimiter;
  front = unclosed_onto groups x.outer [];
  back = flattening trees;
  split = sym h.expands ∙ unclosed-append groups x.outer [] (Opens x.delimiter x.lo ∷ flattening trees);
  closed = flattening_balanced trees;
})

pub reads_stuck : (base : ℕ) (source rest : List ℕ) (at : ℕ) (first : Bool) (groups : List Opened) (trees : Forest)
    → Reads base source rest at first groups trees → rest ≢ [] → HasNoPiece first rest
    → FaultAt base source at
reads_stuck base source rest at first groups trees h more none = inl (record {
  pieces = h.pieces;
  rest = rest;
  covers = h.covers;
  at = h.position;
  goes_on = goes_on h;
  more = more;
  stuck = inl (subst (λ b. HasNoPiece b rest) (sym h.begins) none);
})

pub reads_stray : (base : ℕ) (source mid p rest : List ℕ) (at : ℕ) (first : Bool) (groups : List Opened)
    (trees : Forest) (c : ℕ)
    → Reads base source mid at first groups trees → mid ≡ p ++ rest → IsPiece first (Close c) p rest
    → (FitsInnermost (delimiter_of c) groups → ⊥)
    → FaultAt base source at
reads_stray base source mid p rest at first groups trees c h whole stands apart =
    let begin = piece_not_empty first (Close c) p rest stands in
    let more : mid ≢ [] = λ e. let clash : begin.0 ∷ (begin.1 ++ rest) ≡ [] = ap (λ q. q ++ rest) (sym begin.2)
    ∙ (sym whole ∙ e) in cc in
    let closer : HasStrayCloser (is_first h.pieces) at (expansion base h.pieces) mid = record {
      character = c;
      front = p;
      rest = rest;
      whole = whole;
      stands = subst (λ b. IsPiece b (Close c) p rest) (sym h.begins) stands;
      stray = subst (λ es. CanGoOn (es ++ (Closes (delimiter_of c) (at + length p) ∷ [])) → ⊥) h.expands
          (stray_closer groups trees (delimiter_of c) (at + length p) apart);
    } in
    inl (record {
      pieces = h.pieces;
      rest = mid;
      covers = h.covers;
      at = h.position;
      goes_on = goes_on h;
      more =
          more;
      stuck = inr closer;
    })
