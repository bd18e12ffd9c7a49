-- The pieces of a text, one after the other.
use Rattle.std.proofs.Common.{◌≡◌, ◌∙◌, ℕ, Bool, true, false, List, [], ◌∷◌, ◌++◌, refl, ap, append_assoc, subst}
use Rattle.std.specs.Str.{chars}
use Rattle.lexical.specs.Cover.{onto, StandBefore}
use Rattle.lexical.specs.Found.{kind_of}
use Rattle.lexical.specs.Piece.{Piece, Kind, HasNoPiece, IsPiece}
use Rattle.lexical.specs.Walk.{IsNext}
use Rattle.lexical.specs.declared.walk.PlacedPiece.{PlacedPiece}
use Rattle.lexical.specs.declared.walk.PieceWalk.{PieceWalk}
use Rattle.pm_stream.specs.Parsing.{is_first}
use Rattle.rust_check.specs.Message.{Found}
use Rattle.rust_check.specs.Names.{found_by_kind, names_after}
use Rattle.rust_check.specs.TextPosition.{front, places_after}
use Rattle.rust_check.specs.Report.{ArePieces, found_in_piece, found_in_pieces, is_literal}
use Rattle.rust_check.specs.declared.finding.TextPosition.{TextPosition}

-- whether the text after these pieces is the start of the source
abbrev pub first_past : Bool → List Piece → Bool
first_past first [] = first
first_past first (piece ∷ more) = false

-- these pieces are left, and then `rest`, where no piece begins
pub record AreLeft (first : Bool) (source : List ℕ) (more : List Piece) (rest : List ℕ) : Type 0 where
  pub whole : source ≡ onto more rest
  pub stand : StandBefore first more rest
  pub none : HasNoPiece (first_past first more) rest

-- a piece, and then the pieces after it, are left
pub left_before : (at : PieceWalk) (next : PlacedPiece) (to : PieceWalk) (more : List Piece) (rest : List ℕ)
    → IsNext at next to → AreLeft to.at_front (chars to.rest.now) more rest
    → AreLeft at.at_front (chars at.rest.now)
    ((kind_of next.piece.kind (chars next.text.now), chars next.text.now) ∷ more) rest
left_before at next to more rest step left = record {
  whole = step.whole ∙ ap (λ l. chars next.text.now ++ l) left.whole;
  stand = (
    subst (IsPiece at.at_front (kind_of next.piece.kind (chars next.text.now)) (chars next.text.now)) left.whole
        step.stands,
    subst (λ first. StandBefore first more rest) step.front_after left.stand,
  );
  none = subst (λ first. HasNoPiece first rest)
      (ap (λ first. first_past first more) step.front_after ∙ past_false more) left.none;
}
  where
    past_false : (more : List Piece) → first_past false more ≡ false
    past_false [] = refl
    past_false (piece ∷ more) = refl

past_true : (all : List Piece) → first_past true all ≡ is_first all
past_true [] = refl
past_true (piece ∷ more) = refl

-- the pieces that are left at the start are all pieces of the text
pub all_left : (text : List ℕ) (all : List Piece) (rest : List ℕ) → AreLeft true text all rest → ArePieces all text rest
all_left text all rest left = record {
  covers = record { whole = left.whole; stand = left.stand };
  none = subst (λ first. HasNoPiece first rest) (past_true all) left.none;
}

-- what is found in a piece, and then in the pieces after it, is found in all of them
pub pieces_step : (done : List Found) (place after : TextPosition) (before : List (List ℕ)) (kind : Kind)
    (words : List ℕ)
    (literal : Bool) (more : List Piece) (rest : List ℕ) → literal ≡ is_literal kind → after ≡ places_after place words
    → (done ++ (found_by_kind place before kind words ++ found_in_piece literal place words))
    ++ found_in_pieces after (names_after before kind) more rest
    ≡ done ++ found_in_pieces place before ((kind, words) ∷ more) rest
pieces_step done place after before kind words literal more rest is past =
    let here = found_by_kind place before kind words in
    let names = names_after before kind in
    let inside = found_in_piece (is_literal kind) place words in
    let tail = found_in_pieces (places_after place words) names more rest in
    ap (λ b. (done ++ (here ++ found_in_piece b place words)) ++ found_in_pieces after names more rest) is
    ∙ (ap (λ at. (done ++ (here ++ inside)) ++ found_in_pieces at names more rest) past
    ∙ (append_assoc done (here ++ inside) tail ∙ ap (λ l. done ++ l) (append_assoc here inside tail)))

-- what is found so far, with what is found in the pieces that are left, is all that is found in the text's pieces
pub record GoesOn (done : List Found) (place : TextPosition) (before : List (List ℕ)) (text : List ℕ)
    (more : List Piece)
    (rest : List ℕ) : Type 0 where
  pub pieces : List Piece
  pub are : ArePieces pieces text rest
  pub all : done ++ found_in_pieces place before more rest ≡ found_in_pieces front [] pieces rest

-- at the start of the text nothing is found yet
pub front_on : (first : Bool) (words text : List ℕ) (place : TextPosition) (more : List Piece) (rest : List ℕ)
    → first ≡ true
    → words ≡ text → place ≡ front → AreLeft first words more rest → GoesOn [] place [] text more rest
front_on first words text place more rest at is stands left = record {
  pieces = more;
  are = all_left text more rest
      (subst (λ b. AreLeft b text more rest) at (subst (λ l. AreLeft first l more rest) is left));
  all = ap (λ p. found_in_pieces p [] more rest) stands;
}

-- one more piece keeps the invariant
pub piece_on : (done : List Found) (place after : TextPosition) (before : List (List ℕ)) (text : List ℕ)
    (at : PieceWalk)
    (next : PlacedPiece) (to : PieceWalk) (literal : Bool) (more : List Piece) (rest : List ℕ) → IsNext at next to
    → literal ≡ is_literal (kind_of next.piece.kind (chars next.text.now))
    → after ≡ places_after place (chars next.text.now)
    → ((ps : List Piece) (r : List ℕ) → AreLeft at.at_front (chars at.rest.now) ps r
    → GoesOn done place before text ps r)
    → AreLeft to.at_front (chars to.rest.now) more rest
    → GoesOn
    (done ++ (found_by_kind place before (kind_of next.piece.kind (chars next.text.now)) (chars next.text.now)
    ++ found_in_piece literal place (chars next.text.now))) after
    (names_after before (kind_of next.piece.kind (chars next.text.now))) text more rest
piece_on done place after before text at next to literal more rest step is past goes left =
    let kind = kind_of next.piece.kind (chars next.text.now) in
    let words = chars next.text.now in
    let on = goes ((kind, words) ∷ more) rest (left_before at next to more rest step left) in
    record {
      pieces = on.pieces;
      are = on.are;
      all = pieces_step done place after before kind words literal more rest is past ∙ on.all;
    }

-- no pieces are left where no piece begins
pub none_left : (first : Bool) (words : List ℕ) → HasNoPiece first words → AreLeft first words [] words
none_left first words none = record { whole = refl; stand = tt; none = none }
