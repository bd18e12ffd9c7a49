-- All pieces of a text, one by one.
use Rattle.std.proofs.Common.{◌≡◌, ◌+◌, ℕ, List, [], ◌∷◌, ◌++◌, length, refl, ap, subst, ◌∙◌, append_assoc}
use Rattle.std.specs.Str.{chars, encode_utf8_all}
use Rattle.lexical.specs.Found.{kind_of}
use Rattle.lexical.specs.Piece.{Piece, Kind}
use Rattle.lexical.specs.Walk.{IsNext}
use Rattle.lexical.specs.declared.walk.PlacedPiece.{PlacedPiece}
use Rattle.lexical.specs.declared.walk.PieceWalk.{PieceWalk}
use Rattle.pm_c.specs.Pieces.{AreAllPieces, kind_numbers, piece_record, piece_records}
use Rattle.pm_c.specs.declared.records.PmPiece.{PmPiece}

-- a piece, and then all pieces after it, are all pieces
pub all_from : (at : PieceWalk) (next : PlacedPiece) (to : PieceWalk) (more : List Piece) (rest : List ℕ)
    → IsNext at next to → AreAllPieces to.at_front (chars to.rest.now) more rest
    → AreAllPieces at.at_front (chars at.rest.now)
    ((kind_of next.piece.kind (chars next.text.now), chars next.text.now) ∷ more) rest
all_from at next to more rest step are = (
  chars to.rest.now,
  step.whole,
  step.stands,
  subst (λ first. AreAllPieces first (chars to.rest.now) more rest) step.front_after are,
)

-- one more record is appended
pub one_more : (old new whole : List PmPiece) (record_ : PmPiece) (at to : ℕ) (text words : List ℕ) (kind : Kind)
    (more : List Piece) → encode_utf8_all words ≡ text → record_ ≡ piece_record at kind text
    → to ≡ at + length text → new ≡ old ++ record_ ∷ []
    → old ++ piece_records at ((kind, words) ∷ more) ≡ whole → new ++ piece_records to more ≡ whole
one_more old new whole record_ at to text words kind more spelled is moved grown all =
    let inner : record_ ∷ piece_records to more ≡ piece_records at ((kind, words) ∷ more) =
    rw (is, moved, spelled) refl in
    ap (λ l. l ++ piece_records to more) grown
    ∙ append_assoc old (record_ ∷ []) (piece_records to more) ∙ ap (λ l. old ++ l) inner ∙ all

-- the record of a piece has its numbers, its byte offset and its length
pub record_is : (numbers : ℕ × ℕ) (start offset count : ℕ) (kind : Kind) (text : List ℕ)
    → numbers ≡ kind_numbers kind text → start ≡ offset → count ≡ length text
    → record { kind = numbers.0; detail = numbers.1; start = start; count = count } ≡ piece_record offset kind text
record_is numbers start offset count kind text same at size = rw (same, at, size) refl
