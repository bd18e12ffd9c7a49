-- The pieces of a text as records.
use Rattle.std.specs.Prelude.{ℕ, Bool, true, false, ◌≡◌, ◌+◌, ◌==◌, if◌then◌else◌, List, [], ◌∷◌, ◌++◌, length}
use Rattle.std.specs.Str.{chars, encode_utf8_all}
use Rattle.lexical.specs.Token as tokens
use Rattle.lexical.specs.Piece as pieces
use Rattle.lexical.specs.Piece.{Piece, Kind, IsPiece, HasNoPiece}
use Rattle.pm_c.specs.declared.records.PmPiece.{PmPiece}

-- the source consists of these pieces and then of `rest`, at which no piece begins
abbrev pub AreAllPieces : Bool → List ℕ → List Piece → List ℕ → Type 0
AreAllPieces first source [] rest = (source ≡ rest) × HasNoPiece first rest
AreAllPieces first source (piece ∷ more) rest =
    (after : List ℕ) × (source ≡ piece.1 ++ after) × IsPiece first piece.0 piece.1 after
    × AreAllPieces false after more rest

-- the number of a gap: 2 for a comment, which begins with `/` (47), and 1 for a white character
abbrev pub gap_number : List ℕ → ℕ
gap_number [] = 1
gap_number (c ∷ text) = if c == 47 then 2 else 1

abbrev pub flag_number : Bool → ℕ
flag_number true = 1
flag_number false = 0

-- the number of the kind of piece, and the detail of its record
abbrev pub kind_numbers : Kind → List ℕ → ℕ × ℕ
kind_numbers pieces.FrontMark text = (0, 0)
kind_numbers pieces.Gap text = (gap_number text, 0)
kind_numbers (pieces.Doc inner words) text = (3, flag_number inner)
kind_numbers (pieces.Open c) text = (4, 0)
kind_numbers (pieces.Close c) text = (5, 0)
kind_numbers (pieces.Leaf (tokens.Literal whole)) text = (6, 0)
kind_numbers (pieces.Leaf (tokens.Mark mark joint)) text = (7, flag_number joint)
kind_numbers (pieces.Leaf (tokens.Name raw name)) text = (8, flag_number raw)

-- the record of a piece of this kind, with these bytes, which begins at this byte offset
abbrev pub piece_record : ℕ → Kind → List ℕ → PmPiece
piece_record start kind text = record {
  kind = (kind_numbers kind text).0;
  detail = (kind_numbers kind text).1;
  start = start;
  count = length text;
}

-- the records of consecutive pieces, of which the first begins at this byte offset
abbrev pub piece_records : ℕ → List Piece → List PmPiece
piece_records start [] = []
piece_records start (piece ∷ more) =
    let text = encode_utf8_all piece.1 in
    piece_record start piece.0 text ∷ piece_records (start + length text) more

-- the records are those of all pieces of the text, which have `covered` bytes; the pieces cover the text exactly if
-- those are all of its bytes
pub record ListsPieces (text : List ℕ) (listed : List PmPiece) (covered : ℕ) : Type 0 where
  pub all : List Piece
  pub rest : List ℕ
  pub are : AreAllPieces true (chars text) all rest
  pub records : listed ≡ piece_records 0 all
  pub bytes : covered + length (encode_utf8_all rest) ≡ length text
