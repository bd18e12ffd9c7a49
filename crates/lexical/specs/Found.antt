-- What the results of the lexer mean.
use Rattle.std.specs.Prelude.{ℕ, Bool, ◌≡◌, List, ◌++◌, length}
use Rattle.std.specs.Str.{chars, IsUtf8, encode_utf8_all}
use Rattle.lexical.specs.Form.{Form}
use Rattle.lexical.specs.Token as tokens
use Rattle.lexical.specs.Piece as pieces
use Rattle.lexical.specs.declared.piece.PieceKind.{PieceKind}
use Rattle.lexical.specs.declared.piece.PieceKind.TheVariants.{FrontMark, Gap, Doc, Opener, Closer, Literal, Mark, Name}
use Rattle.lexical.specs.declared.piece.Piece.{Piece}

-- the kind of the grammar for the kind that the lexer returns with the piece p
abbrev pub kind_of : PieceKind → List ℕ → pieces.Kind
kind_of FrontMark p = pieces.FrontMark
kind_of Gap p = pieces.Gap
kind_of (Doc inner text) p = pieces.Doc inner (chars text.now)
kind_of (Opener c) p = pieces.Open c
kind_of (Closer c) p = pieces.Close c
kind_of Literal p = pieces.Leaf (tokens.Literal p)
kind_of (Mark joint mark) p = pieces.Leaf (tokens.Mark mark joint)
kind_of (Name raw name) p = pieces.Leaf (tokens.Name raw (chars name.now))

-- whether the text in the kind is valid UTF-8, if it has one
abbrev pub LendsText : PieceKind → Type 0
LendsText FrontMark = Unit {0}
LendsText Gap = Unit {0}
LendsText (Doc inner text) = IsUtf8 text.now
LendsText (Opener c) = Unit {0}
LendsText (Closer c) = Unit {0}
LendsText Literal = Unit {0}
LendsText (Mark joint mark) = Unit {0}
LendsText (Name raw name) = IsUtf8 name.now

-- whether the piece is at the start of the text, with its numbers of bytes and characters
pub record IsPieceAt (first : Bool) (text : List ℕ) (piece : Piece) : Type 0 where
  pub front : List ℕ
  pub rest : List ℕ
  pub whole : text ≡ front ++ rest
  pub stands : pieces.IsPiece first (kind_of piece.kind front) front rest
  pub bytes : piece.bytes ≡ length (encode_utf8_all front)
  pub chars : piece.chars ≡ length front
  pub lends : LendsText piece.kind

-- whether a piece of the form is at the start of the text and has this many bytes
pub record IsAt (A : Form) (text : List ℕ) (bytes : ℕ) : Type 0 where
  pub front : List ℕ
  pub rest : List ℕ
  pub whole : text ≡ front ++ rest
  pub stands : A front rest
  pub size : bytes ≡ length (encode_utf8_all front)
