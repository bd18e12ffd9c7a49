-- What the steps of the lexer return, compared with what the finders find.
use Rattle.std.specs.Prelude.{ℕ, ◌≡◌, ◌+◌, List, length, Option, Some, None, MatchOption}
use Rattle.std.specs.Str.{chars}
use Rattle.lexical.specs.Found.{kind_of, LendsText}
use Rattle.lexical.specs.Piece.{Kind}
use Rattle.lexical.specs.PieceFinder.{Found}
use Rattle.lexical.specs.declared.cursor.TextCursor.{TextCursor}
use Rattle.lexical.specs.declared.piece.PieceKind.{PieceKind}

-- whether the result is the kind that was found for the comment p, and `None` if none was found
abbrev pub Tells : Option Kind → List ℕ → Option PieceKind → Type 0
Tells answer p result = MatchOption result (answer ≡ None) (λ kind. (answer ≡ Some (kind_of kind p)) × LendsText kind)

-- whether the result is the piece that was found: its kind, and the cursor after it
pub record IsFound (answer : Found) (at : TextCursor) (x : PieceKind × TextCursor) : Type 0 where
  pub front : List ℕ
  pub found : answer ≡ Some (kind_of x.0 front, front, chars x.1.rest.now)
  pub count : x.1.chars_before ≡ at.chars_before + length front
  pub lends : LendsText x.0

-- whether the step returns the piece that was found, and `None` if none was found
abbrev pub Answers : Found → TextCursor → Option (PieceKind × TextCursor) → Type 0
Answers answer at result = MatchOption result (answer ≡ None) (IsFound answer at)
