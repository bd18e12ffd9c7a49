-- The pieces of the grammar. `p` is a piece of text, and `r` is all the text after it in the source.
use Rattle.std.specs.Prelude.{ℕ, Bool, ◌≡◌, ◌⊎◌, List, [], ◌∷◌, ◌++◌, IsTrue}
use Rattle.lexical.specs.Form.{Form}
use Rattle.lexical.specs.Token.{Token, Name, Mark, Literal, token_text}
use Rattle.lexical.specs.Identifier as identifiers
use Rattle.lexical.specs.Literal as literals
use Rattle.lexical.specs.Mark as marks
use Rattle.lexical.specs.Delimiter.{Opener, Closer}
use Rattle.lexical.specs.FrontMark as fronts
use Rattle.lexical.specs.Comment as comments
use Rattle.lexical.specs.Gap as gaps

-- the kind of a piece
pub data Kind : Type 0 where
  -- the byte order mark U+FEFF at the start of a source
  FrontMark : Kind
  -- a gap
  Gap : Kind
  -- a doc comment: whether it is an inner one, and its text
  Doc : Bool → List ℕ → Kind
  -- an opener by its character
  Open : ℕ → Kind
  -- a closer by its character
  Close : ℕ → Kind
  -- a token
  Leaf : Token → Kind

-- the kind of a piece, and its text
abbrev pub Piece : Type 0
Piece = Kind × List ℕ

-- whether the token can be in a source right before r
abbrev pub Stands : Token → List ℕ → Type 0
Stands (Name raw name) r = identifiers.Identifier raw name r
Stands (Mark c joint) r =
    (marks.Mark (c ∷ []) r × (joint ≡ marks.joint_before r))
    ⊎ (marks.LoneQuote (c ∷ []) r × IsTrue joint)
Stands (Literal text) r = literals.AnyLiteral text r

-- whether p is a piece of this kind right before r. `first` says whether p begins at byte offset 0
abbrev pub IsPiece : Bool → Kind → Form
IsPiece first FrontMark = fronts.FrontMark first
IsPiece first Gap = gaps.Gap
IsPiece first (Doc inner text) = comments.Doc inner text
IsPiece first (Open c) = Opener c
IsPiece first (Close c) = Closer c
IsPiece first (Leaf token) = λ p r. (p ≡ token_text token) × Stands token r

-- whether no piece is at the start of the text
abbrev pub HasNoPiece : Bool → List ℕ → Type 0
HasNoPiece first text = (kind : Kind) (p r : List ℕ) → text ≡ p ++ r → IsPiece first kind p r → ⊥
