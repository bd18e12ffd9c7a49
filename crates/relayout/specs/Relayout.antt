-- Texts whose white space becomes other white space.
use Rattle.std.specs.Prelude.{ℕ, Bool, true, false, not, ◌&&◌, ◌||◌, ◌==◌, ◌≡◌, List, [], ◌∷◌, IsTrue, codes}
use Rattle.std.specs.List.{list_all}
use Rattle.lexical.specs.Class.{is_white}
use Rattle.lexical.specs.Text.{begins_with}
use Rattle.lexical.specs.Piece.{Kind, Piece, Gap, Doc}

-- ---- pieces with the white space between them

-- the white characters before a piece, and the piece, which is not a white character
abbrev pub Spaced : Type 0
Spaced = List ℕ × Piece

-- the pieces of white characters, one gap for each character, and then more pieces
abbrev pub white_pieces : List ℕ → List Piece → List Piece
white_pieces [] pieces = pieces
white_pieces (c ∷ white) pieces = (Gap, c ∷ []) ∷ white_pieces white pieces

-- all pieces of a text that ends with the white characters `last`
abbrev pub pieces_of : List Spaced → List ℕ → List Piece
pieces_of [] last = white_pieces last []
pieces_of (x ∷ xs) last = white_pieces x.0 (x.1 ∷ pieces_of xs last)

-- all characters are white; there may be none
abbrev pub AllWhite : List ℕ → Type 0
AllWhite white = IsTrue (list_all is_white white)

-- ---- the change of white space

-- whether a piece of this kind can be a comment
abbrev pub may_comment : Kind → Bool
may_comment Gap = true
may_comment (Doc inner text) = true
may_comment _ = false

-- whether the piece is a line comment, also a doc comment
abbrev pub is_line : Piece → Bool
is_line piece = may_comment piece.0 && begins_with (codes "//") piece.1

-- whether the white characters may become others: both runs are empty or neither is, and after a line comment (`line`)
-- the new run begins with LF
abbrev pub may_become : Bool → List ℕ → List ℕ → Bool
may_become line [] [] = true
may_become line [] (c ∷ new) = false
may_become line (d ∷ old) [] = false
may_become line (d ∷ old) (c ∷ new) =
    list_all is_white (d ∷ old) && (list_all is_white (c ∷ new) && (not line || (c == 10)))

-- both have the same pieces, and each run of white characters may become the other one
abbrev pub Becomes : Bool → List Spaced → List ℕ → List Spaced → List ℕ → Type 0
Becomes line [] old [] new = IsTrue (may_become line old new)
Becomes line [] old (y ∷ ys) new = ⊥
Becomes line (x ∷ xs) old [] new = ⊥
Becomes line (x ∷ xs) old (y ∷ ys) new =
    (x.1 ≡ y.1) × IsTrue (may_become line x.0 y.0) × Becomes (is_line x.1) xs old ys new
