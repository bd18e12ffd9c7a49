-- The words of a text that are compared: its tokens and, if wanted, its comments.
use Rattle.std.specs.Prelude.{ℕ, ◌≡◌, ◌+◌, ◌*◌, Bool, true, false, List, [], ◌∷◌, codes, length, if◌then◌else◌}
use Rattle.std.specs.Str.{chars}
use Rattle.lexical.specs.Cover.{onto, StandBefore}
use Rattle.lexical.specs.Piece as pieces
use Rattle.lexical.specs.Piece.{Kind, Piece}
use Rattle.lexical.specs.Text.{begins_with}
use Rattle.lexical.specs.declared.walk.PieceWalk.{PieceWalk}
use Rattle.pm_stream.specs.Delimited.{delimiter_of}
use Rattle.pm_stream.specs.Events.{Event, One, Opens, Closes}
use Rattle.same.specs.SourceWord.{Comment, Placed, Token, doc_from, doc_left, first_step, steps_left, word_of}
use Rattle.same.specs.declared.source_word.SourceWord.{SourceWord}
use Rattle.same.specs.declared.words.Words.{Words}

-- the tokens as words that all come from `here`, and then `more`
abbrev pub placed_onto : List Event → List ℕ → List Placed → List Placed
placed_onto [] here more = more
placed_onto (event ∷ events) here more = (Token event, here) ∷ placed_onto events here more

-- ---- the words of pieces

-- the words of a piece, where `here` is the text from the piece on, and then `more`
abbrev pub piece_words : Bool → Kind → List ℕ → List ℕ → List Placed → List Placed
piece_words comments pieces.FrontMark p here more = more
piece_words false pieces.Gap p here more = more
piece_words true pieces.Gap p here more = if begins_with (codes "/") p then (Comment p, here) ∷ more else more
piece_words false (pieces.Doc inner text) p here more = placed_onto (doc_from (first_step inner) text) here more
piece_words true (pieces.Doc inner text) p here more = (Comment p, here) ∷ more
piece_words comments (pieces.Open c) p here more = (Token (Opens (delimiter_of c) 0), here) ∷ more
piece_words comments (pieces.Close c) p here more = (Token (Closes (delimiter_of c) 0), here) ∷ more
piece_words comments (pieces.Leaf token) p here more = (Token (One token 0 0), here) ∷ more

-- the words of pieces that cover a text
abbrev pub words : Bool → List Piece → List Placed
words comments [] = []
words comments (x ∷ xs) = piece_words comments x.0 x.1 (onto (x ∷ xs) []) (words comments xs)

-- ---- the words that are left

-- the pieces cover what is left for the walk
abbrev pub Covers : PieceWalk → List Piece → Type 0
Covers walk xs = (chars walk.rest.now ≡ onto xs []) × StandBefore walk.at_front xs []

abbrev pub words_left : Words → List Piece → List Placed
words_left left xs =
    placed_onto (doc_left left.step (chars left.doc.now)) (chars left.here.now) (words left.comments xs)

-- the word is the first that is left, at the new `here`, and the words after it are those that are left then
pub record ComesFirst (old : Words) (source_word : SourceWord) (new : Words) (xs : List Piece) : Type 0 where
  pub more : List Piece
  pub covers : Covers new.walk more
  pub first : words_left old xs ≡ (word_of source_word, chars new.here.now) ∷ words_left new more

-- a bound that each word makes smaller
abbrev pub size : Words → ℕ
size left = 8 * length left.walk.rest.now + steps_left left.step
