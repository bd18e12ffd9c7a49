-- What is reported about the hidden text of a source.
use Rattle.std.specs.Prelude.{ℕ, Bool, true, false, ◌&&◌, ◌==◌, List, [], ◌∷◌, ◌++◌, Option}
use Rattle.std.specs.Prelude.{Some, None, codes}
use Rattle.std.specs.Prelude.{if◌then◌else◌}
use Rattle.lexical.specs.Cover.{CoversUpTo}
use Rattle.lexical.specs.Piece as pieces
use Rattle.lexical.specs.Piece.{Piece, Kind, HasNoPiece}
use Rattle.lexical.specs.Token as tokens
use Rattle.pm_stream.specs.Parsing.{is_first}
use Rattle.rust_check.specs.Hidden.{hides_as}
use Rattle.rust_check.specs.LineEnds.{found_in_ends}
use Rattle.rust_check.specs.Message.{Found}
use Rattle.rust_check.specs.Names.{found_by_kind, names_after}
use Rattle.rust_check.specs.TextPosition.{front, places_after}
use Rattle.rust_check.specs.Telling.{Tells, found_along}
use Rattle.rust_check.specs.Turns.{is_balanced}
use Rattle.rust_check.specs.declared.finding.TextPosition.{TextPosition}
use Rattle.rust_check.specs.declared.hidden.Hidden.{Hidden}
use Rattle.rust_check.specs.declared.hidden.Hidden.TheVariants.{Direction, Joiner, Invisible, Control, White}
use Rattle.rust_check.specs.declared.options.Form.{Form}

-- ---- one character

abbrev pub name_of_hidden : Bool → Hidden → List ℕ
name_of_hidden true Direction = codes "direction-control"
name_of_hidden false Direction = codes "unbalanced-direction-control"
name_of_hidden balanced Joiner = codes "joining-character"
name_of_hidden balanced Invisible = codes "invisible-character"
name_of_hidden balanced Control = codes "control-character"
name_of_hidden balanced White = codes "odd-white-space"

abbrev pub says_of_hidden : Bool → Hidden → List ℕ
says_of_hidden true Direction = codes "a control of the text's direction"
says_of_hidden false Direction = codes "a control of the text's direction, on a line where they are not balanced"
says_of_hidden balanced Joiner = codes "a character that joins its neighbours or keeps them apart"
says_of_hidden balanced Invisible = codes "a character that nobody sees"
says_of_hidden balanced Control = codes "a control character"
says_of_hidden balanced White = codes "white space that is no space, tab or line end"

-- the finding for the hidden character at this place
abbrev pub found_one : Bool → TextPosition → Hidden → ℕ → Found
found_one balanced place hidden c = record {
  name = name_of_hidden balanced hidden;
  says = says_of_hidden balanced hidden;
  line = place.line;
  column = place.column;
  begin = place.begin;
  front = [];
  here = c ∷ [];
  rest = [];
}

-- whether a hidden character is not reported: white space in a literal, and U+FEFF at the start of the text
abbrev pub is_spared : Bool → TextPosition → ℕ → Hidden → Bool
is_spared literal place c White = literal
is_spared literal place c Invisible = (c == 0xFEFF) && (place.begin == 0)
is_spared literal place c Direction = false
is_spared literal place c Joiner = false
is_spared literal place c Control = false

abbrev pub found_hidden : Bool → Bool → TextPosition → ℕ → Option Hidden → List Found
found_hidden literal balanced place c None = []
found_hidden literal balanced place c (Some hidden) =
    if is_spared literal place c hidden then [] else found_one balanced place hidden c ∷ []

-- what is found at a character; `literal` says whether it is in a literal, and `balanced` whether the controls of
-- direction are balanced on its line
abbrev pub found_at_character : Bool → Bool → TextPosition → ℕ → List Found
found_at_character literal balanced place c = found_hidden literal balanced place c (hides_as c)

-- ---- one piece

-- whether the controls of direction are balanced on the line on which the text after this character begins
abbrev pub balanced_after : Bool → ℕ → List ℕ → Bool
balanced_after balanced c rest = if c == 10 then is_balanced rest else balanced

-- what is found at the characters of a piece; controls of direction are balanced or not within the piece's part of a
-- line
abbrev pub found_in_piece : Bool → TextPosition → List ℕ → List Found
found_in_piece literal place text =
    found_along (λ balanced at c rest. found_at_character literal balanced at c) balanced_after (is_balanced text)
    place text

-- ---- the whole text

abbrev pub is_literal : Kind → Bool
is_literal (pieces.Leaf (tokens.Literal text)) = true
is_literal _ = false

-- what is found in the pieces and in what follows the last: what is odd about each name, and its hidden characters;
-- `before` has the names before the pieces, the last first
abbrev pub found_in_pieces : TextPosition → List (List ℕ) → List Piece → List ℕ → List Found
found_in_pieces place before [] rest = found_in_piece false place rest
found_in_pieces place before (piece ∷ more) rest =
    found_by_kind place before piece.0 piece.1
    ++ (found_in_piece (is_literal piece.0) place piece.1
    ++ found_in_pieces (places_after place piece.1) (names_after before piece.0) more rest)

-- the text consists of these pieces and then of `rest`, at which no piece begins
pub record ArePieces (all : List Piece) (text rest : List ℕ) : Type 0 where
  pub covers : CoversUpTo all text rest
  pub none : HasNoPiece (is_first all) rest

-- each hidden character and odd name in the text's pieces is written, and each hidden character of what follows the
-- last piece
pub record TellsPieces (form : Form) (path text : List ℕ) (old new : Option (List ℕ)) (before after : Bool)
    : Type 0 where
  pub all : List Piece
  pub rest : List ℕ
  pub are : ArePieces all text rest
  pub tells : Tells form path (found_in_pieces front [] all rest) old new before after

-- what is hidden in the text's pieces is written, and then what is odd about its line ends
pub record TellsHidden (form : Form) (path text : List ℕ) (old new : Option (List ℕ)) (found : Bool) : Type 0 where
  pub all : List Piece
  pub rest : List ℕ
  pub are : ArePieces all text rest
  pub tells : Tells form path (found_in_pieces front [] all rest ++ found_in_ends front text) old new false found
