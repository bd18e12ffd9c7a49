-- Which delimiters match each other, and the style of each.
use Rattle.std.specs.Prelude.{ℕ, Bool, ◌==◌, List, [], ◌∷◌, ◌++◌, length, if◌then◌else◌, slice_set}
use Rattle.lexical.specs.Piece as pieces
use Rattle.lexical.specs.Piece.{Piece, Kind}
use Rattle.highlight.specs.declared.style.Style.{Style}
use Rattle.highlight.specs.declared.style.Style.TheVariants.{Delimiter, StrayCloser, Unclosed}

-- an opener that no closer has matched yet: the closer for which it waits, and the number of delimiters before it
pub record Waiting : Type 0 where
  pub closer : ℕ
  pub index : ℕ

-- the closer of an opener, where `(` is 40 and `[` is 91
abbrev pub closer_of : ℕ → ℕ
closer_of c = if c == 40 then 41 else (if c == 91 then 93 else 125)

-- the innermost opener that waits for this closer, and the openers around it; none if no opener waits for it
abbrev pub from_match : ℕ → List Waiting → List Waiting
from_match closer [] = []
from_match closer (opener ∷ around) = if opener.closer == closer then opener ∷ around else from_match closer around

-- the styles of the delimiters so far and of a closer, which matches the first of the openers, if there are any
abbrev pub close_delimiter : List Style → List Waiting → List Style
close_delimiter styles [] = styles ++ StrayCloser ∷ []
close_delimiter styles (opener ∷ around) =
    slice_set styles opener.index (Delimiter (length around)) ++ Delimiter (length around) ∷ []

-- the openers that still wait after a closer
abbrev pub still_waiting : List Waiting → List Waiting → List Waiting
still_waiting all [] = all
still_waiting all (opener ∷ around) = around

-- the styles if the text was not read to its end: the openers that wait may be closed later, so they count as closed
abbrev pub spare : List Style → List Waiting → List Style
spare styles [] = styles
spare styles (opener ∷ around) = spare (slice_set styles opener.index (Delimiter (length around))) around

-- the styles of the delimiters after one more piece: an opener is `Unclosed` until a closer matches it
abbrev pub styles_past : Kind → List Style → List Waiting → List Style
styles_past pieces.FrontMark styles waiting = styles
styles_past pieces.Gap styles waiting = styles
styles_past (pieces.Doc inner words) styles waiting = styles
styles_past (pieces.Open c) styles waiting = styles ++ Unclosed ∷ []
styles_past (pieces.Close c) styles waiting = close_delimiter styles (from_match c waiting)
styles_past (pieces.Leaf token) styles waiting = styles

-- the openers that wait after one more piece: a closer removes the opener that it matches and the openers inside it
abbrev pub waiting_past : Kind → List Style → List Waiting → List Waiting
waiting_past pieces.FrontMark styles waiting = waiting
waiting_past pieces.Gap styles waiting = waiting
waiting_past (pieces.Doc inner words) styles waiting = waiting
waiting_past (pieces.Open c) styles waiting = record { closer = closer_of c; index = length styles } ∷ waiting
waiting_past (pieces.Close c) styles waiting = still_waiting waiting (from_match c waiting)
waiting_past (pieces.Leaf token) styles waiting = waiting

-- the styles of all delimiters, in order; `whole` says that the pieces are all of the text
abbrev pub delimiter_styles : Bool → List Style → List Waiting → List Piece → List Style
delimiter_styles whole styles waiting [] = if whole then styles else spare styles waiting
delimiter_styles whole styles waiting (piece ∷ more) =
    delimiter_styles whole (styles_past piece.0 styles waiting) (waiting_past piece.0 styles waiting) more
