-- The pieces of a text, each with its style.
use Rattle.std.specs.Prelude.{ℕ, ◌≡◌, ◌-◌, Bool, true, false, ◌==◌, List, [], ◌∷◌, ◌++◌, Option, Some, None}
use Rattle.std.specs.Prelude.{drop, if◌then◌else◌, take}
use Rattle.std.specs.Str.{encode_utf8_all}
use Rattle.lexical.specs.Token as tokens
use Rattle.lexical.specs.Token.{Token}
use Rattle.lexical.specs.Piece as pieces
use Rattle.lexical.specs.Piece.{Piece, Kind, IsPiece, HasNoPiece}
use Rattle.pm_span.specs.Files.{new_map, next_lo}
use Rattle.explain.specs.declared.explained.Explained.{Explained}
use Rattle.explain.specs.declared.explained.Stretch.{Stretch}
use Rattle.explain.specs.declared.reason.Reason.{Reason}
use Rattle.highlight.specs.Mark.{Mark, Styled, Faulty}
use Rattle.highlight.specs.Style.{kind_style}
use Rattle.highlight.specs.Delimiters.{delimiter_styles}
use Rattle.highlight.specs.declared.style.Style.{Style}
use Rattle.highlight.specs.declared.style.Style.TheVariants as styles

-- the source consists of these pieces and then of `rest`, at which no piece begins
abbrev pub AreAllPieces : Bool → List ℕ → List Piece → List ℕ → Type 0
AreAllPieces first source [] rest = (source ≡ rest) × HasNoPiece first rest
AreAllPieces first source (piece ∷ more) rest =
    (after : List ℕ) × (source ≡ piece.1 ++ after) × IsPiece first piece.0 piece.1 after
    × AreAllPieces false after more rest

-- a mark, and the bytes that it marks
abbrev pub Shown : Type 0
Shown = Mark × List ℕ

-- whether the piece is the mark `'` (39)
abbrev pub is_quote : Kind → Bool
is_quote pieces.FrontMark = false
is_quote pieces.Gap = false
is_quote (pieces.Doc inner words) = false
is_quote (pieces.Open c) = false
is_quote (pieces.Close c) = false
is_quote (pieces.Leaf (tokens.Name raw name)) = false
is_quote (pieces.Leaf (tokens.Mark c joint)) = c == 39
is_quote (pieces.Leaf (tokens.Literal text)) = false

-- the style of the next delimiter
abbrev pub next_style : List Style → Style
next_style [] = styles.Unclosed
next_style (style ∷ more) = style

abbrev pub more_styles : List Style → List Style
more_styles [] = []
more_styles (style ∷ more) = more

-- the style of a token; `quote` says that it follows `'`, so that a name belongs to a lifetime
abbrev pub style_after : Bool → Token → List ℕ → Style
style_after true (tokens.Name raw name) text = styles.Lifetime
style_after false (tokens.Name raw name) text = kind_style (pieces.Leaf (tokens.Name raw name)) text
style_after quote (tokens.Mark c joint) text = kind_style (pieces.Leaf (tokens.Mark c joint)) text
style_after quote (tokens.Literal whole) text = kind_style (pieces.Leaf (tokens.Literal whole)) text

-- the style of a piece; `delimiters` has the styles of the delimiters from it on
abbrev pub piece_style : List Style → Bool → Kind → List ℕ → Style
piece_style delimiters quote pieces.FrontMark text = kind_style pieces.FrontMark text
piece_style delimiters quote pieces.Gap text = kind_style pieces.Gap text
piece_style delimiters quote (pieces.Doc inner words) text = kind_style (pieces.Doc inner words) text
piece_style delimiters quote (pieces.Open c) text = next_style delimiters
piece_style delimiters quote (pieces.Close c) text = next_style delimiters
piece_style delimiters quote (pieces.Leaf token) text = style_after quote token text

-- the styles of the delimiters after a piece
abbrev pub styles_left : List Style → Kind → List Style
styles_left delimiters pieces.FrontMark = delimiters
styles_left delimiters pieces.Gap = delimiters
styles_left delimiters (pieces.Doc inner words) = delimiters
styles_left delimiters (pieces.Open c) = more_styles delimiters
styles_left delimiters (pieces.Close c) = more_styles delimiters
styles_left delimiters (pieces.Leaf token) = delimiters

-- the position of a text's first character
abbrev pub first_position : ℕ
first_position = next_lo new_map

-- what is marked for an error: the part that is wrong or, if that is empty, as at the end of a text, the part before it
abbrev pub fault_of : Explained → Stretch
fault_of x = if x.at.start == x.at.end then x.before else x.at

-- the parts of a text in which `size` characters are wrong after the first `before` ones; the others are not read
abbrev pub faulty : Reason → ℕ → ℕ → List ℕ → List Shown
faulty reason before size text =
    (Styled styles.Unread, encode_utf8_all (take before text))
    ∷ (Faulty reason, encode_utf8_all (take size (drop before text)))
    ∷ (Styled styles.Unread, encode_utf8_all (drop size (drop before text))) ∷ []

-- the parts of a text of which only the first character is marked, without a reason
abbrev pub stuck : List ℕ → List Shown
stuck [] = []
stuck (c ∷ rest) =
    (Styled styles.NoPiece, encode_utf8_all (c ∷ [])) ∷ (Styled styles.Unread, encode_utf8_all rest) ∷ []

-- the parts of the rest, at which no piece begins: by the reason why it doesn't parse, if this is about its start
abbrev pub unread : Option Explained → List ℕ → List Shown
unread None rest = stuck rest
unread (Some x) rest =
    if x.before.start == 0
    then faulty x.reason ((fault_of x).span.lo - first_position) ((fault_of x).span.hi - (fault_of x).span.lo) rest
    else stuck rest

-- the pieces and the parts of the rest, each with its mark
abbrev pub shown_from : Option Explained → List Style → Bool → List Piece → List ℕ → List Shown
shown_from answer delimiters quote [] rest = unread answer rest
shown_from answer delimiters quote (piece ∷ more) rest =
    (Styled (piece_style delimiters quote piece.0 (encode_utf8_all piece.1)), encode_utf8_all piece.1)
    ∷ shown_from answer (styles_left delimiters piece.0) (is_quote piece.0) more rest

abbrev pub is_nil : List ℕ → Bool
is_nil [] = true
is_nil (c ∷ rest) = false

abbrev pub all_shown : Option Explained → List Piece → List ℕ → List Shown
all_shown answer all rest = shown_from answer (delimiter_styles (is_nil rest) [] [] all) false all rest
