-- How pieces are shown: the style of a piece by its kind and its bytes, and the class and colour of each style.
use Rattle.std.specs.Prelude.{ℕ, ◌%◌, Bool, true, false, ◌==◌, ◌||◌, ◌&&◌, List, [], ◌∷◌, codes}
use Rattle.std.specs.Prelude.{nat_eq, nat_le, if◌then◌else◌, slice_index}
use Rattle.std.specs.List.{list_any}
use lib.Pointwise.{pointwise}
use Rattle.lexical.specs.Token as tokens
use Rattle.lexical.specs.Token.{Token}
use Rattle.lexical.specs.Piece as pieces
use Rattle.lexical.specs.Piece.{Kind}
use Rattle.highlight.specs.declared.style.Style.{Style}
use Rattle.highlight.specs.declared.style.Style.TheVariants as styles

-- ---- the style of a piece that is not a delimiter

-- the words that are names only if they are raw
abbrev pub keywords : List (List ℕ)
keywords =
    codes "Self" ∷ codes "abstract" ∷ codes "as" ∷ codes "async" ∷ codes "await" ∷ codes "become" ∷ codes "box"
    ∷ codes "break" ∷ codes "const" ∷ codes "continue" ∷ codes "crate" ∷ codes "do" ∷ codes "dyn" ∷ codes "else"
    ∷ codes "enum" ∷ codes "extern" ∷ codes "false" ∷ codes "final" ∷ codes "fn" ∷ codes "for" ∷ codes "gen"
    ∷ codes "if" ∷ codes "impl" ∷ codes "in" ∷ codes "let" ∷ codes "loop" ∷ codes "macro" ∷ codes "match"
    ∷ codes "mod" ∷ codes "move" ∷ codes "mut" ∷ codes "override" ∷ codes "priv" ∷ codes "pub" ∷ codes "ref"
    ∷ codes "return" ∷ codes "self" ∷ codes "static" ∷ codes "struct" ∷ codes "super" ∷ codes "trait"
    ∷ codes "true" ∷ codes "try" ∷ codes "type" ∷ codes "typeof" ∷ codes "unsafe" ∷ codes "unsized" ∷ codes "use"
    ∷ codes "virtual" ∷ codes "where" ∷ codes "while" ∷ codes "yield" ∷ []

unfoldable pub is_keyword : List ℕ → Bool
is_keyword text = list_any (λ word. pointwise nat_eq word text) keywords

-- the style of a name, by its text
abbrev pub name_style : Bool → List ℕ → Style
name_style raw text = if raw then styles.RawName else (if is_keyword text then styles.Keyword else styles.Name)

-- the style of a gap; a comment begins with `/` (47), which white space does not
abbrev pub gap_style : List ℕ → Style
gap_style text =
    if slice_index text 0 == 47
    then (if slice_index text 1 == 47 then styles.LineComment else styles.BlockComment)
    else styles.Bare

abbrev pub is_digit : ℕ → Bool
is_digit c = nat_le 48 c && nat_le c 57

-- whether an exponent follows the `e` of a number: a digit, perhaps after signs (43, 45) and `_` (95)
abbrev pub has_exponent : List ℕ → Bool
has_exponent [] = false
has_exponent (c ∷ rest) = if is_digit c then true else
    (if (c == 43 || c == 45) || c == 95 then has_exponent rest else false)

-- whether a number has a dot (46), or an `e` (101, 69) with an exponent, after its digits and `_`
abbrev pub is_float : List ℕ → Bool
is_float [] = false
is_float (c ∷ rest) =
    if is_digit c || c == 95 then is_float rest
    else (if c == 46 then true else (if c == 101 || c == 69 then has_exponent rest else false))

-- the style of a literal, by its first character: `"` (34), `r` (114), `b` (98), `c` (99), `'` (39), `(` (40), or a
-- digit
abbrev pub literal_style : List ℕ → Style
literal_style text =
    if slice_index text 0 == 34 then styles.Str
    else (if slice_index text 0 == 114 then styles.RawStr
    else (if slice_index text 0 == 98 then (if slice_index text 1 == 39 then styles.Byte else styles.ByteStr)
    else (if slice_index text 0 == 99 then styles.CStr
    else (if slice_index text 0 == 39 then styles.Character
    else (if slice_index text 0 == 40 then styles.ErrorLiteral
    else (if is_float text then styles.Float else styles.Integer))))))

-- the style of a token; the mark `'` (39) belongs to a lifetime
abbrev pub token_style : Token → List ℕ → Style
token_style (tokens.Name raw name) text = name_style raw text
token_style (tokens.Mark c joint) text = if c == 39 then styles.Lifetime else styles.Mark
token_style (tokens.Literal whole) text = literal_style text

abbrev pub kind_style : Kind → List ℕ → Style
kind_style pieces.FrontMark text = styles.Bare
kind_style pieces.Gap text = gap_style text
kind_style (pieces.Doc inner words) text = styles.Doc
kind_style (pieces.Open c) text = styles.Unclosed
kind_style (pieces.Close c) text = styles.StrayCloser
kind_style (pieces.Leaf token) text = token_style token text

-- ---- classes and colours

-- the class of a delimiter, which repeats every six levels
abbrev pub depth_class : ℕ → List ℕ
depth_class depth =
    if depth % 6 == 0 then codes "d0" else (if depth % 6 == 1 then codes "d1" else (if depth % 6 == 2 then codes "d2"
    else (if depth % 6 == 3 then codes "d3" else (if depth % 6 == 4 then codes "d4" else codes "d5"))))

abbrev pub depth_colour : ℕ → List ℕ
depth_colour depth =
    if depth % 6 == 0 then codes "33" else (if depth % 6 == 1 then codes "35" else (if depth % 6 == 2 then codes "34"
    else (if depth % 6 == 3 then codes "36" else (if depth % 6 == 4 then codes "32" else codes "31"))))

-- the class of the `<span>` in a page, which for an error includes the title; white space and plain names have none
abbrev pub class : Style → List ℕ
class styles.Bare = []
class styles.Keyword = codes "k"
class styles.Name = []
class styles.RawName = codes "r"
class styles.Lifetime = codes "l"
class styles.Str = codes "s"
class styles.RawStr = codes "rs"
class styles.ByteStr = codes "bs"
class styles.CStr = codes "cs"
class styles.Character = codes "c"
class styles.Byte = codes "b"
class styles.Integer = codes "i"
class styles.Float = codes "f"
class styles.ErrorLiteral = codes "e"
class styles.LineComment = codes "lc"
class styles.BlockComment = codes "bc"
class styles.Doc = codes "dc"
class styles.Mark = codes "m"
class (styles.Delimiter depth) = depth_class depth
class styles.StrayCloser = codes "x title=\"this closer matches no opener\""
class styles.Unclosed = codes "x title=\"this opener is never closed\""
class styles.NoPiece = codes "x title=\"no token stands here\""
class styles.Unread = codes "u"

-- the numbers of the colours on a terminal
abbrev pub colour : Style → List ℕ
colour styles.Bare = []
colour styles.Keyword = codes "1;35"
colour styles.Name = []
colour styles.RawName = codes "4"
colour styles.Lifetime = codes "36"
colour styles.Str = codes "32"
colour styles.RawStr = codes "32"
colour styles.ByteStr = codes "32"
colour styles.CStr = codes "32"
colour styles.Character = codes "92"
colour styles.Byte = codes "92"
colour styles.Integer = codes "33"
colour styles.Float = codes "33"
colour styles.ErrorLiteral = codes "31"
colour styles.LineComment = codes "90"
colour styles.BlockComment = codes "90"
colour styles.Doc = codes "3;90"
colour styles.Mark = codes "39"
colour (styles.Delimiter depth) = depth_colour depth
colour styles.StrayCloser = codes "1;97;41"
colour styles.Unclosed = codes "1;97;41"
colour styles.NoPiece = codes "1;97;41"
colour styles.Unread = codes "2"
