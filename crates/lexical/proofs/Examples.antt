-- Examples of pieces, proved by computation.
use Prim.Native.String.{String}
use Rattle.std.proofs.Common.{◌≡◌, Bool, true, false, List, ℕ, [], ◌∷◌, ◌++◌, codes, Some, None, refl}
use Rattle.std.specs.List.{AllByRecursion}
use Rattle.std.proofs.lemmas.Bool.{both_ways}
use Rattle.unicode_ident.proofs.Computing.{unicode_ident}
use Rattle.lexical.specs.Class.{is_ident_continue}
use Rattle.lexical.specs.Token.{Name, Mark, Literal}
use Rattle.lexical.specs.Piece.{Kind, FrontMark, Gap, Doc, Open, Close, Leaf, IsPiece, HasNoPiece}
use Rattle.lexical.specs.Block.{find_ends}
use Rattle.lexical.specs.Finder.{find_many}
use Rattle.lexical.specs.Number.{number}
use Rattle.lexical.specs.Rule.{find}
use Rattle.lexical.specs.PieceFinder.{find_piece}
use Rattle.lexical.proofs.PieceLemmas.{piece_from_found, none_from_found}

-- a piece of a kind before some text, or a text at which no piece begins
data Example : Type 0 where
  Piece : Kind → String → String → Example
  NoPiece : String → Example

abbrev Holds : Example → Type 0
Holds (Piece kind p r) = IsPiece false kind (codes p) (codes r)
Holds (NoPiece text) = HasNoPiece false (codes text)

-- whether the finder computes to what the example says
abbrev Computes : Example → Type 0
Computes (Piece kind p r) = find_piece false (codes p ++ codes r) ≡ Some (kind, codes p, codes r)
Computes (NoPiece text) = find_piece false (codes text) ≡ None

record AllHold (examples : List Example) : Type 0 where
  each : AllByRecursion Holds examples

each_holds : (examples : List Example) → AllByRecursion Computes examples → AllByRecursion Holds examples
each_holds [] each = tt
each_holds (Piece kind p r ∷ more) each = ((piece_from_found false _ _ _ kind each.0).1, each_holds more each.1)
each_holds (NoPiece text ∷ more) each = (none_from_found false _ each.0, each_holds more each.1)

compute_all : (examples : List Example) → AllByRecursion Computes examples → AllHold examples
compute_all examples each = record { each = each_holds examples each }

-- examples of names, of marks (Joint or not) and of literals
abbrev name : Bool → String → String → String → Example
name raw text p r = Piece (Leaf (Name raw (codes text))) p r

abbrev mark : ℕ → Bool → String → String → Example
mark c joint p r = Piece (Leaf (Mark c joint)) p r

abbrev literal : String → String → Example
literal p r = Piece (Leaf (Literal (codes p))) p r

-- a space, and U+200E
gaps : AllHold (Piece Gap " " " a" ∷ Piece Gap "\u{200e}" "" ∷ [])
unfolding unicode_ident find_piece find
gaps = compute_all _ assumption

marks : AllHold (
    mark 43 true "+" "="
    -- no mark is Joint before a comment or a space
    ∷ mark 43 false "+" "/**/-"
    ∷ mark 126 false "~" " // c"
    -- each mark is Joint before `'`, whatever follows
    ∷ mark 43 true "+" "'b'"
    ∷ [])
unfolding unicode_ident find_piece find
marks = compute_all _ assumption

-- ---- identifiers

-- a name ends before a mark, and may begin with a letter past ASCII
names : AllHold (name false "a" "a" "+" ∷ name false "é" "é" "(" ∷ [])
unfolding unicode_ident find_piece find find_many
names = compute_all _ assumption

-- a prefix of a name is no name
not_a_front : IsPiece false (Leaf (Name false (codes "a"))) (codes "a") (codes "b") → ⊥
unfolding unicode_ident
not_a_front h = both_ways (is_ident_continue 98) h.1.0.0.second.stops refl

-- no piece is where only a prefix of a literal begins, nor at the end
no_names : AllHold (NoPiece "b\"" ∷ NoPiece "" ∷ [])
unfolding unicode_ident find_piece find find_many
no_names = compute_all _ assumption

raw_names : AllHold (
    name true "a" "r#a" "+"
    ∷ name true "dyn" "r#dyn" ""
    -- literal prefixes count at the start of the whole text, not after `r#`
    ∷ name true "b" "r#b" "\"x\""
    ∷ NoPiece "r#_"
    ∷ NoPiece "r#1"
    ∷ NoPiece "r#self"
    ∷ NoPiece "br#"
    ∷ NoPiece "r##"
    ∷ [])
unfolding unicode_ident find_piece find find_many
raw_names = compute_all _ assumption

lone_quotes : AllHold (
    mark 39 true "'" "a "
    ∷ mark 39 true "'" "_"
    ∷ mark 39 true "'" "r#prefix#lifetime"
    -- the identifier after a lone quote may begin like a literal
    ∷ mark 39 true "'" "b\"x\""
    -- no lone quote is before `r#` if no raw identifier begins there
    ∷ NoPiece "'r#1"
    ∷ NoPiece "' a"
    ∷ NoPiece "'prefix#lifetime"
    ∷ NoPiece "'br#\"x\"#"
    ∷ NoPiece "'aa'bb"
    ∷ NoPiece "'r#gen'a"
    ∷ [])
unfolding unicode_ident find_piece find find_many
lone_quotes = compute_all _ assumption

-- ---- delimiters

-- `(` is an opener, except in `(/*ERROR*/)`, which is a literal
delimiters : AllHold (
    Piece (Open 40) "(" "/*ERROR*/ )"
    ∷ literal "(/*ERROR*/)" "x"
    ∷ Piece (Close 125) "}" ""
    ∷ [])
unfolding unicode_ident find_piece find
delimiters = compute_all _ assumption

-- ---- the front mark

front_mark : IsPiece true FrontMark (codes "\u{feff}") (codes "a")
front_mark = (refl, refl)

no_front_mark : AllHold (NoPiece "\u{feff}a" ∷ [])
unfolding unicode_ident find_piece find
no_front_mark = compute_all _ assumption

-- ---- comments

plain_comments : AllHold (
    Piece Gap "// a\r" "\nb"
    ∷ Piece Gap "////" ""
    ∷ Piece Gap "////\r" ""
    ∷ Piece Gap "/**/" ""
    ∷ Piece Gap "/***/" "x"
    ∷ Piece Gap "/*** a\r*/" ""
    ∷ Piece Gap "/* /**/ */" "*/"
    ∷ [])
unfolding unicode_ident find_piece find find_many find_ends
plain_comments = compute_all _ assumption

-- block comments that are not closed
unclosed_comments : AllHold (NoPiece "/*/" ∷ NoPiece "/*/*/" ∷ NoPiece "/* /* */ x" ∷ [])
unfolding unicode_ident find_piece find find_many find_ends
unclosed_comments = compute_all _ assumption

doc_comments : AllHold (
    Piece (Doc false (codes " d")) "/// d\r" "\n"
    ∷ Piece (Doc true (codes " doc")) "//! doc" ""
    ∷ Piece (Doc false (codes "\r\n")) "/**\r\n*/" ""
    ∷ Piece (Doc true []) "/*!*/" ""
    -- a doc comment is rejected if its text has a CR with no LF after it
    ∷ NoPiece "///\r"
    ∷ NoPiece "///\r\r\n"
    ∷ NoPiece "/** a\r*/"
    ∷ [])
unfolding unicode_ident find_piece find find_many find_ends
doc_comments = compute_all _ assumption

-- ---- literals between quotes

strings : AllHold (
    literal "\"a\\n\"" "+"
    -- the suffix is the longest name, and not the start of another literal
    ∷ literal "\"a\"b" "\"x\""
    -- a backslash before CR LF, with white space after it
    ∷ literal "\"\\\r\n    x\"" ""
    -- a CR among the white space
    ∷ NoPiece "\"\\\r\n  \rx\""
    -- seven digits; no character; `_` first; no digits
    ∷ NoPiece "\"\\u{0000000}\""
    ∷ NoPiece "\"\\u{999999}\""
    ∷ NoPiece "\"\\u{_0}\""
    ∷ NoPiece "\"\\u{}\""
    ∷ [])
unfolding unicode_ident find_piece find find_many
strings = compute_all _ assumption

-- no character past ASCII in a byte string, and no zero in a C string
bytes_and_c_strings : AllHold (
    NoPiece "b\"é\""
    ∷ NoPiece "c\"\\0\""
    ∷ NoPiece "c\"\\x00\""
    ∷ NoPiece "c\"\\u{0}\""
    ∷ [])
unfolding unicode_ident find_piece find find_many
bytes_and_c_strings = compute_all _ assumption

raw_strings : AllHold (
    literal "cr##\"Hello \"world\"!\"##" ""
    ∷ literal "r#\"\"#r" ""
    -- too few hash signs
    ∷ NoPiece "br##\"\"#"
    ∷ [])
unfolding unicode_ident find_piece find find_many
raw_strings = compute_all _ assumption

single_quotes : AllHold (
    literal "'\\u{10__FFFF}'" ""
    ∷ literal "'\\''" ""
    ∷ literal "' '" ""
    ∷ literal "b'\\''u8" ""
    -- characters that need an escape: a quote, a line end, a tab
    ∷ NoPiece "'''x"
    ∷ NoPiece "'\n'"
    ∷ NoPiece "'\r'"
    ∷ NoPiece "'\t'"
    ∷ NoPiece "b'''"
    ∷ NoPiece "b'\n'"
    ∷ NoPiece "b'\r'"
    ∷ NoPiece "b'\t'"
    -- a backslash and a line end are no character
    ∷ NoPiece "'\\\n'"
    -- two characters, and a byte past ASCII
    ∷ NoPiece "'\r\n'"
    ∷ NoPiece "b'\u{86}'"
    ∷ [])
unfolding unicode_ident find_piece find find_many
single_quotes = compute_all _ assumption

-- ---- numbers

dots : AllHold (
    literal "1." ""
    -- a dot before a name does not belong to the number
    ∷ literal "1" ".f32"
    ∷ literal "1" "._0"
    ∷ literal "1" "..2"
    ∷ literal "0.0" ".0"
    ∷ [])
unfolding unicode_ident find_piece find number
dots = compute_all _ assumption

exponents : AllHold (
    literal "1_0_.5__e_+_6_f64" " "
    -- a suffix that looks like an exponent without digits after its sign
    ∷ literal "1.0e" "+-5"
    ∷ literal "0E" "--0"
    ∷ literal "0.0ECMA" ""
    -- a number without a dot may have an exponent
    ∷ literal "1e5" ""
    ∷ [])
unfolding unicode_ident find_piece find number
exponents = compute_all _ assumption

integers : AllHold (
    literal "999r" "#u256"
    ∷ literal "0o0A" ""
    ∷ literal "0x1e" "+5"
    ∷ literal "0b1" ".0"
    -- only a lower case letter makes a prefix
    ∷ literal "0X1" ""
    -- a digit that is too large for the base makes no decimal integer instead
    ∷ NoPiece "0b12"
    ∷ NoPiece "0x_"
    ∷ NoPiece "0xg"
    ∷ [])
unfolding unicode_ident find_piece find number
integers = compute_all _ assumption

-- numbers before U+0301, which continues an identifier but begins none
accents : AllHold (
    -- no float begins there, and the integer ends before the dot
    literal "1" ".5́"
    ∷ NoPiece "5́"
    -- no float with an exponent begins there, and the suffix of the integer takes everything
    ∷ literal "1e5́" ""
    -- an exponent is read if there is one, even if then no float is there
    ∷ literal "1" ".0e5́"
    ∷ [])
unfolding unicode_ident find_piece find number
accents = compute_all _ assumption

-- why no line may be broken after a mark or a number
broken_lines : AllHold (
    -- `1` and two dots: if the line ends after the first dot, that dot belongs to the number
    literal "1." "\n.2"
    -- five pieces: `1`, `.`, `5e`, `+` and the name `_5` with U+0301
    ∷ literal "1" ".5e+_5́"
    ∷ literal "5e" "+_5́"
    -- if the line ends after `5e`, no exponent is there, but a float is
    ∷ literal "1.5e" "\n+_5́"
    ∷ [])
unfolding unicode_ident find_piece find number
broken_lines = compute_all _ assumption
