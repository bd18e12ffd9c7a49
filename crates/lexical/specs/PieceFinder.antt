-- Finds the piece at the start of a text, and its kind.
use Rattle.std.specs.Prelude.{ℕ, Bool, true, ◌==◌, cond, List, [], ◌∷◌, codes, drop, Option, Some, None, if◌then◌else◌}
use Rattle.std.specs.Char.{is_ascii_digit}
use Rattle.lexical.specs.Character.{double_quote, single_quote, slash}
use Rattle.lexical.specs.Text.{begins_with, begins_any, first_of}
use Rattle.lexical.specs.Class.{is_white, is_ident_start}
use Rattle.lexical.specs.Token.{Name, Mark, Literal}
use Rattle.lexical.specs.Identifier.{identifier}
use Rattle.lexical.specs.Mark.{is_mark, comment_fronts, mark, joint_before, follows_quote}
use Rattle.lexical.specs.Delimiter.{is_opener, is_closer, error_literal, opener, closer}
use Rattle.lexical.specs.Number.{number}
use Rattle.lexical.specs.Rule.{Rule, One, Exactly, find}
use Rattle.lexical.specs.Comment.{comment}
use Rattle.lexical.specs.CommentKind.{comment_kind}
use Rattle.lexical.specs.Literal.{quoted_literal, literal}
use Rattle.lexical.specs.Piece.{Kind, FrontMark, Gap, Open, Close, Leaf}
use Rattle.lexical.specs.Finder.{Answer, Finder, find_if, find_where}
use Rattle.lexical.specs.declared.class.PieceStart.{PieceStart}
use Rattle.lexical.specs.declared.class.PieceStart.TheVariants as starts

-- ---- finders that are more than a rule

-- finds a piece of the rule `literal`
abbrev pub find_literal : Finder
find_literal = find literal

-- finds a piece of the rule `front-mark`
abbrev pub find_front_mark : Bool → Finder
find_front_mark first = find_if first (find (Exactly (0xFEFF ∷ [])))

-- finds a piece of the rule `lone-quote`: the mark `'` right before the name of a lifetime
abbrev pub find_lone_quote : Finder
find_lone_quote = find_where (λ p r. follows_quote r) (find (Exactly (codes "'")))

-- ---- the kind of a piece p that r follows

-- the kind of a front mark
abbrev pub front_mark_kind : List ℕ → List ℕ → Kind
front_mark_kind p r = FrontMark

-- the kind of a gap
abbrev pub gap_kind : List ℕ → List ℕ → Kind
gap_kind p r = Gap

-- the kind of an opener
abbrev pub opener_kind : List ℕ → List ℕ → Kind
opener_kind p r = Open (first_of p)

-- the kind of a closer
abbrev pub closer_kind : List ℕ → List ℕ → Kind
closer_kind p r = Close (first_of p)

-- the kind of an identifier. The name of a raw one is the text after `r#`
abbrev pub name_kind : Bool → List ℕ → List ℕ → Kind
name_kind raw p r = Leaf (Name raw (if raw then drop 2 p else p))

-- the kind of a mark
abbrev pub mark_kind : List ℕ → List ℕ → Kind
mark_kind p r = Leaf (Mark (first_of p) (joint_before r))

-- the kind of a lone quote
abbrev pub quote_kind : List ℕ → List ℕ → Kind
quote_kind p r = Leaf (Mark single_quote true)

-- the kind of a literal
abbrev pub literal_kind : List ℕ → List ℕ → Kind
literal_kind p r = Leaf (Literal p)

-- ---- the piece at the start of a text

-- the kind of a piece, its text and the text after it, or none
abbrev pub Found : Type 0
Found = Option (Kind × List ℕ × List ℕ)

-- the answer with the kind of its piece
abbrev pub and_kind : (List ℕ → List ℕ → Kind) → Answer → Found
and_kind kind None = None
and_kind kind (Some x) = Some (kind x.0 x.1, x.0, x.1)

-- the first answer if it has a piece, and otherwise the other one
abbrev pub or_found : Found → Found → Found
or_found None other = other
or_found (Some x) other = Some x

-- a comment with its kind, or none if it has no kind
abbrev pub with_kind : List ℕ × List ℕ → Option Kind → Found
with_kind x None = None
with_kind x (Some kind) = Some (kind, x.0, x.1)

-- the answer, a comment, with its kind
abbrev pub comment_found : Answer → Found
comment_found None = None
comment_found (Some x) = with_kind x (comment_kind x.0 x.1)

-- what the first character of a text says about the piece there
abbrev pub piece_start : ℕ → PieceStart
piece_start c =
    if is_white c then starts.White
    else if is_ident_start c then starts.Letter
    else if is_ascii_digit c then starts.Digit
    else if is_opener c then starts.Opener
    else if is_closer c then starts.Closer
    else if c == slash then starts.Slash
    else if c == single_quote then starts.Quote
    else if c == double_quote then starts.DoubleQuote
    else if c == 0xFEFF then starts.FrontMark
    else if is_mark c then starts.Mark
    else starts.Other

-- the identifier at the start of a text. It is a raw one if the text begins with `r#`
abbrev pub found_identifier : List ℕ → Found
found_identifier text = let raw = begins_with (codes "r#") text in and_kind (name_kind raw) (find (identifier raw) text)

-- the literal of the rule at the start of a text
abbrev pub found_literal : Rule → List ℕ → Found
found_literal rule text = and_kind literal_kind (find rule text)

-- the piece at the start of a text, by what the first character says
abbrev pub found_from : Bool → PieceStart → List ℕ → Found
found_from first starts.White text = and_kind gap_kind (find (One is_white) text)
found_from first starts.Letter text = or_found (found_identifier text) (found_literal quoted_literal text)
found_from first starts.Digit text = found_literal number text
found_from first starts.Opener text =
    or_found (and_kind opener_kind (find opener text)) (found_literal (Exactly error_literal) text)
found_from first starts.Closer text = and_kind closer_kind (find closer text)
found_from first starts.Slash text =
    cond (begins_any comment_fronts text) (comment_found (find comment text)) (and_kind mark_kind (find mark text))
found_from first starts.Quote text =
    or_found (and_kind quote_kind (find_lone_quote text)) (found_literal quoted_literal text)
found_from first starts.DoubleQuote text = found_literal quoted_literal text
found_from first starts.FrontMark text = and_kind front_mark_kind (find_front_mark first text)
found_from first starts.Mark text = and_kind mark_kind (find mark text)
found_from first starts.Other text = None

-- the piece at the start of a text. `first` says whether this is byte offset 0
unfoldable pub find_piece : Bool → List ℕ → Found
find_piece first [] = None
find_piece first (c ∷ text) = found_from first (piece_start c) (c ∷ text)
