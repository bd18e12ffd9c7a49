-- Texts whose doc attributes become doc comments.
use Rattle.std.specs.Prelude.{ℕ, Bool, true, false, not, ◌&&◌, ◌||◌, ◌==◌, ◌≡◌, ◌⊎◌, List, [], ◌∷◌, ◌++◌, IsTrue}
use Rattle.std.specs.Prelude.{Ok, codes, if◌then◌else◌}
use Rattle.std.specs.List.{flat_map, list_all}
use Rattle.lexical.specs.Character.{carriage_return, line_feed}
use Rattle.lexical.specs.Class.{is_white}
use Rattle.lexical.specs.Comment as comments
use Rattle.lexical.specs.Cover.{onto, IsCover}
use Rattle.lexical.specs.Piece.{Piece, Gap, Doc, Open, Close, Leaf}
use Rattle.lexical.specs.Text.{begins_with}
use Rattle.lexical.specs.Token.{Name, Literal}
use Rattle.pm_token.specs.Escaped.{string_text}
use Rattle.pm_token.specs.Text.{IsText}
use Rattle.pm_token.specs.Value.{str_value}
use Rattle.pm_stream.specs.Events.{hash, bang, equals}
use Rattle.relayout.specs.Docs.{KeepsDocs}
use Rattle.relayout.specs.Laws.{KeepsTokens}

-- ---- attributes and comments as pieces

-- `doc-line`: whether a doc comment of one line can hold the text: the text has no LF and no CR, and after `///`, where
-- `inner` is false, it does not begin with a slash
abbrev pub is_doc_line : Bool → List ℕ → Bool
is_doc_line inner text =
    list_all (λ c. not ((c == line_feed) || (c == carriage_return))) text
    && (inner || not (begins_with (codes "/") text))

-- whether the text has no CR
abbrev pub has_no_return : List ℕ → Bool
has_no_return text = list_all (λ c. not (c == carriage_return)) text

-- the first three characters of a block doc comment, an inner or an outer one
abbrev pub block_front : Bool → List ℕ
block_front true = codes "/*!"
block_front false = codes "/**"

-- the block comment with the text
abbrev pub block_comment : Bool → List ℕ → List ℕ
block_comment inner text = block_front inner ++ (text ++ codes "*/")

-- `doc-block`: a block doc comment can hold the text: the text has no CR, and the comment is read as this text
abbrev pub IsDocBlock : Bool → List ℕ → Type 0
IsDocBlock inner text = IsTrue (has_no_return text) × comments.Doc inner text (block_comment inner text) []

-- a comment can hold the text: one of one line or, if `any` is true, a block
abbrev pub CanHold : Bool → Bool → List ℕ → Type 0
CanHold any inner text = IsTrue (is_doc_line inner text) ⊎ (IsTrue any × IsDocBlock inner text)

-- the literal spells the text: as `Literal::string` writes it or, if `any` is true, in any way that has this value
abbrev pub Spells : Bool → List ℕ → List ℕ → Type 0
Spells false literal text = literal ≡ string_text text
Spells true literal text = IsText text × (str_value literal ≡ Ok text)

-- a doc attribute up to its literal: the inner one with `!`, or the outer one
abbrev pub attribute_front : Bool → List ℕ
attribute_front true = codes "# ![doc = "
attribute_front false = codes "#[doc = "

-- the pieces of `[doc = ".."]`, with this literal, and of the LF after it
abbrev pub doc_pieces : List ℕ → List Piece
doc_pieces literal =
    (Open 91, codes "[")
    ∷ (Leaf (Name false (codes "doc")), codes "doc")
    ∷ (Gap, codes " ")
    ∷ (Leaf equals, codes "=")
    ∷ (Gap, codes " ")
    ∷ (Leaf (Literal literal), literal)
    ∷ (Close 93, codes "]")
    ∷ (Gap, codes "\n")
    ∷ []

-- the pieces of a doc attribute and of the LF after it
abbrev pub attribute_pieces : Bool → List ℕ → List Piece
attribute_pieces true literal =
    (Leaf hash, codes "#") ∷ (Gap, codes " ") ∷ (Leaf bang, codes "!") ∷ doc_pieces literal
attribute_pieces false literal = (Leaf hash, codes "#") ∷ doc_pieces literal

-- the first three characters of a doc comment of one line, an inner or an outer one
abbrev pub comment_front : Bool → List ℕ
comment_front true = codes "//!"
comment_front false = codes "///"

-- the doc comment for the text: one of one line if that can hold it, and otherwise a block
abbrev pub doc_comment : Bool → List ℕ → List ℕ
doc_comment inner text = if is_doc_line inner text then comment_front inner ++ text else block_comment inner text

-- the pieces of a doc comment and of the LF after it
abbrev pub comment_pieces : Bool → List ℕ → List Piece
comment_pieces inner text = (Doc inner text, doc_comment inner text) ∷ (Gap, codes "\n") ∷ []

-- ---- parts of a text with attributes

-- one white character, or another piece, or a doc attribute with this literal and its text, together with the LF after
-- it
pub data Part : Type 0 where
  White : ℕ → Part
  Kept : Piece → Part
  Attribute : Bool → List ℕ → List ℕ → Part

-- the pieces of a part in the source
abbrev pub old_part : Part → List Piece
old_part (White c) = (Gap, c ∷ []) ∷ []
old_part (Kept piece) = piece ∷ []
old_part (Attribute inner literal text) = attribute_pieces inner literal

-- the pieces of a part once a comment has replaced the attribute
abbrev pub new_part : Part → List Piece
new_part (White c) = (Gap, c ∷ []) ∷ []
new_part (Kept piece) = piece ∷ []
new_part (Attribute inner literal text) = comment_pieces inner text

-- the pieces of the parts in the source
abbrev pub old_pieces : List Part → List Piece
old_pieces parts = flat_map old_part parts

-- the pieces of the parts once comments have replaced the attributes
abbrev pub new_pieces : List Part → List Piece
new_pieces parts = flat_map new_part parts

-- whether the line is blank up to the end of the part; `free` says whether it is blank up to its start
abbrev pub is_free : Bool → Part → Bool
is_free free (White c) = free || begins_with (codes "\n") (c ∷ [])
is_free free (Kept piece) = false
is_free free (Attribute inner literal text) = true

-- the part is allowed there: an attribute must begin its line, its literal must spell its text, and a comment must be
-- able to hold that
abbrev pub MayBe : Bool → Bool → Part → Type 0
MayBe any free (White c) = IsTrue (is_white c)
MayBe any free (Kept piece) = Unit {0}
MayBe any free (Attribute inner literal text) = IsTrue free × Spells any literal text × CanHold any inner text

-- each of the parts is allowed where it is
abbrev pub MayAll : Bool → Bool → List Part → Type 0
MayAll any free [] = Unit {0}
MayAll any free (part ∷ parts) = MayBe any free part × MayAll any (is_free free part) parts

-- ---- the law

-- the text gives the same tokens as the source, up to spans and, if `any` is true, up to the spelling of doc literals
abbrev pub Keeps : Bool → List ℕ → List ℕ → Type 0
Keeps false source text = KeepsTokens source text
Keeps true source text = KeepsDocs source text

-- if allowed parts cover a source, their pieces with comments instead of the attributes cover the new text, which gives
-- the same tokens
abbrev pub CommentsStay : Type 0
CommentsStay = (any : Bool) (source : List ℕ) (parts : List Part) → IsCover (old_pieces parts) source
    → MayAll any true parts → IsCover (new_pieces parts) (onto (new_pieces parts) [])
    × Keeps any source (onto (new_pieces parts) [])
