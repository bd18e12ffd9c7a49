-- What is written for a text whose attributes become comments.
use Rattle.std.specs.Prelude.{ℕ, Bool, true, not, ◌||◌, ◌==◌, ◌≡◌, List, [], ◌∷◌, ◌++◌, IsTrue, codes}
use Rattle.lexical.specs.Character.{carriage_return, line_feed}
use Rattle.lexical.specs.Cover.{onto, IsCover, StandBefore}
use Rattle.lexical.specs.Literal.{Literal as IsLiteral}
use Rattle.pm_token.specs.Text.{IsText}
use Rattle.relayout.specs.Commented.{CanHold, Keeps, MayAll, MayBe, Spells, Part, White, Kept, Attribute}
use Rattle.relayout.specs.Commented.{attribute_front, is_free, new_part, new_pieces, old_part, old_pieces}

-- whether a one-line doc comment may contain the character: it is neither LF nor CR
abbrev pub in_line : ℕ → Bool
in_line c = not ((c == line_feed) || (c == carriage_return))

-- the text begins with a doc attribute for `text`, with this literal, and goes on with `rest`
pub record IsAttribute (any : Bool) (whole : List ℕ) (inner : Bool) (literal text rest : List ℕ) : Type 0 where
  pub is : whole ≡ attribute_front inner ++ (literal ++ (codes "]\n" ++ rest))
  pub stands : IsLiteral literal (codes "]\n" ++ rest)
  pub spells : Spells any literal text

-- what precedes the attribute in `kept` is written, and then a comment instead of the attribute
pub record BecomesComment (any : Bool) (kept whole rest old new : List ℕ) : Type 0 where
  pub inner : Bool
  pub literal : List ℕ
  pub text : List ℕ
  pub attribute : IsAttribute any whole inner literal text rest
  pub may : CanHold any inner text
  pub writes : (front : List ℕ) → kept ≡ front ++ whole
      → new ≡ old ++ (front ++ onto (new_part (Attribute inner literal text)) [])

-- the text begins with no attribute that a comment can replace
abbrev pub HasNoAttribute : Bool → List ℕ → Type 0
HasNoAttribute any whole = (inner : Bool) (literal text rest : List ℕ) → IsText text
    → IsAttribute any whole inner literal text rest → CanHold any inner text → ⊥

-- a piece may stay as it is only if the text from it on begins with no attribute that a comment can replace
abbrev pub Stays : Bool → Part → List ℕ → Type 0
Stays any (White c) whole = Unit {0}
Stays any (Kept piece) whole = HasNoAttribute any whole
Stays any (Attribute inner literal text) whole = Unit {0}

-- each attribute that begins its line and that a comment can replace is one of the parts
abbrev pub AreFound : Bool → Bool → List Part → Type 0
AreFound any free [] = Unit {0}
AreFound any free (part ∷ parts) =
    (IsTrue free → Stays any part (onto (old_pieces (part ∷ parts)) [])) × AreFound any (is_free free part) parts

-- the part is the first one of the text, and `rest` follows it
pub record IsFirstPart (any first free : Bool) (text : List ℕ) (part : Part) (rest : List ℕ) : Type 0 where
  pub whole : text ≡ onto (old_part part) rest
  pub stand : StandBefore first (old_part part) rest
  pub may : MayBe any free part
  pub stays : IsTrue free → Stays any part text

-- ---- a text with comments

-- the text is the source with a comment instead of each attribute that begins its line and that a comment can replace,
-- and gives the same tokens. `any` says whether literals may be spelled in any way and comments be blocks; the tokens
-- are then the same up to the spelling of doc literals
pub record IsCommented (any : Bool) (source text : List ℕ) : Type 0 where
  pub parts : List Part
  pub covers : IsCover (old_pieces parts) source
  pub may : MayAll any true parts
  pub found : AreFound any true parts
  pub is : text ≡ onto (new_pieces parts) []
  pub covers_now : IsCover (new_pieces parts) text
  pub tokens : Keeps any source text
