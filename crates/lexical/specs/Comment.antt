-- Comments and doc comments.
use Rattle.std.specs.Prelude.{ℕ, Bool, false, not, ◌&&◌, ◌||◌, ◌==◌, ◌≡◌}
use Rattle.std.specs.Prelude.{List, [], ◌∷◌, ◌++◌, IsFalse, codes, length, if◌then◌else◌}
use Rattle.lexical.specs.Character.{carriage_return, line_feed}
use Rattle.lexical.specs.Text.{begins_with, begins_any, ends_with}
use Rattle.lexical.specs.Form.{Form, Where}
use Rattle.lexical.specs.Rule.{Rule, Run, Exactly, Then, Either, Ends, Stands}

-- ---- comments

-- `line-comment`: `//` and all characters up to the next LF or the end of the text. A CR before that LF belongs to it
abbrev pub line_comment : Rule
line_comment = Then (Exactly (codes "//")) (Run (λ c. not (c == line_feed)))

-- `block-comment`: `/*`, a body, and the `*/` that ends it
abbrev pub block_comment : Rule
block_comment = Then (Exactly (codes "/*")) (Ends 1)

-- a line comment or a block comment, as a rule
abbrev pub comment : Rule
comment = Either line_comment block_comment

-- `line-comment`: `//` up to the end of the line
abbrev pub LineComment : Form
LineComment = Stands line_comment

-- `block-comment`: `/*` up to the `*/` that closes it, with block comments inside
abbrev pub BlockComment : Form
BlockComment = Stands block_comment

-- a line comment or a block comment
abbrev pub Comment : Form
Comment = Stands comment

-- ---- doc comments

-- the prefixes of inner doc comments, which document the item around them
abbrev pub inner_fronts : List (List ℕ)
inner_fronts = codes "//!" ∷ codes "/*!" ∷ []

-- the prefixes of outer doc comments, which document the item after them
abbrev pub outer_fronts : List (List ℕ)
outer_fronts = codes "///" ∷ codes "/**" ∷ []

-- the prefixes of comments that are no doc comments although they begin like one. `/**/` is the whole comment
abbrev pub plain_fronts : List (List ℕ)
plain_fronts = codes "////" ∷ codes "/***" ∷ codes "/**/" ∷ []

-- whether the comment is an inner doc comment
abbrev pub is_inner : List ℕ → Bool
is_inner p = begins_any inner_fronts p

-- `doc-comment`: whether the comment is a doc comment
abbrev pub is_doc : List ℕ → Bool
is_doc p = is_inner p || (begins_any outer_fronts p && not (begins_any plain_fronts p))

-- the end of a doc comment that does not belong to its text: `*/` of a block comment, or a CR before the LF that ends
-- the line
abbrev pub closing : List ℕ → List ℕ → List ℕ
closing p r =
    if begins_with (codes "/*") p then codes "*/"
    else if ends_with carriage_return p && begins_with (codes "\n") r then carriage_return ∷ []
    else []

-- whether the text has a CR with no LF after it
abbrev pub has_bare_return : List ℕ → Bool
has_bare_return [] = false
has_bare_return (c ∷ text) = ((c == carriage_return) && not (begins_with (codes "\n") text)) || has_bare_return text

-- `doc-text`: a doc comment and its text, which is all but its first three characters and its end
pub record Doc (inner : Bool) (text p r : List ℕ) : Type 0 where
  pub comment : Where is_doc Comment p r
  pub inward : inner ≡ is_inner p
  pub front : List ℕ
  pub three : length front ≡ 3
  pub whole : p ≡ front ++ (text ++ closing p r)
  pub returns : IsFalse (has_bare_return text)

-- a comment that is no doc comment
abbrev pub PlainComment : Form
PlainComment = Where (λ p. not (is_doc p)) Comment
