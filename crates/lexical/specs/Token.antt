-- Tokens without their spans.
use Rattle.std.specs.Prelude.{ℕ, Bool, true, false, List, [], ◌∷◌, ◌++◌, codes}

-- a token without its span
pub data Token : Type 0 where
  -- an identifier: whether it is raw, and its name
  Name : Bool → List ℕ → Token
  -- a mark, and whether it is Joint
  Mark : ℕ → Bool → Token
  -- a literal, with its text
  Literal : List ℕ → Token

-- the text before the name of an identifier: `r#` for a raw one, otherwise none
abbrev pub raw_front : Bool → List ℕ
raw_front true = codes "r#"
raw_front false = []

-- the text of the token
abbrev pub token_text : Token → List ℕ
token_text (Name raw name) = raw_front raw ++ name
token_text (Mark c joint) = c ∷ []
token_text (Literal text) = text
