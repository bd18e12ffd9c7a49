-- The texts that a `Literal` may have.
use Rattle.std.specs.Prelude.{◌⊎◌, ◌≡◌, ℕ, List, [], ◌++◌, codes, IsTrue}
use Rattle.std.specs.Char.{is_ascii_digit}
use Rattle.lexical.specs.Text.{first_passes}
use Rattle.lexical.specs.Literal.{Literal, IsLiteralToken}
use Rattle.pm_token.specs.Text.{IsText}

-- `negative-literal`: whether the text is `-` and a literal that begins with a digit
pub record IsNegative (text : List ℕ) : Type 0 where
  pub number : List ℕ
  pub whole : text ≡ codes "-" ++ number
  pub literal : Literal number []
  pub digit : IsTrue (first_passes is_ascii_digit number)

-- `whole-literal`: whether the text is one literal or a negative literal, with nothing before or after it
abbrev pub IsWholeLiteral : List ℕ → Type 0
IsWholeLiteral text = Literal text [] ⊎ IsNegative text

-- whether a `Literal` may have the text: it is a `literal-token`, or a negative literal, which no stream has
abbrev pub IsLiteralText : List ℕ → Type 0
IsLiteralText text = (IsLiteralToken text ⊎ IsNegative text) × IsText text
