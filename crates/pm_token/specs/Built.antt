-- What is true of every token of the public types.
use Rattle.std.specs.Prelude.{[], IsTrue}
use Rattle.lexical.specs.Token.{Token, Name, Mark, Literal}
use Rattle.lexical.specs.Identifier as identifiers
use Rattle.lexical.specs.Mark.{is_mark}
use Rattle.lexical.specs.Literal.{IsLiteralToken}
use Rattle.pm_token.specs.Text.{IsText}

-- `built`: whether the token is an allowed name, one of the 22 marks, or a `literal-token`
abbrev pub IsBuiltToken : Token → Type 0
IsBuiltToken (Name raw name) = identifiers.Name name [] × IsTrue (identifiers.is_allowed raw name) × IsText name
IsBuiltToken (Mark c joint) = IsTrue (is_mark c)
IsBuiltToken (Literal text) = IsLiteralToken text × IsText text
