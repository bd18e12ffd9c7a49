-- Literals.
use Rattle.std.specs.Prelude.{ℕ, List, []}
use Rattle.lexical.specs.Form.{Form, Either, Exactly}
use Rattle.lexical.specs.Delimiter.{error_literal}
use Rattle.lexical.specs.Quoted.{Str, ByteStr, CStr, cooked_string}
use Rattle.lexical.specs.RawString.{RawStr, RawByteStr, RawCStr, raw_string}
use Rattle.lexical.specs.Rule as rules
use Rattle.lexical.specs.Rule.{Rule}
use Rattle.lexical.specs.SingleQuoted.{Character, Byte, character, byte}
use Rattle.lexical.specs.declared.quoted.StringKind.{StringKind}
use Rattle.lexical.specs.declared.quoted.StringKind.TheVariants as kinds
use Rattle.lexical.specs.Number.{Number, number}

-- a string of the kind, with escapes or raw
abbrev pub string : StringKind → Rule
string kind = rules.Either (cooked_string kind) (raw_string kind)

-- `quoted-literal`: a string, a byte string or a C string, each with escapes or raw, a character or a byte
abbrev pub quoted_literal : Rule
quoted_literal =
    rules.Either (string kinds.Plain)
    (rules.Either character
    (rules.Either (string kinds.Byte)
    (rules.Either byte (string kinds.C))))

-- `quoted-literal`: a piece of the rule `quoted_literal`
abbrev pub QuotedLiteral : Form
QuotedLiteral =
    Either (Either Str RawStr)
    (Either Character
    (Either (Either ByteStr RawByteStr)
    (Either Byte (Either CStr RawCStr))))

-- `literal`: a literal between quotes or a number, as a rule
abbrev pub literal : Rule
literal = rules.Either quoted_literal number

-- `literal`: a literal between quotes or a number
unfoldable pub Literal : Form
Literal = Either QuotedLiteral Number

-- `error-literal`: the text `(/*ERROR*/)`
abbrev pub ErrorLiteral : Form
ErrorLiteral = Exactly error_literal

-- a literal, or the text `(/*ERROR*/)`
abbrev pub AnyLiteral : Form
AnyLiteral = Either Literal ErrorLiteral

-- `literal-token`: whether the whole text is a literal or the error literal
unfoldable pub IsLiteralToken : List ℕ → Type 0
IsLiteralToken text = AnyLiteral text []
