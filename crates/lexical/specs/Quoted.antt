-- Strings with escapes, and the suffix of any literal.
use Rattle.std.specs.Prelude.{ℕ, Bool, true, false, not, ◌&&◌, ◌||◌, ◌==◌, ◌+◌, ◌*◌}
use Rattle.std.specs.Prelude.{List, [], ◌∷◌, codes, nat_lt, nat_le, cond, length, filter}
use Rattle.std.specs.List.{list_any, fold}
use Rattle.std.specs.Char.{is_ascii, is_digit, is_ascii_hexdigit, digit_value}
use Rattle.lexical.specs.Character.{underscore}
use Rattle.lexical.specs.Form.{Form, Then, Either, Many, Exactly, One}
use Rattle.lexical.specs.Rule as rules
use Rattle.lexical.specs.Rule.{Rule, Stands, perhaps}
use Rattle.lexical.specs.Identifier.{name}
use Rattle.lexical.specs.declared.quoted.StringKind.{StringKind}
use Rattle.lexical.specs.declared.quoted.StringKind.TheVariants.{Plain, Byte, C}

-- whether the character is one of `characters`
abbrev pub is_one_of : List ℕ → ℕ → Bool
is_one_of characters c = list_any (λ d. d == c) characters

-- ---- what follows a backslash

-- `simple-escape`: one of the letters
abbrev pub simple : List ℕ → Rule
simple letters = rules.One (is_one_of letters)

-- the letters that are an escape after a backslash, in a string of the kind
abbrev pub letters : StringKind → List ℕ
letters Plain = codes "nrt\\0'\""
letters Byte = codes "nrt\\0'\""
letters C = codes "nrt\\'\""

-- whether the character is a digit from 0 to 7
abbrev pub is_octal_digit : ℕ → Bool
is_octal_digit c = is_digit c 8

-- two hex digits, of which the first is at most 7
abbrev pub low_pair : Rule
low_pair = rules.Then (rules.One is_octal_digit) (rules.One is_ascii_hexdigit)

-- two hex digits
abbrev pub hex_pair : Rule
hex_pair = rules.Then (rules.One is_ascii_hexdigit) (rules.One is_ascii_hexdigit)

-- two hex digits that are not both zero
abbrev pub nonzero_pair : Rule
nonzero_pair = rules.NotAt (codes "00" ∷ []) hex_pair

-- the two digits after `\x`, in a string of the kind
abbrev pub pair : StringKind → Rule
pair Plain = low_pair
pair Byte = hex_pair
pair C = nonzero_pair

-- `hex-escape`: `x` and two digits
abbrev pub hex : Rule → Rule
hex pair = rules.Then (rules.Exactly (codes "x")) pair

-- the number that the hex digits write. Any `_` among them is skipped
abbrev pub hex_value : List ℕ → ℕ
hex_value digits = fold (λ n c. cond (c == underscore) n (16 * n + digit_value c)) 0 digits

-- whether the number is the code point of a character
abbrev pub is_scalar : ℕ → Bool
is_scalar n = nat_lt n 0xD800 || (nat_le 0xE000 n && nat_lt n 0x11_0000)

-- whether the text has at most six hex digits, and they write a character that is allowed
abbrev pub is_code : (ℕ → Bool) → List ℕ → Bool
is_code allowed p = nat_le (length (filter is_ascii_hexdigit p)) 6 && (is_scalar (hex_value p) && allowed (hex_value p))

-- whether the character is a hex digit or `_`
abbrev pub is_code_digit : ℕ → Bool
is_code_digit c = is_ascii_hexdigit c || (c == underscore)

-- a hex digit, and all hex digits and `_` after it
abbrev pub code_digits : Rule
code_digits = rules.Then (rules.One is_ascii_hexdigit) (rules.Run is_code_digit)

-- the digits of `\u{..}`, if they write a character that is allowed
abbrev pub code : (ℕ → Bool) → Rule
code allowed = rules.Where (is_code allowed) code_digits

-- `unicode-escape`: `u{`, the code of a character and `}`
abbrev pub unicode : (ℕ → Bool) → Rule
unicode allowed = rules.Then (rules.Exactly (codes "u{")) (rules.Then (code allowed) (rules.Exactly (codes "}")))

-- whether `\u{..}` may write the character: in a byte string none, in a C string any but zero
abbrev pub allows : StringKind → ℕ → Bool
allows Plain n = true
allows Byte n = false
allows C n = nat_lt 0 n

-- one of the letters, `x` with a pair of digits, or `u{..}` with a character that is allowed
abbrev pub escape_of : List ℕ → Rule → (ℕ → Bool) → Rule
escape_of letters pair allowed = rules.Either (simple letters) (rules.Either (hex pair) (unicode allowed))

-- `string-escape`, `byte-escape`, `c-string-escape`: what may follow a backslash
abbrev pub escape : StringKind → Rule
escape kind = escape_of (letters kind) (pair kind) (allows kind)

-- a piece of the rule `string-escape`
abbrev pub StringEscape : Form
StringEscape = Stands (escape Plain)

-- a piece of the rule `byte-escape`
abbrev pub ByteEscape : Form
ByteEscape = Stands (escape Byte)

-- a piece of the rule `c-string-escape`
abbrev pub CEscape : Form
CEscape = Stands (escape C)

-- ---- the text between the quotes

-- the line end CR LF
abbrev pub newline : Rule
newline = rules.Exactly (codes "\r\n")

-- `continuation`: a line end. It and the backslash before it add nothing to the value of the string
abbrev pub continuation : Rule
continuation = rules.Either (rules.Exactly (codes "\n")) newline

-- a line end or an escape, which may follow a backslash in a string
abbrev pub escape_or_line_end : StringKind → Rule
escape_or_line_end kind = rules.Either continuation (escape kind)

-- whether the character is none of `"`, `\` and CR
abbrev pub is_string_plain : ℕ → Bool
is_string_plain c = not (is_one_of (codes "\"\\\r") c)

-- whether the character is ASCII and none of `"`, `\` and CR
abbrev pub is_byte_plain : ℕ → Bool
is_byte_plain c = is_string_plain c && is_ascii c

-- whether the character is none of `"`, `\`, CR and NUL
abbrev pub is_c_plain : ℕ → Bool
is_c_plain c = is_string_plain c && not (c == 0)

-- whether the character needs no escape in a string of the kind
abbrev pub is_plain : StringKind → ℕ → Bool
is_plain Plain = is_string_plain
is_plain Byte = is_byte_plain
is_plain C = is_c_plain

-- `string-unit`, `byte-string-unit`, `c-string-unit`: a character that needs no escape, a line end, or a backslash and
-- what may follow it
abbrev pub unit : StringKind → Rule
unit kind =
    rules.Either (rules.One (is_plain kind))
    (rules.Either newline (rules.Then (rules.Exactly (codes "\\")) (escape_or_line_end kind)))

-- a piece of the rule `newline`
abbrev pub Newline : Form
Newline = Stands newline

-- a piece of the rule `continuation`
abbrev pub Continuation : Form
Continuation = Stands continuation

-- a piece of the rule `string-unit`
abbrev pub StringUnit : Form
StringUnit = Stands (unit Plain)

-- a piece of the rule `byte-string-unit`
abbrev pub ByteUnit : Form
ByteUnit = Stands (unit Byte)

-- a piece of the rule `c-string-unit`
abbrev pub CUnit : Form
CUnit = Stands (unit C)

-- a unit of a string, for any test of plain characters and any form of escapes
abbrev pub BodyUnit : (ℕ → Bool) → Form → Form
BodyUnit plain Escape = Either (One plain) (Either Newline (Then (Exactly (codes "\\")) (Either Continuation Escape)))

-- ---- strings with escapes

-- `suffix`: the longest name there, or nothing if no name begins there
abbrev pub suffix : Rule
suffix = perhaps name

-- a piece of the rule `suffix`
abbrev pub Suffix : Form
Suffix = Stands suffix

-- the text that closes a literal, and a suffix
abbrev pub close : List ℕ → Rule
close text = rules.Then (rules.Exactly text) suffix

-- `string-body`: units up to the text that closes the literal, that text, and a suffix
abbrev pub body : Rule → List ℕ → Rule
body unit text = rules.UpTo unit (close text)

-- the prefix that opens a string of the kind
abbrev pub front : StringKind → List ℕ
front Plain = codes "\""
front Byte = codes "b\""
front C = codes "c\""

-- `string`, `byte-string`, `c-string`: the prefix that opens it, and units up to the first `"` that is in no unit
abbrev pub cooked_string : StringKind → Rule
cooked_string kind = rules.Then (rules.Exactly (front kind)) (body (unit kind) (codes "\""))

-- `string`: a literal between `"` and `"`
unfoldable pub Str : Form
Str = Stands (cooked_string Plain)

-- `byte-string`: a literal between `b"` and `"`
abbrev pub ByteStr : Form
ByteStr = Stands (cooked_string Byte)

-- `c-string`: a literal between `c"` and `"`
abbrev pub CStr : Form
CStr = Stands (cooked_string C)

-- the text of a string after its opening prefix, for any form of units
abbrev pub Body : Form → List ℕ → Form
Body Unit text = Then (Many Unit) (Stands (close text))

-- a string with escapes, for any opening prefix and any form of units
abbrev pub Cooked : List ℕ → Form → Form
Cooked front Unit = Then (Exactly front) (Body Unit (codes "\""))
