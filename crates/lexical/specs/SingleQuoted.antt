-- Character literals and byte literals.
use Rattle.std.specs.Prelude.{ℕ, Bool, not, ◌&&◌, List, codes}
use Rattle.std.specs.Char.{is_ascii}
use Rattle.lexical.specs.Form.{Form, Then, Either, Exactly, One}
use Rattle.lexical.specs.Rule as rules
use Rattle.lexical.specs.Rule.{Rule, Stands}
use Rattle.lexical.specs.Quoted.{is_one_of, escape, close}
use Rattle.lexical.specs.declared.quoted.StringKind.{StringKind}
use Rattle.lexical.specs.declared.quoted.StringKind.TheVariants as kinds

-- whether the character is none of `'`, `\`, LF, CR and the tab
abbrev pub is_char_plain : ℕ → Bool
is_char_plain c = not (is_one_of (codes "'\\\n\r\t") c)

-- whether the character is ASCII and none of `'`, `\`, LF, CR and the tab
abbrev pub is_byte_char_plain : ℕ → Bool
is_byte_char_plain c = is_char_plain c && is_ascii c

-- whether a literal of the kind may have the character between single quotes without an escape
abbrev pub is_plain : StringKind → ℕ → Bool
is_plain kinds.Plain = is_char_plain
is_plain kinds.Byte = is_byte_char_plain
is_plain kinds.C = is_char_plain

-- one character that passes, or a backslash and an escape
abbrev pub unit : (ℕ → Bool) → Rule → Rule
unit plain escape = rules.Either (rules.One plain) (rules.Then (rules.Exactly (codes "\\")) escape)

-- a literal of one unit: the prefix that opens it, a unit, `'` and a suffix
abbrev pub single : List ℕ → (ℕ → Bool) → Rule → Rule
single front plain escape = rules.Then (rules.Exactly front) (rules.Then (unit plain escape) (close (codes "'")))

-- `character`: `'`, one character or escape, `'` and a suffix
abbrev pub character : Rule
character = single (codes "'") is_char_plain (escape kinds.Plain)

-- `byte`: `b'`, one ASCII character or escape, `'` and a suffix
abbrev pub byte : Rule
byte = single (codes "b'") is_byte_char_plain (escape kinds.Byte)

-- `character`: a literal between `'` and `'`
abbrev pub Character : Form
Character = Stands character

-- `byte`: a literal between `b'` and `'`
abbrev pub Byte : Form
Byte = Stands byte

-- one character that passes, or a backslash and an escape, for any form of escapes
abbrev pub SingleUnit : (ℕ → Bool) → Form → Form
SingleUnit plain Escape = Either (One plain) (Then (Exactly (codes "\\")) Escape)

-- a literal of one unit, for any opening prefix and any form of escapes
abbrev pub SingleQuoted : List ℕ → (ℕ → Bool) → Form → Form
SingleQuoted front plain Escape =
    Then (Exactly front) (Then (SingleUnit plain Escape) (Stands (close (codes "'"))))
