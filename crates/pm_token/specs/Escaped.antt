-- The texts that the constructors of literals write between quotes.
use Rattle.std.specs.Prelude.{ℕ, Bool, true, false, not, ◌&&◌, ◌==◌, List, [], ◌∷◌, ◌++◌, codes, nat_lt, nat_le, ◌/◌}
use Rattle.std.specs.Prelude.{◌%◌, if◌then◌else◌}
use Rattle.std.specs.Fmt.{digit_glyph}
use Rattle.std.specs.Char.Escape.{escape_unicode}
use Rattle.lexical.specs.Text.{first_passes}
use Rattle.lexical.specs.Quoted.{is_octal_digit}
use Rattle.literal_escaper.specs.Character.{backslash, carriage_return, double_quote, line_feed, quote as single_quote}
use Rattle.literal_escaper.specs.Character.{tab}
use Rattle.ucd_category.specs.GeneralCategory.{general_category}
use Rattle.ucd_category.specs.declared.GeneralCategory.{GeneralCategory}
use Rattle.ucd_category.specs.declared.GeneralCategory.TheVariants.{NonspacingMark, EnclosingMark, SpaceSeparator}
use Rattle.ucd_category.specs.declared.GeneralCategory.TheVariants.{LineSeparator, ParagraphSeparator, Control, Format}
use Rattle.ucd_category.specs.declared.GeneralCategory.TheVariants.{PrivateUse, Unassigned}

-- `hidden`: whether characters of this category are invisible, or show only on their neighbours
abbrev pub is_hidden : GeneralCategory → Bool
is_hidden NonspacingMark = true
is_hidden EnclosingMark = true
is_hidden SpaceSeparator = true
is_hidden LineSeparator = true
is_hidden ParagraphSeparator = true
is_hidden Control = true
is_hidden Format = true
is_hidden PrivateUse = true
is_hidden Unassigned = true
is_hidden shown = false

-- `bare`: whether the character is printable ASCII, or another character that isn't hidden
abbrev pub is_bare : ℕ → Bool
is_bare c = if nat_lt c 128 then nat_le 32 c && not (c == 127) else not (is_hidden (general_category c))

-- how a character without a short escape is written in strings
abbrev pub written_char : ℕ → List ℕ
written_char c =
    -- a bare character is written as itself
    if is_bare c then c ∷ []
    -- other characters: `\u{`, the number in lower-case hex without leading zeros, `}`
    else escape_unicode c

-- two hex digits, with upper-case letters
abbrev pub hex_pair : ℕ → List ℕ
hex_pair b = digit_glyph true (b / 16) ∷ digit_glyph true (b % 16) ∷ []

-- `written-byte`: how a byte without a short escape is written in bytes and byte strings
abbrev pub written_byte : ℕ → List ℕ
written_byte b =
    -- a printable ASCII character is written as itself
    if nat_le 32 b && nat_lt b 127 then b ∷ []
    -- other bytes: `\x` and two digits
    else codes "\\x" ++ hex_pair b

-- `escaped`: how c is written between these quotes, before the rest; `plain` writes characters without a short escape
abbrev pub char_text : ℕ → (ℕ → List ℕ) → ℕ → List ℕ → List ℕ
char_text quote plain c rest =
    -- before an octal digit, `\0` would look like an octal escape of C
    if (c == 0) && first_passes is_octal_digit rest then codes "\\x00"
    -- the short escapes
    else if c == 0 then codes "\\0"
    else if c == tab then codes "\\t"
    else if c == carriage_return then codes "\\r"
    else if c == line_feed then codes "\\n"
    -- the backslash, and the quote that would end the literal
    else if c == backslash then codes "\\\\"
    else if c == quote then backslash ∷ quote ∷ []
    else plain c

-- whether the character is printable ASCII and neither this quote nor a backslash, so that it needs no escape
abbrev pub is_plain_ascii : ℕ → ℕ → Bool
is_plain_ascii quote c = nat_le 32 c && (nat_lt c 127 && (not (c == backslash) && not (c == quote)))

-- `content`: how all the characters are written, in order
abbrev pub content : ℕ → (ℕ → List ℕ) → List ℕ → List ℕ
content quote plain [] = []
content quote plain (c ∷ rest) = char_text quote plain c rest ++ content quote plain rest

-- `string-text`: the string literal of a text
abbrev pub string_text : List ℕ → List ℕ
string_text text = codes "\"" ++ (content double_quote written_char text ++ codes "\"")

-- `character-text`: the literal of a character
abbrev pub character_text : ℕ → List ℕ
character_text c = codes "'" ++ (char_text single_quote written_char c [] ++ codes "'")

-- `byte-text`: the literal of a byte
abbrev pub byte_text : ℕ → List ℕ
byte_text b = codes "b'" ++ (char_text single_quote written_byte b [] ++ codes "'")

-- `byte-string-text`: the literal of some bytes
abbrev pub byte_string_text : List ℕ → List ℕ
byte_string_text bytes = codes "b\"" ++ (content double_quote written_byte bytes ++ codes "\"")
