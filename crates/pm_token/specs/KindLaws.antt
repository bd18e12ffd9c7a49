-- The literals that the constructors make are of their kind.
use Rattle.std.specs.Prelude.{◌<◌, ℕ, List, [], IsTrue}
use Rattle.std.specs.Char.{IsScalar}
use Rattle.std.specs.List.{AllByRecursion}
use Rattle.lexical.specs.Quoted.{ByteStr, CStr, Str}
use Rattle.lexical.specs.SingleQuoted.{Byte, Character}
use Rattle.pm_token.specs.CString.{IsCStringText, has_no_zero}
use Rattle.pm_token.specs.Escaped.{byte_string_text, byte_text, character_text, string_text}
use Rattle.pm_token.specs.Text.{IsText}

-- the string literal of a text is a string of the grammar, with nothing after it
abbrev pub StringsAreStrings : Type 0
StringsAreStrings = (text : List ℕ) → IsText text → Str (string_text text) []

-- the byte string literal of some bytes is a byte string of the grammar, with nothing after it
abbrev pub ByteStringsAreByteStrings : Type 0
ByteStringsAreByteStrings = (bytes : List ℕ) → AllByRecursion (λ b. b < 256) bytes → ByteStr (byte_string_text bytes) []

-- the C string literal of some bytes, none of them zero, is a C string of the grammar, with nothing after it
abbrev pub CStringsAreCStrings : Type 0
CStringsAreCStrings = (bytes text : List ℕ) → AllByRecursion (λ b. b < 256) bytes → IsTrue (has_no_zero bytes)
    → IsCStringText bytes text → CStr text []

-- the literal of a character is a character literal of the grammar, with nothing after it
abbrev pub CharactersAreCharacters : Type 0
CharactersAreCharacters = (c : ℕ) → IsScalar c → Character (character_text c) []

-- the literal of a byte is a byte literal of the grammar, with nothing after it
abbrev pub BytesAreBytes : Type 0
BytesAreBytes = (b : ℕ) → b < 256 → Byte (byte_text b) []
