-- Classes of characters, by name.
use Rattle.std.specs.Prelude.{ℕ, Bool, not, ◌||◌, ◌==◌, nat_eq, get_or, bit_and, is_some}
use Rattle.std.specs.Char.{is_whitespace}
use Rattle.literal_escaper.specs.declared.classes.ContentClass.{ContentClass}
use Rattle.literal_escaper.specs.declared.classes.ContentClass.TheVariants.{Blank, White, HexDigit, CodeCharacter}
use Rattle.literal_escaper.specs.declared.classes.ContentClass.TheVariants.{SimpleEscape}
use Rattle.literal_escaper.specs.declared.classes.ContentClass.TheVariants.{StringSpecial, CharSpecial, RawSpecial}
use Rattle.literal_escaper.specs.declared.classes.TheConstants.{CLASSES}
use Rattle.literal_escaper.specs.Character.{backslash, carriage_return, double_quote, is_blank, line_feed, quote, tab}
use Rattle.literal_escaper.specs.Escape.{is_code_character, is_hex, letter}

-- whether a string cannot have the character by itself
abbrev pub is_string_special : ℕ → Bool
is_string_special c = (c == backslash) || (c == double_quote) || (c == carriage_return)

-- whether a character literal cannot have the character by itself
abbrev pub is_char_special : ℕ → Bool
is_char_special c = (c == backslash) || (c == line_feed) || (c == tab) || (c == quote) || (c == carriage_return)

-- whether a raw string cannot have the character
abbrev pub is_raw_special : ℕ → Bool
is_raw_special c = c == carriage_return

-- whether the character is in the class
abbrev pub is_in : ContentClass → ℕ → Bool
is_in Blank = is_blank
is_in White = is_whitespace
is_in HexDigit = is_hex
is_in CodeCharacter = is_code_character
is_in SimpleEscape = λ c. is_some (letter c)
is_in StringSpecial = is_string_special
is_in CharSpecial = is_char_special
is_in RawSpecial = is_raw_special

-- whether the byte is in one of `classes`, a set of bits
abbrev pub has_class : ℕ → ℕ → Bool
has_class classes byte = not (nat_eq (bit_and (get_or CLASSES byte 0) classes) 0)
