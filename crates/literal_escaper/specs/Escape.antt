-- Escapes: what follows a backslash. If an escape has several errors, the first from the left counts.
use Rattle.std.specs.Prelude.{ℕ, ◌+◌, ◌*◌, Bool, ◌||◌, ◌==◌, nat_lt, if◌then◌else◌, List, [], ◌∷◌, length, filter}
use Rattle.std.specs.Prelude.{Option, Some, None, Result, Err}
use Rattle.std.specs.List.{fold}
use Rattle.std.specs.Char.{digit_value, is_digit}
use Rattle.literal_escaper.specs.declared.errors.EscapeError.{EscapeError}
use Rattle.literal_escaper.specs.declared.errors.EscapeError.TheVariants.{InvalidCharInHexEscape, InvalidEscape}
use Rattle.literal_escaper.specs.declared.errors.EscapeError.TheVariants.{LoneSlash, TooShortHexEscape}
use Rattle.literal_escaper.specs.declared.errors.EscapeError.TheVariants.{EmptyUnicodeEscape}
use Rattle.literal_escaper.specs.declared.errors.EscapeError.TheVariants.{InvalidCharInUnicodeEscape}
use Rattle.literal_escaper.specs.declared.errors.EscapeError.TheVariants.{LeadingUnderscoreUnicodeEscape}
use Rattle.literal_escaper.specs.declared.errors.EscapeError.TheVariants.{NoBraceInUnicodeEscape}
use Rattle.literal_escaper.specs.declared.errors.EscapeError.TheVariants.{OverlongUnicodeEscape, UnclosedUnicodeEscape}
use Rattle.literal_escaper.specs.Character.{backslash, carriage_return, close_brace, double_quote, line_feed}
use Rattle.literal_escaper.specs.Character.{open_brace}
use Rattle.literal_escaper.specs.Character.{digit_0, letter_n, letter_r, letter_t, letter_u, letter_x, quote, tab}
use Rattle.literal_escaper.specs.Character.{underscore}
use Rattle.literal_escaper.specs.Kind.{Kind, character}
use Rattle.literal_escaper.specs.Text.{while_front, while_rest}

-- a unit or an error, and the text after the characters that were read for it
pub record Read (U : Type 0) : Type 0 where
  pub unit : Result U EscapeError
  pub rest : List ℕ

-- an error, and the text after the last character that was read
abbrev pub fault : {U : Type 0} → EscapeError → List ℕ → Read U
fault e rest = record { unit = Err e; rest = rest }

-- `item-letter`: the character that a letter after a backslash means
abbrev pub letter : ℕ → Option ℕ
letter c =
    if c == digit_0 then Some 0
    else if c == letter_n then Some line_feed
    else if c == letter_r then Some carriage_return
    else if c == letter_t then Some tab
    else if (c == backslash) || (c == quote) || (c == double_quote) then Some c
    else None

-- the unit of the character that a letter means, or an error if it means none
abbrev pub letter_unit : {U : Type 0} → Kind U → Option ℕ → Result U EscapeError
letter_unit kind None = Err InvalidEscape
letter_unit kind (Some c) = kind.of_char c

-- whether the character is a hex digit
abbrev pub is_hex : ℕ → Bool
is_hex c = is_digit c 16

-- reads the second of two hex digits, after a first digit of this value
abbrev pub second_digit : {U : Type 0} → Kind U → ℕ → List ℕ → Read U
second_digit kind high [] = fault TooShortHexEscape []
second_digit kind high (low ∷ text) =
    if is_hex low then record { unit = kind.of_hex (16 * high + digit_value low); rest = text }
    else fault InvalidCharInHexEscape text

-- `item-hex`: reads two hex digits
unfoldable pub hex_escape : {U : Type 0} → Kind U → List ℕ → Read U
hex_escape kind [] = fault TooShortHexEscape []
hex_escape kind (high ∷ text) =
    if is_hex high then second_digit kind (digit_value high) text else fault InvalidCharInHexEscape text

-- whether the character may follow the first digit in braces
abbrev pub is_code_character : ℕ → Bool
is_code_character c = is_hex c || (c == underscore)

-- the number that hex digits write
abbrev pub hex_number : List ℕ → ℕ
hex_number digits = fold (λ n c. 16 * n + digit_value c) 0 digits

-- the unit of the digits in braces, or an error
abbrev pub code_unit : {U : Type 0} → Kind U → List ℕ → Result U EscapeError
code_unit kind digits =
    if nat_lt 6 (length digits) then Err OverlongUnicodeEscape else kind.of_code (character (hex_number digits))

-- reads the closing brace after `digits`
abbrev pub read_closing : {U : Type 0} → Kind U → List ℕ → List ℕ → Read U
read_closing kind digits [] = fault UnclosedUnicodeEscape []
read_closing kind digits (c ∷ text) =
    if c == close_brace then record { unit = code_unit kind digits; rest = text }
    else fault InvalidCharInUnicodeEscape text

-- reads the digits at the start of a text, of which the first is a hex digit, and the closing brace
unfoldable pub read_code : {U : Type 0} → Kind U → List ℕ → Read U
read_code kind text = read_closing kind (filter is_hex (while_front is_code_character text))
    (while_rest is_code_character text)

-- reads the digits after `{` and the closing brace
abbrev pub read_braced : {U : Type 0} → Kind U → List ℕ → Read U
read_braced kind [] = fault UnclosedUnicodeEscape []
read_braced kind (c ∷ text) =
    if c == underscore then fault LeadingUnderscoreUnicodeEscape text
    else if c == close_brace then fault EmptyUnicodeEscape text
    else if is_hex c then read_code kind (c ∷ text)
    else fault InvalidCharInUnicodeEscape text

-- `item-code`: reads a character's code in braces
unfoldable pub unicode_escape : {U : Type 0} → Kind U → List ℕ → Read U
unicode_escape kind [] = fault NoBraceInUnicodeEscape []
unicode_escape kind (c ∷ text) =
    if c == open_brace then read_braced kind text else fault NoBraceInUnicodeEscape text

-- `item-escape`: reads an escape after a backslash
unfoldable pub escape : {U : Type 0} → Kind U → List ℕ → Read U
escape kind [] = fault LoneSlash []
escape kind (c ∷ text) =
    if c == letter_x then hex_escape kind text
    else if c == letter_u then unicode_escape kind text
    else record { unit = letter_unit kind (letter c); rest = text }
