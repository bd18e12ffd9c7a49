-- How each kind of string reads its characters and escapes.
use Rattle.std.specs.Prelude.{ℕ, ◌&&◌, nat_le, nat_lt, if◌then◌else◌, Result, Ok, Err}
use Rattle.std.specs.Char.{is_ascii}
use Rattle.literal_escaper.specs.declared.errors.EscapeError.{EscapeError}
use Rattle.literal_escaper.specs.declared.errors.EscapeError.TheVariants.{LoneSurrogateUnicodeEscape}
use Rattle.literal_escaper.specs.declared.errors.EscapeError.TheVariants.{NonAsciiCharInByte, OutOfRangeHexEscape}
use Rattle.literal_escaper.specs.declared.errors.EscapeError.TheVariants.{OutOfRangeUnicodeEscape, UnicodeEscapeInByte}
use Rattle.literal_escaper.specs.declared.mixed_unit.MixedUnit.{MixedUnit}
use Rattle.literal_escaper.specs.Units.{c_byte, c_char}

-- a kind of string with units of this type
pub record Kind (U : Type 0) : Type 0 where
  -- the unit of a character, which is written as it is or meant by a letter after a backslash
  pub of_char : ℕ → Result U EscapeError
  -- the unit of a number of two hex digits
  pub of_hex : ℕ → Result U EscapeError
  -- the unit of a character that is written by its code in braces. The code may be an error already
  pub of_code : Result ℕ EscapeError → Result U EscapeError

-- the character with this code, or an error
abbrev pub character : ℕ → Result ℕ EscapeError
character code =
    if nat_lt 0x10_FFFF code then Err OutOfRangeUnicodeEscape
    else if nat_le 0xD800 code && nat_lt code 0xE000 then Err LoneSurrogateUnicodeEscape
    else Ok code

-- the unit of a character of a string, which may be any
abbrev pub any_char : ℕ → Result ℕ EscapeError
any_char c = Ok c

-- the unit of a number of two hex digits in a string, which must be ASCII
abbrev pub ascii_char : ℕ → Result ℕ EscapeError
ascii_char n = if is_ascii n then Ok n else Err OutOfRangeHexEscape

-- the unit of a character of a byte string, which must be ASCII
abbrev pub ascii_byte : ℕ → Result ℕ EscapeError
ascii_byte c = if is_ascii c then Ok c else Err NonAsciiCharInByte

-- the unit of a code in braces in a C string, which must not be zero
abbrev pub c_code : Result ℕ EscapeError → Result MixedUnit EscapeError
c_code (Ok c) = c_char c
c_code (Err e) = Err e

-- `string-kind`: the kind of strings, whose units are characters
abbrev pub string_kind : Kind ℕ
string_kind = record { of_char = any_char; of_hex = ascii_char; of_code = λ code. code }

-- `byte-kind`: the kind of byte strings, whose units are bytes
abbrev pub byte_kind : Kind ℕ
byte_kind = record { of_char = ascii_byte; of_hex = λ n. Ok n; of_code = λ code. Err UnicodeEscapeInByte }

-- `c-kind`: the kind of C strings, whose units are characters and bytes, none of them zero
abbrev pub c_kind : Kind MixedUnit
c_kind = record { of_char = c_char; of_hex = c_byte; of_code = c_code }
