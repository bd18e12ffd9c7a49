-- The units of C strings.
use Rattle.std.specs.Prelude.{ℕ, ◌==◌, nat_lt, if◌then◌else◌, Result, Ok, Err}
use Rattle.literal_escaper.specs.declared.errors.EscapeError.{EscapeError}
use Rattle.literal_escaper.specs.declared.errors.EscapeError.TheVariants.{NulInCStr}
use Rattle.literal_escaper.specs.declared.mixed_unit.MixedUnit.{MixedUnit}
use Rattle.literal_escaper.specs.declared.mixed_unit.MixedUnit.TheVariants.{Char, HighByte}

-- the unit of a byte that is not zero: up to 0x7F it is a character
abbrev pub byte_unit : ℕ → MixedUnit
byte_unit byte = if nat_lt byte 0x80 then Char byte else HighByte byte

-- the unit of a character, or an error if it is NUL
abbrev pub c_char : ℕ → Result MixedUnit EscapeError
c_char c = if c == 0 then Err NulInCStr else Ok (Char c)

-- the unit of a byte, or an error if it is zero
abbrev pub c_byte : ℕ → Result MixedUnit EscapeError
c_byte byte = if byte == 0 then Err NulInCStr else Ok (byte_unit byte)

-- the unit of a character of a raw C string, or an error if it is NUL
abbrev pub raw_c_char : ℕ → Result ℕ EscapeError
raw_c_char c = if c == 0 then Err NulInCStr else Ok c
