-- Classes of characters, by name.
use Rattle.std.specs.Prelude.{ℕ, Bool, not, ◌&&◌, ◌==◌, nat_eq, nat_lt, get_or, bit_and}
use Rattle.std.specs.Char.{is_ascii_digit, is_ascii_hexdigit, is_digit}
use Rattle.lexical.specs.Character.{hash_sign}
use Rattle.lexical.specs.Class.{is_white, is_ident_start, is_ident_continue}
use Rattle.lexical.specs.Delimiter.{is_opener, is_closer}
use Rattle.lexical.specs.Mark.{is_mark}
use Rattle.lexical.specs.Number.{bars_dot, is_digit_or_underscore, is_digit_or_underscore_in, is_exponent_letter}
use Rattle.lexical.specs.Number.{is_sign}
use Rattle.lexical.specs.Number.{is_underscore}
use Rattle.lexical.specs.Quoted.{is_code_digit}
use Rattle.lexical.specs.declared.bytes.Base.{Base}
use Rattle.lexical.specs.declared.bytes.Base.TheVariants.{Binary, Octal, Hexadecimal}
use Rattle.lexical.specs.declared.bytes.Class.{Class}
use Rattle.lexical.specs.declared.bytes.Class.TheVariants.{Digit, DigitOrUnderscore, Underscore, DigitOf}
use Rattle.lexical.specs.declared.bytes.Class.TheVariants.{DigitOrUnderscoreOf}
use Rattle.lexical.specs.declared.bytes.Class.TheVariants.{Sign, ExponentLetter, HexDigit, CodeDigit, Hash}
use Rattle.lexical.specs.declared.bytes.Class.TheVariants.{IdentifierStart, IdentifierContinue, BarsDot}
use Rattle.lexical.specs.declared.bytes.Class.TheVariants.{White, Opener, Closer, Mark}
use Rattle.lexical.specs.declared.bytes.TheConstants.{KINDS}

-- how many digits the base has
abbrev pub radix : Base → ℕ
radix Binary = 2
radix Octal = 8
radix Hexadecimal = 16

-- whether the character is in the class
abbrev pub is_in : Class → ℕ → Bool
is_in Digit = is_ascii_digit
is_in DigitOrUnderscore = is_digit_or_underscore
is_in Underscore = is_underscore
is_in (DigitOf base) = λ c. is_digit c (radix base)
is_in (DigitOrUnderscoreOf base) = is_digit_or_underscore_in (radix base)
is_in Sign = is_sign
is_in ExponentLetter = is_exponent_letter
is_in HexDigit = is_ascii_hexdigit
is_in CodeDigit = is_code_digit
is_in Hash = λ c. c == hash_sign
is_in IdentifierStart = is_ident_start
is_in IdentifierContinue = is_ident_continue
is_in BarsDot = bars_dot
is_in White = is_white
is_in Opener = is_opener
is_in Closer = is_closer
is_in Mark = is_mark

-- whether the character is ASCII and in the class
abbrev pub ascii_in : Class → ℕ → Bool
ascii_in class c = nat_lt c 128 && is_in class c

-- whether the kind of the byte is one of `kinds`, a set of bits
abbrev pub has_kind : ℕ → ℕ → Bool
has_kind kinds byte = not (nat_eq (bit_and (get_or KINDS byte 0) kinds) 0)
