-- Floats and integers.
use Rattle.std.specs.Prelude.{ℕ, Bool, ◌||◌, ◌==◌, List, [], ◌∷◌, codes}
use Rattle.std.specs.Char.{is_ascii_digit, is_digit}
use Rattle.lexical.specs.Character.{capital_e, dot as dot_sign, letter_e, minus_sign, plus_sign, underscore}
use Rattle.lexical.specs.Class.{is_ident_start, is_ident_continue}
use Rattle.lexical.specs.Form.{Form}
use Rattle.lexical.specs.Rule.{Rule, One, Run, Exactly, Then, Either, Else, NotAt, NotBefore, Stands, perhaps}
use Rattle.lexical.specs.Quoted.{suffix}

-- whether the character is `_`
abbrev pub is_underscore : ℕ → Bool
is_underscore c = c == underscore

-- whether the character is an ASCII digit or `_`
abbrev pub is_digit_or_underscore : ℕ → Bool
is_digit_or_underscore c = is_ascii_digit c || is_underscore c

-- `digits`: a digit, and all digits and `_` after it
abbrev pub digits : Rule
digits = Then (One is_ascii_digit) (Run is_digit_or_underscore)

-- `number-end`: a suffix, if no character follows that may continue an identifier
abbrev pub end : Rule
end = NotBefore is_ident_continue suffix

-- ---- floats

-- whether a dot right before the character belongs to no number
abbrev pub bars_dot : ℕ → Bool
bars_dot c = (c == dot_sign) || is_ident_start c

-- `dot`: a dot, if neither a dot nor a character follows that may begin an identifier
abbrev pub dot : Rule
dot = NotBefore bars_dot (Exactly (codes "."))

-- whether the character is `e` or `E`
abbrev pub is_exponent_letter : ℕ → Bool
is_exponent_letter c = (c == letter_e) || (c == capital_e)

-- whether the character is `+` or `-`
abbrev pub is_sign : ℕ → Bool
is_sign c = (c == plus_sign) || (c == minus_sign)

-- the digits of an exponent, with any `_` before them
abbrev pub exponent_digits : Rule
exponent_digits = Then (Run is_underscore) digits

-- `exponent`: `e` or `E`, at most one sign with any `_` before and after it, and digits
abbrev pub exponent : Rule
exponent = Then (One is_exponent_letter) (Then (Run is_underscore) (Then (perhaps (One is_sign)) exponent_digits))

-- a dot after digits, with what follows it: digits and `_`, an exponent if there is one, and a suffix
abbrev pub fraction : Rule
fraction = Then dot (Then (Run is_digit_or_underscore) (Then (perhaps exponent) end))

-- the part that makes a float of the digits before it: it has a dot or an exponent
abbrev pub float_tail : Rule
float_tail = Either fraction (Then exponent end)

-- `float`: digits, and then a dot or an exponent
abbrev pub float : Rule
float = Then digits float_tail

-- the part after the first digits of a number without the prefix of a base
abbrev pub tail : Rule
tail = Else float_tail end

-- ---- integers

-- the prefixes of the integers in other bases: `0x`, `0o` and `0b`
abbrev pub base_prefixes : List (List ℕ)
base_prefixes = codes "0x" ∷ codes "0o" ∷ codes "0b" ∷ []

-- `decimal`: digits, if the prefix of a base does not begin there
abbrev pub decimal : Rule
decimal = NotAt base_prefixes digits

-- whether the character is a digit of the base or `_`
abbrev pub is_digit_or_underscore_in : ℕ → ℕ → Bool
is_digit_or_underscore_in base c = is_digit c base || is_underscore c

-- a digit of the base, and all digits of the base and `_` after it
abbrev pub base_digits : ℕ → Rule
base_digits base = Then (One (λ c. is_digit c base)) (Run (is_digit_or_underscore_in base))

-- `base-digits`: digits of the base and `_`, with at least one digit, if no digit follows that is too large for the
-- base
abbrev pub digits_in : ℕ → Rule
digits_in base = NotBefore is_ascii_digit (Then (Run is_underscore) (base_digits base))

-- `based`: a prefix and the digits of base 16, 8 or 2 after it
abbrev pub based_number : Rule
based_number =
    Either (Then (Exactly (codes "0x")) (digits_in 16))
    (Either (Then (Exactly (codes "0o")) (digits_in 8))
    (Then (Exactly (codes "0b")) (digits_in 2)))

-- the digits of an integer, with the prefix of its base if it has one
abbrev pub integer : Rule
integer = Either decimal based_number

-- ---- both

-- `number`: a float, or an integer if no float begins there, neither a shorter nor a longer one
unfoldable pub number : Rule
number = Else float (Then integer end)

-- `digits`: a piece of the rule `digits`
abbrev pub Digits : Form
Digits = Stands digits

-- `number`: a piece of the rule `number`
abbrev pub Number : Form
Number = Stands number
