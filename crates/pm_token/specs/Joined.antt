-- The value of a content with escapes, from the units of the grammar.
use Rattle.std.specs.Prelude.{ℕ, nat_eq, Bool, true, false, ◌&&◌, ◌||◌, ◌==◌, if◌then◌else◌, List, [], ◌∷◌, ◌++◌, codes}
use Rattle.std.specs.Prelude.{encode_utf8, filter}
use Rattle.std.specs.Char.{is_ascii_hexdigit}
use Rattle.std.specs.Cmp.Lexicographic.{pointwise}
use Rattle.lexical.specs.Quoted.{hex_value}
use Rattle.literal_escaper.specs.Character.{backslash, carriage_return, digit_0, letter_n, letter_r, letter_t, letter_u}
use Rattle.literal_escaper.specs.Character.{letter_x, line_feed, space, tab}

-- the values that a kind of literal gives to a character, and to the number of two hex digits
pub record Makes : Type 0 where
  pub of_char : ℕ → List ℕ
  pub of_hex : ℕ → List ℕ

-- strings and byte strings: one number, which is that of the character or byte
abbrev pub numbers : Makes
numbers = record { of_char = λ c. c ∷ []; of_hex = λ n. n ∷ [] }

-- C strings: the UTF-8 of the character, and one byte for two hex digits
abbrev pub utf8 : Makes
utf8 = record { of_char = λ c. encode_utf8 c; of_hex = λ byte. byte ∷ [] }

-- ---- one unit

-- the character that a letter means after a backslash
abbrev pub meant : ℕ → ℕ
meant c =
    if c == letter_n then line_feed
    else if c == letter_r then carriage_return
    else if c == letter_t then tab
    else if c == digit_0 then 0
    else c

-- the number that the hex digits in a text write
abbrev pub number_in : List ℕ → ℕ
number_in text = hex_value (filter is_ascii_hexdigit text)

-- the value of an escape, given the text after its backslash
abbrev pub escape_value : Makes → List ℕ → List ℕ
escape_value makes [] = []
escape_value makes (c ∷ text) =
    if c == letter_x then makes.of_hex (number_in text)
    else if c == letter_u then makes.of_char (number_in text)
    else makes.of_char (meant c)

-- the value of a unit that is not skipped: that of its escape, or of the character itself
abbrev pub unit_value : Makes → List ℕ → List ℕ
unit_value makes [] = []
unit_value makes (c ∷ text) = if c == backslash then escape_value makes text else makes.of_char c

-- ---- all units

-- whether a unit is a backslash and LF
abbrev pub is_line_skip : List ℕ → Bool
is_line_skip unit = pointwise nat_eq unit (codes "\\\n")

-- whether a unit is a space, a tab or LF
abbrev pub is_blank : List ℕ → Bool
is_blank [] = false
is_blank (c ∷ []) = (c == space) || (c == tab) || (c == line_feed)
is_blank (c ∷ (d ∷ text)) = false

-- whether a unit gives nothing: a backslash and LF, or a blank while blanks are skipped
abbrev pub is_skipped : Bool → List ℕ → Bool
is_skipped skipping unit = is_line_skip unit || (skipping && is_blank unit)

-- `units-joined`: the values of the units, in order; from a backslash and LF on, blanks are skipped up to the next
-- unit that gives something
abbrev pub units_value : Makes → Bool → List (List ℕ) → List ℕ
units_value makes skipping [] = []
units_value makes skipping (unit ∷ units) =
    if is_skipped skipping unit then units_value makes true units else unit_value makes unit
    ++ units_value makes false units

-- the characters of a string, or the bytes of a byte string
abbrev pub string_joined : List (List ℕ) → List ℕ
string_joined units = units_value numbers false units

-- the bytes of a C string
abbrev pub c_joined : List (List ℕ) → List ℕ
c_joined units = units_value utf8 false units
