-- Characters that the rules name.
use Rattle.std.specs.Prelude.{ℕ, Bool, ◌||◌, ◌==◌}

-- `\`
abbrev pub backslash : ℕ
backslash = 92

-- `"`
abbrev pub double_quote : ℕ
double_quote = 34

-- `'`
abbrev pub quote : ℕ
quote = 39

-- a tab
abbrev pub tab : ℕ
tab = 9

-- LF
abbrev pub line_feed : ℕ
line_feed = 10

-- CR
abbrev pub carriage_return : ℕ
carriage_return = 13

-- a space
abbrev pub space : ℕ
space = 32

-- `{`
abbrev pub open_brace : ℕ
open_brace = 123

-- `}`
abbrev pub close_brace : ℕ
close_brace = 125

-- `_`
abbrev pub underscore : ℕ
underscore = 95

-- `0`
abbrev pub digit_0 : ℕ
digit_0 = 48

-- `n`
abbrev pub letter_n : ℕ
letter_n = 110

-- `r`
abbrev pub letter_r : ℕ
letter_r = 114

-- `t`
abbrev pub letter_t : ℕ
letter_t = 116

-- `u`
abbrev pub letter_u : ℕ
letter_u = 117

-- `x`
abbrev pub letter_x : ℕ
letter_x = 120

-- whether the character is a space, a tab, LF or CR. These are skipped after a backslash and a line end
abbrev pub is_blank : ℕ → Bool
is_blank c = (c == space) || (c == tab) || (c == line_feed) || (c == carriage_return)
