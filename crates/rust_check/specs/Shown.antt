-- How a line is shown on a terminal, and how many columns it takes.
use Rattle.std.specs.Prelude.{ℕ, zero, suc, false, ◌==◌, ◌||◌, List, [], ◌∷◌, ◌++◌, Option, Some, None, codes}
use Rattle.std.specs.Prelude.{encode_utf8, length, if◌then◌else◌}
use Rattle.unicode_width.specs.Width.{char_width}
use Rattle.messages.specs.Each.{each}
use Rattle.rust_check.specs.Hidden.{is_hidden}

-- the text `n` times
abbrev pub times : ℕ → List ℕ → List ℕ
times zero text = []
times (suc n) text = text ++ times n text

-- a character as it is shown: a tab as four spaces, CR and hidden characters as U+FFFD
abbrev pub visible_char : ℕ → List ℕ
visible_char c =
    if c == 9 then codes "    " else (if (c == 13) || is_hidden c then encode_utf8 0xFFFD else encode_utf8 c)

abbrev pub or_none : Option ℕ → ℕ
or_none (Some width) = width
or_none None = 0

-- the number of columns that a character takes as it is shown
abbrev pub columns : ℕ → ℕ
columns c = if c == 9 then 4 else (if (c == 13) || is_hidden c then 1 else or_none (char_width false c))

-- `fill` once for each column of the text
abbrev pub fill_columns : List ℕ → List ℕ → List ℕ
fill_columns fill text = each (λ c. times (columns c) fill) text

-- a caret for each column of the text, but at least one
abbrev pub carets : List ℕ → List ℕ
carets text = if length (fill_columns (codes "^") text) == 0 then codes "^" else fill_columns (codes "^") text
