-- Offsets in characters. The offset k is after the first k characters of the text.
use Rattle.std.specs.Prelude.{ℕ, Bool, not, ◌==◌, ◌+◌, List, ◌-◌, length, take, drop, reverse, count_by, take_while}
use Rattle.std.specs.Str.{encode_utf8_all}
use Rattle.pm_span.specs.declared.location.LineColumn.{LineColumn}

abbrev pub is_line_feed : ℕ → Bool
is_line_feed c = c == 10

-- `line`: 1 + the number of line feeds before the offset
abbrev pub line : List ℕ → ℕ → ℕ
line text k = 1 + count_by is_line_feed (take k text)

-- `column`: the number of characters between the offset and the last line feed before it, or the start of the text
abbrev pub column : List ℕ → ℕ → ℕ
column text k = length (take_while (λ c. not (is_line_feed c)) (reverse (take k text)))

abbrev pub line_column : List ℕ → ℕ → LineColumn
line_column text k = record { line = line text k; column = column text k }

-- `byte-offset`: the number of bytes before the offset
abbrev pub byte_offset : List ℕ → ℕ → ℕ
byte_offset text k = length (encode_utf8_all (take k text))

-- the characters between two offsets
abbrev pub between : List ℕ → ℕ → ℕ → List ℕ
between text j k = take (k - j) (drop j text)
