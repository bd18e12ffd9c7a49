-- Positions in a text, and its lines.
use Rattle.std.specs.Prelude.{ℕ, Bool, not, ◌||◌, ◌==◌, ◌+◌, List, [], ◌∷◌, count_by, encode_utf8, length}
use Rattle.std.specs.Prelude.{if◌then◌else◌, reverse, take_while}
use Rattle.pm_span.specs.CharOffset.{is_line_feed}
use Rattle.rust_check.specs.declared.finding.TextPosition.{TextPosition}

-- the number of the line on which a text ends, counted from 1
abbrev pub last_number : List ℕ → ℕ
last_number text = 1 + count_by is_line_feed text

-- the last line of a text: all after the last LF
abbrev pub last_line : List ℕ → List ℕ
last_line text = reverse (take_while (λ c. not (is_line_feed c)) (reverse text))

-- whether the character ends a line of the source: LF and CR do
abbrev pub ends_line : ℕ → Bool
ends_line c = is_line_feed c || (c == 13)

-- the first line of a text, which ends before the first LF or CR
abbrev pub first_line : List ℕ → List ℕ
first_line text = take_while (λ c. not (ends_line c)) text

-- the position at which a text begins
abbrev pub front : TextPosition
front = record { line = 1; column = 0; begin = 0 }

-- the position after one more character
abbrev pub place_after : TextPosition → ℕ → TextPosition
place_after place c = record {
  line = if c == 10 then place.line + 1 else place.line;
  column = if c == 10 then 0 else place.column + 1;
  begin = place.begin + length (encode_utf8 c);
}

-- the position after the text
abbrev pub places_after : TextPosition → List ℕ → TextPosition
places_after place [] = place
places_after place (c ∷ text) = places_after (place_after place c) text
