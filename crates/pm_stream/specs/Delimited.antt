-- How each delimiter is written.
use Rattle.std.specs.Prelude.{ℕ, Bool, true, false, ◌||◌, ◌==◌, List, [], codes, if◌then◌else◌}
use Rattle.pm_token.specs.declared.delimiters.Delimiter.{Delimiter}
use Rattle.pm_token.specs.declared.delimiters.Delimiter.TheVariants.{Parenthesis, Brace, Bracket, None}

-- the text that a group begins with, empty for a group without delimiters
abbrev pub opening : Delimiter → List ℕ
opening Parenthesis = codes "("
opening Brace = codes "{"
opening Bracket = codes "["
opening None = []

-- the text that a group ends with, empty for a group without delimiters
abbrev pub closing : Delimiter → List ℕ
closing Parenthesis = codes ")"
closing Brace = codes "}"
closing Bracket = codes "]"
closing None = []

-- whether the delimiter is `Brace`
abbrev pub is_brace : Delimiter → Bool
is_brace Parenthesis = false
is_brace Brace = true
is_brace Bracket = false
is_brace None = false

-- the delimiter that the character opens or closes
abbrev pub delimiter_of : ℕ → Delimiter
delimiter_of c = if (c == 40) || (c == 41) then Parenthesis else (if (c == 123) || (c == 125) then Brace else Bracket)
