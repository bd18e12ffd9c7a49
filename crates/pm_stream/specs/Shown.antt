-- Which groups are visible in a printed text.
use Rattle.std.specs.Prelude.{Bool, true, false}
use Rattle.pm_token.specs.declared.delimiters.Delimiter.{Delimiter}
use Rattle.pm_token.specs.declared.delimiters.Delimiter.TheVariants.{Parenthesis, Brace, Bracket, None}

-- whether the printed text shows where a group with this delimiter begins and ends
abbrev pub is_shown : Delimiter → Bool
is_shown Parenthesis = true
is_shown Brace = true
is_shown Bracket = true
is_shown None = false
