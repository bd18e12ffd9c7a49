-- Negative literals in two parts, as streams have them.
use Rattle.std.specs.Prelude.{ℕ, Bool, ◌==◌, List, drop}
use Rattle.lexical.specs.Text.{first_passes}
use Rattle.pm_token.specs.Leaf.{Mark, Text}
use Rattle.pm_token.specs.declared.marks.Spacing.TheVariants.{Alone}

-- whether the text begins with `-`. The text of a `Literal` does so exactly if it is a `negative-literal`
abbrev pub has_minus : List ℕ → Bool
has_minus text = first_passes (λ c. c == 45) text

-- the mark of a negative literal: `-`, Alone, with the literal's span
abbrev pub minus_of : Text → Mark
minus_of literal = record { mark = 45; spacing = Alone; span = literal.span }

-- the number of a negative literal, with the literal's span
abbrev pub number_of : Text → Text
number_of literal = record { text = drop 1 literal.text; span = literal.span }
