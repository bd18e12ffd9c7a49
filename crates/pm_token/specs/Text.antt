-- Texts, as lists of their characters.
use Rattle.std.specs.Prelude.{ℕ, List, IsTrue}
use Rattle.std.specs.Str.{all_scalars}

-- `text`: whether each character is a Unicode scalar, as it is in every `&str`
abbrev pub IsText : List ℕ → Type 0
IsText text = IsTrue (all_scalars text)
