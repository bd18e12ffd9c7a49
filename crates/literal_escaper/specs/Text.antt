-- Functions on texts. A text is the list of its characters.
use Rattle.std.specs.Prelude.{ℕ, Bool, false, ◌==◌, List, [], ◌∷◌, cond, length}
use Rattle.std.specs.Str.{encode_utf8_all}

-- how many bytes the text has in UTF-8
abbrev pub bytes : List ℕ → ℕ
bytes text = length (encode_utf8_all text)

-- whether the text begins with the character
abbrev pub first_is : ℕ → List ℕ → Bool
first_is c [] = false
first_is c (d ∷ text) = d == c

-- the longest prefix whose characters all pass
abbrev pub while_front : (ℕ → Bool) → List ℕ → List ℕ
while_front passes [] = []
while_front passes (c ∷ text) = cond (passes c) (c ∷ while_front passes text) []

-- the text after the longest prefix whose characters all pass
abbrev pub while_rest : (ℕ → Bool) → List ℕ → List ℕ
while_rest passes [] = []
while_rest passes (c ∷ text) = cond (passes c) (while_rest passes text) (c ∷ text)
