-- Delimiters.
use Rattle.std.specs.Prelude.{ℕ, Bool, ◌&&◌, ◌==◌, List, [], ◌∷◌, codes}
use Rattle.std.specs.List.{list_any}
use Rattle.lexical.specs.Form.{Form, NotAt, One}
use Rattle.lexical.specs.Rule as rules
use Rattle.lexical.specs.Rule.{Rule}

-- whether the character is one of the three openers `(`, `[`, `{`
abbrev pub is_opener : ℕ → Bool
is_opener c = list_any (λ d. d == c) (codes "([{")

-- whether the character is one of the three closers `)`, `]`, `}`
abbrev pub is_closer : ℕ → Bool
is_closer c = list_any (λ d. d == c) (codes ")]}")

-- the text of the one literal that begins with an opener: `(/*ERROR*/)`
abbrev pub error_literal : List ℕ
error_literal = codes "(/*ERROR*/)"

-- `opener`: an opener at which the literal `(/*ERROR*/)` does not begin
abbrev pub opener : Rule
opener = rules.NotAt (error_literal ∷ []) (rules.One is_opener)

-- `closer`: a closer
abbrev pub closer : Rule
closer = rules.One is_closer

-- `opener`: the opener c
abbrev pub Opener : ℕ → Form
Opener c = NotAt (error_literal ∷ []) (One (λ d. is_opener d && (d == c)))

-- `closer`: the closer c
abbrev pub Closer : ℕ → Form
Closer c = One (λ d. is_closer d && (d == c))
