-- How characters are written in string literals.
use Rattle.std.specs.Prelude.{ℕ, ◌≡◌, List, [], ◌∷◌, ◌++◌, codes, Option, MatchOption}
use Rattle.std.specs.Char.Escape.{escape_unicode}
use Rattle.std.specs.Str.{chars}
use denote.Bor.{Bor}
use Rattle.token_buffer.specs.declared.string.Escape.{Escape}
use Rattle.token_buffer.specs.declared.string.Escape.TheVariants as escapes

-- how the character is written (92 is the backslash)
abbrev pub escape_text : Escape → List ℕ
escape_text (escapes.Bare c) = c ∷ []
escape_text (escapes.Short c) = 92 ∷ c ∷ []
escape_text escapes.LongZero = codes "\\x00"
escape_text (escapes.Unicode c) = escape_unicode c

-- whether the result is the text after this prefix, or `None` if the text doesn't begin with it
abbrev pub IsAfter : List ℕ → List ℕ → Option (Bor (List ℕ)) → Type 0
IsAfter front text result =
    MatchOption result ((rest : List ℕ) → text ≡ front ++ rest → ⊥) (λ rest. text ≡ front ++ chars rest.now)
