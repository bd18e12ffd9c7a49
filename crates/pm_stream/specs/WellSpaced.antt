-- When parsing the printed text of a stream gives the stream again.
use Rattle.std.specs.Prelude.{ℕ, Bool, true, false, not, ◌&&◌, ◌==◌, Option, Some, None, [], ◌∷◌, IsTrue, if◌then◌else◌}
use Rattle.lexical.specs.Character.{single_quote}
use Rattle.lexical.specs.Text.{begins_any, first_passes}
use Rattle.lexical.specs.Mark.{comment_fronts, quotable_fronts}
use Rattle.lexical.specs.Token.{Token, Name, Mark, Literal}
use Rattle.pm_stream.specs.Forest.{Forest, nil, leaf, group}
use Rattle.pm_stream.specs.Shown.{is_shown}

-- whether the next tree is an identifier, or a literal that may come right after `'`
abbrev pub follows_quote : Option Token → Bool
follows_quote None = false
follows_quote (Some (Name raw name)) = true
follows_quote (Some (Mark c joint)) = false
follows_quote (Some (Literal text)) = begins_any quotable_fronts text

-- whether the next tree is a mark with which c begins no comment, or a literal that begins with `'`
abbrev pub follows_joint : ℕ → Option Token → Bool
follows_joint c None = false
follows_joint c (Some (Name raw name)) = false
follows_joint c (Some (Mark d joint)) = not (begins_any comment_fronts (c ∷ d ∷ []))
follows_joint c (Some (Literal text)) = first_passes (λ d. d == single_quote) text

-- whether the token may come before the next tree, which is given if it is a token. `'` is never Alone
abbrev pub fits : Token → Option Token → Bool
fits (Name raw name) next = true
fits (Mark c false) next = not (c == single_quote)
fits (Mark c true) next = if c == single_quote then follows_quote next else follows_joint c next
fits (Literal text) next = true

-- the first tree, if it is a token
abbrev pub next_token : Forest → Option Token
next_token nil = None
next_token (leaf token lo hi rest) = Some token
next_token (group d lo hi inside rest) = None

-- whether each token fits, in the stream and in each group, and each group has delimiters
abbrev pub well_spaced : Forest → Bool
well_spaced nil = true
well_spaced (leaf token lo hi rest) = fits token (next_token rest) && well_spaced rest
well_spaced (group d lo hi inside rest) = is_shown d && (well_spaced inside && well_spaced rest)

-- `well-spaced`: spacings fit what follows, and each group has delimiters, so parsing the printed text gives the stream
abbrev pub IsWellSpaced : Forest → Type 0
IsWellSpaced stream = IsTrue (well_spaced stream)
