-- Streams whose marks are respaced.
use Rattle.std.specs.Prelude.{ℕ, Bool, true, ◌&&◌, ◌==◌, Option, if◌then◌else◌}
use Rattle.proc_macro2.specs.Character.{single_quote}
use Rattle.proc_macro2.specs.Forest.{Forest, nil, leaf, group}
use Rattle.proc_macro2.specs.Token.{Token, Name, Mark, Literal}
use Rattle.proc_macro2.specs.WellSpaced.{follows_joint, next_token}

-- whether a respaced mark is Joint: `'` always, any other if it was and the next token of its list allows it
abbrev pub is_kept_joint : ℕ → Bool → Option Token → Bool
is_kept_joint c joint next = if c == single_quote then true else (joint && follows_joint c next)

-- the token, respaced before the next token of its list
abbrev pub respaced_token : Token → Option Token → Token
respaced_token (Name raw name) next = Name raw name
respaced_token (Mark c joint) next = Mark c (is_kept_joint c joint next)
respaced_token (Literal text) next = Literal text

-- `respaced`: the same trees with the same spans at any depth, in which each mark is respaced
abbrev pub respace_marks : Forest → Forest
respace_marks nil = nil
respace_marks (leaf token lo hi rest) = leaf (respaced_token token (next_token rest)) lo hi (respace_marks rest)
respace_marks (group d lo hi inside rest) = group d lo hi (respace_marks inside) (respace_marks rest)
