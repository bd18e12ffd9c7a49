-- The printed text of trees.
use Rattle.std.specs.Prelude.{ℕ, Bool, true, false, not, List, [], ◌++◌, codes, if◌then◌else◌}
use Rattle.lexical.specs.Token.{Token, Name, Mark, Literal, token_text}
use Rattle.pm_stream.specs.Delimited.{opening, closing, is_brace}
use Rattle.pm_stream.specs.Forest.{Forest, nil, leaf, group}

-- whether a space goes between this token and the next tree
abbrev pub parts : Token → Bool
parts (Name raw name) = true
parts (Mark c joint) = not joint
parts (Literal text) = true

-- a space if gap, and otherwise nothing
abbrev pub space : Bool → List ℕ
space gap = if gap then codes " " else []

-- the printed text of the trees, with a space before them if gap
abbrev pub printed_after : Bool → Forest → List ℕ
printed_after gap nil = []
printed_after gap (leaf token lo hi rest) = space gap ++ (token_text token ++ printed_after (parts token) rest)
printed_after gap (group d lo hi inside rest) =
    space gap ++ (opening d ++ (printed_after (is_brace d) inside
    ++ (space (is_brace d) ++ (closing d ++ printed_after true rest))))

-- `printed`: the printed text of a stream
abbrev pub printed : Forest → List ℕ
printed = printed_after false
