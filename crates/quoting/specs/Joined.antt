-- Streams some of whose marks are written close to the next mark.
use Rattle.std.specs.Prelude.{ℕ, Bool, false, not, ◌&&◌, ◌||◌, ◌==◌, List, [], ◌∷◌, Option, Some, None, codes}
use Rattle.proc_macro2.specs.Character.{single_quote}
use Rattle.proc_macro2.specs.Forest.{Forest, nil, leaf, group}
use Rattle.proc_macro2.specs.Front.{begins_any}
use Rattle.proc_macro2.specs.Mark.{comment_fronts}
use Rattle.proc_macro2.specs.Token.{Token, Name, Mark, Literal}
use Rattle.proc_macro2.specs.WellSpaced.{next_token}

-- the texts of two marks that begin an operator of Rust. `<<`, `>>` and `||` are left out, because they are also the
-- angles of types and the bars around no parameters
abbrev pub operator_fronts : List (List ℕ)
operator_fronts =
    codes "::" ∷ codes "->" ∷ codes "=>" ∷ codes "<-" ∷ codes "&&" ∷ codes ".." ∷ codes ".=" ∷ codes "==" ∷ codes "!="
    ∷ codes "<=" ∷ codes ">=" ∷ codes "+=" ∷ codes "-=" ∷ codes "*=" ∷ codes "/=" ∷ codes "%=" ∷ codes "^="
    ∷ codes "&=" ∷ codes "|=" ∷ []

-- whether the two marks begin an operator or a comment if they are written close
abbrev pub begins_operator : ℕ → ℕ → Bool
begins_operator c d = begins_any operator_fronts (c ∷ d ∷ []) || begins_any comment_fronts (c ∷ d ∷ [])

-- whether the mark may be joined with the next token of its list: this is a mark, and the two begin no operator. `'`
-- may not
abbrev pub may_join : ℕ → Option Token → Bool
may_join c None = false
may_join c (Some (Name raw name)) = false
may_join c (Some (Mark d joint)) = not (c == single_quote) && not (begins_operator c d)
may_join c (Some (Literal text)) = false

-- the token before the next token of its list. A mark becomes Joint if it is wanted and may be joined
abbrev pub joined_token : Bool → Token → Option Token → Token
joined_token want (Name raw name) next = Name raw name
joined_token want (Mark c joint) next = Mark c (joint || (want && may_join c next))
joined_token want (Literal text) next = Literal text

-- the first of the answers, or no if there is none
abbrev pub first_want : List Bool → Bool
first_want [] = false
first_want (want ∷ wants) = want

-- the answers after the first
abbrev pub later_wants : List Bool → List Bool
later_wants [] = []
later_wants (want ∷ wants) = wants

-- the answers after that of the token, which has one if it is a mark
abbrev pub past_token : Token → List Bool → List Bool
past_token (Name raw name) wants = wants
past_token (Mark c joint) wants = later_wants wants
past_token (Literal text) wants = wants

-- the answers after those of the marks of the stream, at any depth
abbrev pub past_stream : Forest → List Bool → List Bool
past_stream nil wants = wants
past_stream (leaf token lo hi rest) wants = past_stream rest (past_token token wants)
past_stream (group d lo hi inside rest) wants = past_stream rest (past_stream inside wants)

-- `joined`: the same trees with the same spans, in which each mark that is wanted and may be joined is Joint. `wants`
-- has an answer for each mark in reading order
abbrev pub joined : List Bool → Forest → Forest
joined wants nil = nil
joined wants (leaf token lo hi rest) =
    leaf (joined_token (first_want wants) token (next_token rest)) lo hi (joined (past_token token wants) rest)
joined wants (group d lo hi inside rest) = group d lo hi (joined wants inside) (joined (past_stream inside wants) rest)
