-- The end of generic arguments.
use Rattle.std.specs.Prelude.{ℕ, suc, ◌==◌, ◌-◌, ◌^◌, nat_lt, ◌&&◌, Bool, false, not, Option, Some, None}
use Rattle.std.specs.Prelude.{if◌then◌else◌}
use Rattle.lexical.specs.Token.{Token, Name, Mark, Literal}
use Rattle.pm_token.specs.Leaf.{is_joint}
use Rattle.pm_stream.specs.Forest.{Forest, nil, leaf, group}
use Rattle.token_buffer.specs.declared.cursor.TokenText.{TokenText}
use Rattle.token_buffer.specs.declared.cursor.TokenText.TheVariants as texts

-- whether the token is this mark
abbrev pub is_token_mark : ℕ → Token → Bool
is_token_mark mark (Name raw text) = false
is_token_mark mark (Mark c joint) = c == mark
is_token_mark mark (Literal text) = false

-- whether the token is a Joint `-` (45)
abbrev pub begins_arrow : Token → Bool
begins_arrow (Name raw text) = false
begins_arrow (Mark c joint) = (c == 45) && joint
begins_arrow (Literal text) = false

-- whether the tree is this mark
abbrev pub is_text_mark : ℕ → TokenText → Bool
is_text_mark mark (texts.Ident name) = false
is_text_mark mark (texts.Punct c spacing) = c == mark
is_text_mark mark (texts.Literal literal) = false
is_text_mark mark (texts.Group d inside) = false

abbrev pub text_begins_arrow : TokenText → Bool
text_begins_arrow (texts.Ident name) = false
text_begins_arrow (texts.Punct c spacing) = (c == 45) && is_joint spacing
text_begins_arrow (texts.Literal literal) = false
text_begins_arrow (texts.Group d inside) = false

-- the trees after the `>` (62) that closes a `<` (60) before the trees, if `depth` others are open inside of it. A
-- `>` right after the `-` of an arrow closes none. At most 2 ^ 32 - 1 can be open
abbrev pub past_arguments : ℕ → Bool → Forest → Option Forest
past_arguments depth arrow nil = None
past_arguments depth arrow (leaf token lo hi rest) =
    if is_token_mark 60 token
    then (if nat_lt (suc depth) (2 ^ 32) then past_arguments (suc depth) (begins_arrow token) rest else None)
    else if is_token_mark 62 token && not arrow
    then (if depth == 0 then Some rest else past_arguments (depth - 1) (begins_arrow token) rest)
    else past_arguments depth (begins_arrow token) rest
past_arguments depth arrow (group d lo hi inside rest) = past_arguments depth false rest

-- the trees after the generic arguments that come first
abbrev pub after_arguments : Forest → Option Forest
after_arguments nil = None
after_arguments (leaf token lo hi rest) = if is_token_mark 60 token then past_arguments 0 false rest else None
after_arguments (group d lo hi inside rest) = None

-- whether the token is a Joint `:` (58)
abbrev pub is_joint_colon : Token → Bool
is_joint_colon (Name raw text) = false
is_joint_colon (Mark c joint) = (c == 58) && joint
is_joint_colon (Literal text) = false

-- the trees after a `:` and generic arguments that come first
abbrev pub past_colon : Forest → Option Forest
past_colon nil = None
past_colon (leaf token lo hi rest) = if is_token_mark 58 token then after_arguments rest else None
past_colon (group d lo hi inside rest) = None

-- the trees after the turbofish that comes first: `::` and generic arguments
abbrev pub after_turbofish : Forest → Option Forest
after_turbofish nil = None
after_turbofish (leaf token lo hi rest) = if is_joint_colon token then past_colon rest else None
after_turbofish (group d lo hi inside rest) = None
