-- The trees that are left, without most of those inside groups.
use Rattle.std.specs.Prelude.{◌||◌, Bool, false, codes, if◌then◌else◌}
use Rattle.std.specs.Str.{bytes_eq, encode_utf8_all}
use Rattle.lexical.specs.Token.{Name, Mark, Literal}
use Rattle.pm_token.specs.declared.delimiters.Delimiter.{Delimiter}
use Rattle.pm_token.specs.declared.delimiters.Delimiter.TheVariants.{Parenthesis, Bracket, Brace, None}
use Rattle.pm_stream.specs.Forest.{Forest, nil, leaf, group}
use Rattle.pm_stream.specs.Size.{is_nil}

-- whether the trees are one identifier or begin with `in`, as in the parentheses of `pub`
abbrev pub may_restrict : Forest → Bool
may_restrict nil = false
may_restrict (leaf (Name raw name) lo hi rest) = is_nil rest || bytes_eq (encode_utf8_all name) (codes "in")
may_restrict (leaf (Mark c joint) lo hi rest) = false
may_restrict (leaf (Literal text) lo hi rest) = false
may_restrict (group d lo hi inside rest) = false

-- the trees that a group keeps
abbrev pub kept_inside : Delimiter → Forest → Forest
kept_inside Parenthesis inside = if may_restrict inside then inside else nil
kept_inside Bracket inside = nil
kept_inside Brace inside = nil
kept_inside None inside = inside

-- the trees, where each group has only the trees that it keeps
abbrev pub outer : Forest → Forest
outer nil = nil
outer (leaf token lo hi rest) = leaf token lo hi (outer rest)
outer (group d lo hi inside rest) = group d lo hi (kept_inside d inside) (outer rest)
