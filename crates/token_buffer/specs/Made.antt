-- Trees that are made of what a cursor has left.
use Rattle.std.specs.Prelude.{ℕ, ◌+◌, ◌*◌, List, [], ◌∷◌}
use Rattle.std.specs.Str.{chars}
use Rattle.lexical.specs.Token.{Name, Mark, Literal}
use Rattle.pm_span.specs.Extent.{Extent}
use Rattle.pm_token.specs.Leaf.{is_joint}
use Rattle.pm_stream.specs.Forest.{Forest, leaf, group, chain}
use Rattle.pm_stream.specs.Size.{count}
use Rattle.pm_stream.specs.Trees.{forest}
use Rattle.token_buffer.specs.Reads.{left, literal_text}
use Rattle.token_buffer.specs.declared.cursor.TokenText.{TokenText}
use Rattle.token_buffer.specs.declared.cursor.TokenText.TheVariants as texts
use Rattle.token_buffer.specs.declared.trees.OpenTrees.{OpenTrees}

-- the tree of this text with this span, before other trees
abbrev pub first_onto : TokenText → Extent → Forest → Forest
first_onto (texts.Ident name) span rest = leaf (Name name.raw (chars name.text.now)) span.lo span.hi rest
first_onto (texts.Punct mark spacing) span rest = leaf (Mark mark (is_joint spacing)) span.lo span.hi rest
first_onto (texts.Literal literal) span rest = leaf (Literal (literal_text literal)) span.lo span.hi rest
first_onto (texts.Group delimiter inside) span rest = group delimiter span.lo span.hi (left inside) rest

-- all trees, if these are the trees of the innermost open group; the list has the innermost group first
abbrev pub whole_of : List OpenTrees → Forest → Forest
whole_of [] trees = trees
whole_of (outer ∷ groups) trees =
    whole_of groups (chain (forest outer.before.items)
    (group outer.delimiter outer.span.lo outer.span.hi trees (left outer.after)))

-- how many steps are left: one for each token, two for each group, and one for each open group
abbrev pub steps_left : List OpenTrees → Forest → ℕ
steps_left [] trees = 2 * count trees
steps_left (outer ∷ groups) trees = 2 * count trees + 1 + steps_left groups (left outer.after)
