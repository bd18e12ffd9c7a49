-- What `well-spaced` requires of one tree.
use Rattle.std.specs.Prelude.{Bool, true}
use Rattle.pm_token.specs.Leaf.{name_token, mark_token, text_token}
use Rattle.pm_stream.specs.Forest.{Forest}
use Rattle.pm_stream.specs.Shown.{is_shown}
use Rattle.pm_stream.specs.Steps.{Step, Enter, Leave, Token}
use Rattle.pm_stream.specs.WellSpaced.{fits, next_token}
use Rattle.pm_stream.specs.declared.stream.TokenTree.{TokenTree}
use Rattle.pm_stream.specs.declared.stream.TokenTree.TheVariants.{Group, Ident, Punct, Literal}

-- whether the token may come before these trees, or the group has delimiters
abbrev pub tree_fits : TokenTree → Forest → Bool
tree_fits (Group g) rest = is_shown g.delimiter
tree_fits (Ident i) rest = fits (name_token i) (next_token rest)
tree_fits (Punct p) rest = fits (mark_token p) (next_token rest)
tree_fits (Literal l) rest = fits (text_token l) (next_token rest)

-- whether the group that a step enters has delimiters, or its token may come before the trees after it
abbrev pub step_fits : Step → Bool
step_fits (Enter g after) = is_shown g.delimiter
step_fits (Leave g after) = true
step_fits (Token tree after) = tree_fits tree after
