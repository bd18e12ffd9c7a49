-- The printed text of one tree.
use Rattle.std.specs.Prelude.{ℕ, Bool, true, List, ◌++◌}
use Rattle.lexical.specs.Token.{token_text}
use Rattle.pm_token.specs.declared.delimiters.Delimiter.{Delimiter}
use Rattle.pm_token.specs.Leaf.{name_token, mark_token, text_token}
use Rattle.pm_stream.specs.Delimited.{opening, closing, is_brace}
use Rattle.pm_stream.specs.Trees.{alone}
use Rattle.pm_stream.specs.Printed.{parts, space, printed}
use Rattle.pm_stream.specs.Steps.{Step, Enter, Leave, Token}
use Rattle.pm_stream.specs.declared.stream.Group.{Group as Grouped}
use Rattle.pm_stream.specs.declared.stream.TokenTree.{TokenTree}
use Rattle.pm_stream.specs.declared.stream.TokenTree.TheVariants.{Group, Ident, Punct, Literal}

-- the printed text of a group, with its delimiters
abbrev pub group_text : Grouped → List ℕ
group_text g = printed (alone (Group g))

-- the printed text of a token, or the opener of a group
abbrev pub front_text : TokenTree → List ℕ
front_text (Group g) = opening g.delimiter
front_text (Ident i) = token_text (name_token i)
front_text (Punct p) = token_text (mark_token p)
front_text (Literal l) = token_text (text_token l)

-- whether a space goes before what is printed next: the first tree inside a group, or the tree after a token
abbrev pub gap_within : TokenTree → Bool
gap_within (Group g) = is_brace g.delimiter
gap_within (Ident i) = parts (name_token i)
gap_within (Punct p) = parts (mark_token p)
gap_within (Literal l) = parts (text_token l)

-- the closer of a group, with a space before `}`
abbrev pub ending : Delimiter → List ℕ
ending d = space (is_brace d) ++ closing d

-- what is printed of one step, with a space before it if gap
abbrev pub step_text : Bool → Step → List ℕ
step_text gap (Enter g after) = space gap ++ opening g.delimiter
step_text gap (Leave g after) = ending g.delimiter
step_text gap (Token tree after) = space gap ++ front_text tree

-- whether a space goes before what is printed after the step
abbrev pub gap_after_step : Step → Bool
gap_after_step (Enter g after) = is_brace g.delimiter
gap_after_step (Leave g after) = true
gap_after_step (Token tree after) = gap_within tree
