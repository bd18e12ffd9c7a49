-- The values of trees and of lists of trees in contracts.
use Rattle.std.specs.Prelude.{◌≡◌, List, [], ◌∷◌, Option, Some, None, Vec}
use Rattle.std.specs.declared.alloc.Global.{Global}
use Rattle.std.specs.declared.rc.Rc.{Rc}
use Rattle.lexical.specs.Literal.{IsLiteralToken}
use Rattle.pm_token.specs.Leaf.{name_token, mark_token, text_token}
use Rattle.pm_stream.specs.Forest.{Forest, nil, leaf, group, chain}
use Rattle.pm_stream.specs.declared.stream.Group.{Group as Grouped}
use Rattle.pm_stream.specs.declared.stream.TokenTree.{TokenTree}
use Rattle.pm_stream.specs.declared.stream.TokenTree.TheVariants.{Group, Ident, Punct, Literal}

-- this tree, and then the others
abbrev pub before : TokenTree → Forest → Forest
before (Group g) rest = group g.delimiter g.span.lo g.span.hi g.stream rest
before (Ident i) rest = leaf (name_token i) i.span.lo i.span.hi rest
before (Punct p) rest = leaf (mark_token p) p.span.lo p.span.hi rest
before (Literal l) rest = leaf (text_token l) l.span.lo l.span.hi rest

-- the stream of the trees of a list
abbrev pub forest : List TokenTree → Forest
forest [] = nil
forest (tree ∷ trees) = before tree (forest trees)

-- the stream of this tree alone
abbrev pub alone : TokenTree → Forest
alone tree = before tree nil

-- the tree may be put into a stream as it is: any tree but a literal with a `-` before it
abbrev pub GoesInside : TokenTree → Type 0
GoesInside (Group g) = Unit {0}
GoesInside (Ident i) = Unit {0}
GoesInside (Punct p) = Unit {0}
GoesInside (Literal l) = IsLiteralToken l.text

-- the trees inside a group; a token has none
abbrev pub inside : TokenTree → Forest
inside (Group g) = g.stream
inside (Ident i) = nil
inside (Punct p) = nil
inside (Literal l) = nil

-- the trees that a stream holds, which other streams may share. A stream without a list is empty
abbrev pub shared_trees : Option (Rc (Vec TokenTree Global) Global) → Forest
shared_trees None = nil
shared_trees (Some shared) = forest shared.value.items

-- the last group was removed, with the trees after it; or no group is returned, and only trees at the end were removed
abbrev pub TakesGroup : Forest → Option Grouped → Forest → Type 0
TakesGroup old None new = (rest : Forest) × old ≡ chain new rest
TakesGroup old (Some g) new = (rest : Forest) × old ≡ chain new (before (Group g) rest)
