-- The groups of doc comments.
use Rattle.std.specs.Cmp.Lexicographic.{pointwise}
use Rattle.std.specs.Prelude.{◌≡◌, Bool, not, ◌==◌, ◌&&◌, List, [], ◌∷◌, ◌++◌, codes, nat_eq, if◌then◌else◌, ℕ}
use Rattle.std.specs.Prelude.{Option, Some, None}
use Rattle.pm_token.specs.Leaf.{Name, Mark, Text, is_joint}
use Rattle.pm_token.specs.Spelling.{name_text}
use Rattle.pm_token.specs.declared.delimiters.Delimiter.{Delimiter}
use Rattle.pm_token.specs.declared.delimiters.Delimiter.TheVariants.{Bracket}
use Rattle.pm_stream.specs.Forest.{Forest, nil, leaf, group}
use Rattle.pm_stream.specs.InOrder.{token_tree}
use Rattle.pm_stream.specs.Trees.{alone, forest}
use Rattle.pm_stream.specs.Printed.{printed}
use Rattle.pm_stream.specs.declared.stream.Group.{Group as Grouped}
use Rattle.pm_stream.specs.declared.stream.TokenTree.{TokenTree}
use Rattle.pm_stream.specs.declared.stream.TokenTree.TheVariants.{Group, Ident, Punct, Literal}

-- the trees of a stream as a list, without those inside groups
abbrev pub trees_of : Forest → List TokenTree
trees_of nil = []
trees_of (leaf token lo hi rest) = token_tree token lo hi ∷ trees_of rest
trees_of (group d lo hi inside rest) =
    Group (record { delimiter = d; stream = inside; span = record { lo = lo; hi = hi } }) ∷ trees_of rest

-- whether it is the identifier `doc`
abbrev pub is_doc : Name → Bool
is_doc name = pointwise nat_eq (name_text name) (codes "doc")

-- whether it is the mark `=` (61) Alone
abbrev pub is_equals : Mark → Bool
is_equals mark = (mark.mark == 61) && not (is_joint mark.spacing)

-- the literal, if the three trees are `doc`, `=` Alone and that literal
abbrev pub doc_literal : TokenTree → TokenTree → TokenTree → Option Text
doc_literal (Ident name) (Punct mark) (Literal literal) = if is_doc name && is_equals mark then Some literal else None
doc_literal _ _ _ = None

-- the literal, if a Bracket group of these trees is the group of a doc comment
abbrev pub doc_in : Delimiter → List TokenTree → Option Text
doc_in Bracket (name ∷ mark ∷ text ∷ []) = doc_literal name mark text
doc_in _ _ = None

-- the literal of the group of a doc comment, `[doc = ".."]`, and `None` for any other group
abbrev pub doc_of : Grouped → Option Text
doc_of g = doc_in g.delimiter (trees_of g.stream)

-- the trees are printed as `doc = ` and this text, which is a literal's
abbrev pub AreDocOf : List TokenTree → List ℕ → Type 0
AreDocOf trees text = printed (forest trees) ≡ codes "doc = " ++ text

-- the group is printed as `[doc = `, this text, which is a literal's, and `]`
abbrev pub IsDocOf : Grouped → List ℕ → Type 0
IsDocOf g text = printed (alone (Group g)) ≡ codes "[doc = " ++ (text ++ codes "]")
