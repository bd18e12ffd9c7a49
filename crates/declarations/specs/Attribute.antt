-- Attributes, one at a time.
use Rattle.std.specs.Prelude.{◌≡◌, ℕ, ◌==◌, ◌<◌, ◌&&◌, Bool, true, false, not, List, [], ◌∷◌, ◌++◌, nat_eq}
use Rattle.std.specs.Prelude.{Option, Some, None, codes, drop, if◌then◌else◌, length, take_while}
use Rattle.std.specs.List.{prefix_len}
use Rattle.std.specs.Cmp.Lexicographic.{pointwise}
use Rattle.pm_token.specs.Leaf.{Mark, Text}
use Rattle.pm_token.specs.Spelling.{name_text}
use Rattle.pm_token.specs.declared.delimiters.Delimiter.{Delimiter}
use Rattle.pm_token.specs.declared.delimiters.Delimiter.TheVariants as delimiters
use Rattle.pm_stream.specs.DocGroup.{is_equals}
use Rattle.pm_stream.specs.declared.stream.Group.{Group as Grouped}
use Rattle.pm_stream.specs.declared.stream.TokenTree.{TokenTree}
use Rattle.pm_stream.specs.declared.stream.TokenTree.TheVariants.{Group, Ident, Punct, Literal}
use Rattle.declarations.specs.Bare.{bare_trees, has_no_delimiters, inside_of}
use Rattle.declarations.specs.declared.attribute.Attribute.{Attribute}
use Rattle.declarations.specs.declared.attribute.AttributeArgs.{AttributeArgs}
use Rattle.declarations.specs.declared.attribute.AttributeArgs.TheVariants as args

-- an attribute: its `#`, perhaps with `!`, and its brackets with the trees in them
pub record Parts : Type 0 where
  pub marks : List TokenTree
  pub group : Grouped

-- the parts of an attribute: its marks and its brackets
abbrev pub parts_of : Attribute → Parts
parts_of attribute = record { marks = attribute.marks.now; group = attribute.group.now }

-- all trees of an attribute
abbrev pub attribute_trees : Parts → List TokenTree
attribute_trees parts = parts.marks ++ Group parts.group ∷ []

abbrev pub is_bracket : Delimiter → Bool
is_bracket delimiters.Bracket = true
is_bracket _ = false

-- whether the mark is `#` (35) and the group has brackets
abbrev pub is_outer : Mark → Grouped → Bool
is_outer hash g = (hash.mark == 35) && is_bracket g.delimiter

-- whether the marks are `#` (35) and `!` (33), and the group has brackets
abbrev pub is_inner : Mark → Mark → Grouped → Bool
is_inner hash mark g = (hash.mark == 35) && ((mark.mark == 33) && is_bracket g.delimiter)

-- the attributes at the start of the trees, up to the first trees that are no attribute
abbrev pub attributes_in : List TokenTree → List Parts
attributes_in (Punct hash ∷ Group g ∷ rest) =
    if is_outer hash g then record { marks = Punct hash ∷ []; group = g } ∷ attributes_in rest else []
attributes_in (Punct hash ∷ Punct mark ∷ Group g ∷ rest) =
    if is_inner hash mark g then record { marks = Punct hash ∷ Punct mark ∷ []; group = g } ∷ attributes_in rest
    else []
attributes_in _ = []

-- the trees are the attribute and then the rest
abbrev pub IsAttributeAt : List TokenTree → Attribute → List TokenTree → Type 0
IsAttributeAt trees attribute rest = trees ≡ attribute_trees (parts_of attribute) ++ rest

-- ---- what is in the brackets of an attribute

-- the trees in the attribute's brackets; or if these are one group without delimiters, the trees in it
abbrev pub inside : Attribute → List TokenTree
inside attribute = inside_of attribute.group.now

-- whether the tree can be in a path: it is not `=` (61), and not a group with delimiters
abbrev pub goes_on : TokenTree → Bool
goes_on (Group g) = has_no_delimiters g.delimiter
goes_on (Ident i) = true
goes_on (Punct p) = not (p.mark == 61)
goes_on (Literal l) = true

-- the path that the trees begin with
abbrev pub path_of : List TokenTree → List TokenTree
path_of trees = take_while goes_on trees

-- the trees after the path that the trees begin with
abbrev pub after_path : List TokenTree → List TokenTree
after_path trees = drop (prefix_len goes_on trees) trees

-- whether the trees are one identifier with this text
abbrev pub is_word : List TokenTree → List ℕ → Bool
is_word (Ident name ∷ []) text = pointwise nat_eq (name_text name) text
is_word _ text = false

-- whether the trees are one identifier with this text, perhaps in groups without delimiters
abbrev pub is_named : List TokenTree → List ℕ → Bool
is_named trees text = is_word (bare_trees trees) text

-- the literal, if it is the only tree
abbrev pub only_literal : List TokenTree → Option Text
only_literal (Literal literal ∷ []) = Some literal
only_literal _ = None

-- the literal after `=` Alone, perhaps in groups without delimiters, if there are no other trees
abbrev pub literal_after : List TokenTree → Option Text
literal_after (Punct mark ∷ value) = if is_equals mark then only_literal (bare_trees value) else None
literal_after _ = None

-- the literal, if the trees in the brackets are `doc`, `=` Alone and that literal
abbrev pub doc_of : List TokenTree → Option Text
doc_of trees = if is_named (path_of trees) (codes "doc") then literal_after (after_path trees) else None

-- the trees after a path have this form
abbrev pub AreArgs : List TokenTree → AttributeArgs → Type 0
AreArgs rest args.Nothing = rest ≡ []
AreArgs rest (args.Group g) = rest ≡ Group g.now ∷ []
AreArgs rest (args.Value trees) = (equals : Mark) × (equals.mark ≡ 61) × (rest ≡ Punct equals ∷ trees.now)
AreArgs rest (args.Other g trees) = (rest ≡ Group g.now ∷ trees.now) × (0 < length trees.now)
