-- The trees of a stream in reading order.
use Rattle.std.specs.Prelude.{◌≡◌, ℕ, Bool, true, false, List, [], ◌∷◌}
use Rattle.lexical.specs.Token as tokens
use Rattle.lexical.specs.Token.{Token}
use Rattle.pm_token.specs.declared.marks.Spacing.{Spacing}
use Rattle.pm_token.specs.declared.marks.Spacing.TheVariants.{Alone, Joint}
use Rattle.pm_stream.specs.Forest.{Forest, nil, leaf, group}
use Rattle.pm_stream.specs.declared.stream.Group.{Group as Grouped}
use Rattle.pm_stream.specs.declared.stream.TokenTree.{TokenTree}
use Rattle.pm_stream.specs.declared.stream.TokenTree.TheVariants.{Group, Ident, Punct, Literal}

-- the spacing Joint if true, and otherwise Alone
abbrev pub spacing_of : Bool → Spacing
spacing_of true = Joint
spacing_of false = Alone

-- the tree of a token with this span
abbrev pub token_tree : Token → ℕ → ℕ → TokenTree
token_tree (tokens.Name raw name) lo hi = Ident (record { name = name; raw = raw; span = record { lo = lo; hi = hi } })
token_tree (tokens.Mark c joint) lo hi =
    Punct (record { mark = c; spacing = spacing_of joint; span = record { lo = lo; hi = hi } })
token_tree (tokens.Literal text) lo hi = Literal (record { text = text; span = record { lo = lo; hi = hi } })

-- the trees of a stream, each group before the trees inside it, and then other trees
abbrev pub in_order_onto : Forest → List TokenTree → List TokenTree
in_order_onto nil more = more
in_order_onto (leaf token lo hi rest) more = token_tree token lo hi ∷ in_order_onto rest more
in_order_onto (group d lo hi inside rest) more =
    Group (record { delimiter = d; stream = inside; span = record { lo = lo; hi = hi } })
    ∷ in_order_onto inside (in_order_onto rest more)

-- `reading-order`: the trees of a stream, each group before the trees inside it
abbrev pub in_order : Forest → List TokenTree
in_order stream = in_order_onto stream []

-- the first of the trees is a group
abbrev pub BeginsWithGroup : List TokenTree → Type 0
BeginsWithGroup trees = (g : Grouped) × (rest : List TokenTree) × (trees ≡ Group g ∷ rest)
