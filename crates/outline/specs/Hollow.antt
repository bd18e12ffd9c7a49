-- Trees without most of what is inside their groups.
use Rattle.std.specs.Prelude.{List, [], ◌∷◌}
use Rattle.pm_stream.specs.Forest.{Forest, nil, leaf, group}
use Rattle.pm_stream.specs.InOrder.{token_tree}
use Rattle.pm_stream.specs.declared.stream.Group.{Group as Grouped}
use Rattle.pm_stream.specs.declared.stream.TokenTree.{TokenTree}
use Rattle.pm_stream.specs.declared.stream.TokenTree.TheVariants.{Group, Ident, Punct, Literal}
use Rattle.token_buffer.specs.Outer.{kept_inside}

-- the trees of a stream
abbrev pub trees_in : Forest → List TokenTree
trees_in nil = []
trees_in (leaf token lo hi rest) = token_tree token lo hi ∷ trees_in rest
trees_in (group d lo hi inside rest) =
    Group (record { delimiter = d; stream = inside; span = record { lo = lo; hi = hi } }) ∷ trees_in rest

-- a group in which only those trees are left that `kept_inside` keeps
abbrev pub hollow_group : Grouped → Grouped
hollow_group g = record g { stream = kept_inside g.delimiter g.stream }

-- a tree. If it is a group, only those trees are left in it that `kept_inside` keeps
abbrev pub hollow : TokenTree → TokenTree
hollow (Group g) = Group (hollow_group g)
hollow (Ident i) = Ident i
hollow (Punct p) = Punct p
hollow (Literal l) = Literal l
