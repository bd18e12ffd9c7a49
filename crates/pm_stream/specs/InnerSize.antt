-- A stream inside a group has fewer trees than the stream that holds the group.
use Rattle.std.specs.Prelude.{◌≤◌, List, [], ◌∷◌, Option, Some, None, Vec, max}
use Rattle.std.specs.declared.alloc.Global.{Global}
use Rattle.std.specs.declared.rc.Rc.{Rc}
use Rattle.std.proofs.Common.{arith}
use denote.Param.Weighed.{most}
use Rattle.pm_stream.specs.Forest.{Forest}
use Rattle.pm_stream.specs.Size.{count}
use Rattle.pm_stream.specs.Trees.{before, forest, shared_trees}
use Rattle.pm_stream.specs.declared.stream.TokenTree.{TokenTree}
use Rattle.pm_stream.specs.declared.stream.TokenTree.TheVariants.{Group, Ident, Punct, Literal}
use Rattle.pm_stream.specs.declared.stream.TokenStream.TheDeep.{deep-TokenTree}
use Rattle.pm_stream.specs.declared.stream.TokenStream.TheShapes.{weighed-TokenStream-trees}

-- a stream counts at least as many trees as its first tree and the trees after it do
pub deep_le-before : (t : TokenTree) (f : Forest) → max (deep-TokenTree t) (count f) ≤ count (before t f)
deep_le-before (Group g) f = omega arith
deep_le-before (Ident i) f = omega arith
deep_le-before (Punct p) f = omega arith
deep_le-before (Literal l) f = omega arith

most_le-count : (ts : List TokenTree) → most deep-TokenTree ts ≤ count (forest ts)
most_le-count [] = omega arith
most_le-count (t ∷ ts) = omega (arith, deep_le-before t (forest ts), most_le-count ts)

-- what `size_decreases` requires: a stream counts at least as many trees as the trees in its list do
pub deep_le-held : (o : Option (Rc (Vec TokenTree Global) Global))
    → max (weighed-TokenStream-trees.weight TokenTree deep-TokenTree o) 0 ≤ count (shared_trees o)
deep_le-held None = omega arith
deep_le-held (Some r) = omega (arith, most_le-count r.value.items)
