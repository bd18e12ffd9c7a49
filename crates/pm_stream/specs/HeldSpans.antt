-- Streams whose spans a map holds.
use Rattle.std.specs.Prelude.{ℕ, ◌<◌, ◌≡◌, List, length, slice_index_or, All}
use Rattle.pm_span.specs.Files.{Files, Holds}
use Rattle.pm_stream.specs.Forest.{Forest}
use Rattle.pm_stream.specs.InOrder.{in_order}
use Rattle.pm_stream.specs.Trees.{inside}
use Rattle.pm_stream.specs.TreeSpan.{extent_of}
use Rattle.pm_stream.specs.declared.stream.TokenTree.{TokenTree}

-- the map holds the span of each tree of the stream, at any depth
pub record HoldsAll (map : Files) (stream : Forest) : Type 0 where
  pub each : All (λ tree. Holds map (extent_of tree)) (in_order stream)

-- the map holds the span of the tree, and those of the trees inside it
abbrev pub HoldsTree : Files → TokenTree → Type 0
HoldsTree map tree = Holds map (extent_of tree) × HoldsAll map (inside tree)

-- the map holds the span of each tree of the list, at any depth
abbrev pub HoldsEach : Files → List TokenTree → Type 0
HoldsEach map trees =
    (tree : TokenTree) (index : ℕ) → index < length trees → tree ≡ slice_index_or trees index tree → HoldsTree map tree
