-- Where the trees of a text begin and end, by line and column.
use Rattle.std.specs.Prelude.{ℕ, ◌≡◌, ◌+◌, ◌-◌, List, [], ◌∷◌, map, if◌then◌else◌}
use Rattle.pm_span.specs.CharOffset.{is_line_feed, line, column}
use Rattle.pm_stream.specs.Forest.{Forest}
use Rattle.pm_stream.specs.InOrder.{in_order}
use Rattle.pm_stream.specs.Parsing.{ParsesTo}
use Rattle.pm_stream.specs.TreeSpan.{extent_of}
use Rattle.pm_stream.specs.declared.stream.TokenTree.{TokenTree}
use Rattle.pm_stream.specs.declared.stream.TokenTree.TheVariants as trees
use Rattle.pm_stream.specs.declared.placing.Place.{Place}
use Rattle.pm_stream.specs.declared.placing.PlacedTree.{PlacedTree}
use Rattle.pm_stream.specs.declared.placing.TreeKind.{TreeKind}
use Rattle.pm_stream.specs.declared.placing.TreeKind.TheVariants as kinds

-- `line`, `column`: the line and column of an offset, in characters
abbrev pub place_at : List ℕ → ℕ → Place
place_at text k = record { line = line text k; column = column text k }

-- the line and column of a position, in a text that begins at base
abbrev pub place_of : ℕ → List ℕ → ℕ → Place
place_of base source position = place_at source (position - base)

-- the line and column after a character at this one
abbrev pub next_place : Place → ℕ → Place
next_place place c =
    if is_line_feed c then record { line = place.line + 1; column = 0 }
    else record { line = place.line; column = place.column + 1 }

-- the line and column after a text that begins at this one
abbrev pub moved_past : Place → List ℕ → Place
moved_past place [] = place
moved_past place (c ∷ text) = moved_past (next_place place c) text

-- the kind of a tree
abbrev pub tree_kind : TokenTree → TreeKind
tree_kind (trees.Group g) = kinds.Group
tree_kind (trees.Ident i) = kinds.Ident
tree_kind (trees.Punct p) = kinds.Punct
tree_kind (trees.Literal l) = kinds.Literal

-- where a tree begins and ends, by line and column, and its kind
abbrev pub tree_place : (ℕ → Place) → TokenTree → PlacedTree
tree_place place tree =
    record { start = place (extent_of tree).lo; end = place (extent_of tree).hi; kind = tree_kind tree }

-- where the trees of a stream begin and end, in reading order
abbrev pub tree_places : (ℕ → Place) → Forest → List PlacedTree
tree_places place trees = map (tree_place place) (in_order trees)

-- the list says where each tree begins and ends, for the stream that the source parses to
pub record ArePlaced (base : ℕ) (source : List ℕ) (trees : List PlacedTree) : Type 0 where
  pub stream : Forest
  pub parses : ParsesTo base source stream
  pub places : trees ≡ tree_places (place_of base source) stream
