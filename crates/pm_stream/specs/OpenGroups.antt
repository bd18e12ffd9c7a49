-- What a parser has read inside a text: the open groups, and the trees of the innermost.
use Rattle.std.specs.Prelude.{ℕ, ◌≡◌, ◌≤◌, List, [], ◌∷◌}
use Rattle.pm_token.specs.declared.delimiters.Delimiter.{Delimiter}
use Rattle.pm_stream.specs.Events.{Event, Opens}
use Rattle.pm_stream.specs.Forest.{Forest, flat_onto, IsBuilt}

-- an open group: the trees before it, its delimiter, and the position where it begins
pub record Opened : Type 0 where
  pub outer : Forest
  pub delimiter : Delimiter
  pub lo : ℕ

-- the events of the open groups, the innermost given first, then of the innermost group's trees, and then other events
abbrev pub unclosed_onto : List Opened → Forest → List Event → List Event
unclosed_onto [] trees events = flat_onto trees events
unclosed_onto (group ∷ groups) trees events =
    unclosed_onto groups group.outer (Opens group.delimiter group.lo ∷ flat_onto trees events)

-- the innermost open group has this delimiter
abbrev pub FitsInnermost : Delimiter → List Opened → Type 0
FitsInnermost d [] = ⊥
FitsInnermost d (group ∷ groups) = group.delimiter ≡ d

-- all trees that were read are built, and each open group begins at or before the position
abbrev pub IsBuiltUpTo : ℕ → List Opened → Forest → Type 0
IsBuiltUpTo at [] trees = IsBuilt trees
IsBuiltUpTo at (group ∷ groups) trees = IsBuilt trees × (group.lo ≤ at) × IsBuiltUpTo group.lo groups group.outer
