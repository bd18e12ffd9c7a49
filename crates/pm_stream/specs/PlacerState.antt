-- What was placed so far, in the middle of a text.
use Rattle.std.specs.Prelude.{ℕ, ◌≡◌, ◌≤◌, Bool, true, false, List, [], ◌∷◌, ◌++◌, length}
use Rattle.pm_stream.specs.Forest.{Forest}
use Rattle.pm_stream.specs.OpenGroups.{Opened, unclosed_onto}
use Rattle.pm_stream.specs.Places.{tree_places, moved_past, place_of}
use Rattle.pm_stream.specs.Taken.{Taken}
use Rattle.pm_stream.specs.declared.placing.Place.{Place}
use Rattle.pm_stream.specs.declared.placing.PlacedTree.{PlacedTree}
use Rattle.pm_stream.specs.declared.placing.TreeKind.TheVariants as kinds
use Rattle.pm_stream.specs.declared.placing.OpenGroup.{OpenGroup}
use Rattle.pm_stream.specs.declared.placing.Placer.{Placer}

-- a group that is still open: its end equals its start
abbrev pub opener : (ℕ → Place) → ℕ → PlacedTree
opener place lo = record { start = place lo; end = place lo; kind = kinds.Group }

-- the open groups, the innermost given first, each after the trees before it, and then the innermost group's trees
abbrev pub listed_open : (ℕ → Place) → List Opened → Forest → List PlacedTree
listed_open place [] trees = tree_places place trees
listed_open place (group ∷ groups) trees =
    listed_open place groups group.outer ++ (opener place group.lo ∷ tree_places place trees)

-- what the placer keeps of each open group, the innermost first
abbrev pub open_groups : (ℕ → Place) → List Opened → List OpenGroup
open_groups place [] = []
open_groups place (group ∷ groups) =
    record {
      delimiter = group.delimiter;
      lo = group.lo;
      start = place group.lo;
      index = length (listed_open place groups group.outer);
    }
    ∷ open_groups place groups

-- the line and column where a text begins
abbrev pub origin : Place
origin = record { line = 1; column = 0 }

-- the placer's list has the trees and the open groups of the events taken. The program does not build these trees
pub record Places (placer : Placer) (taken : Taken OpenGroup) : Type 0 where
  pub begins : 1 ≤ taken.base
  pub groups : List Opened
  pub trees : Forest
  pub same : unclosed_onto groups trees [] ≡ taken.events
  pub here : placer.here ≡ moved_past origin taken.passed
  pub around : taken.opened ≡ open_groups (place_of taken.base taken.source) groups
  pub lists : placer.trees.items ≡ listed_open (place_of taken.base taken.source) groups trees

-- the group of a doc comment's text, and the trees inside it
abbrev pub doc_group_places : Place → Place → List PlacedTree
doc_group_places start end =
    record { start = start; end = end; kind = kinds.Group }
    ∷ record { start = start; end = end; kind = kinds.Ident }
    ∷ record { start = start; end = end; kind = kinds.Punct }
    ∷ record { start = start; end = end; kind = kinds.Literal }
    ∷ []

-- the trees of a doc comment, with a `!` if it is inner
abbrev pub doc_places : Bool → Place → Place → List PlacedTree
doc_places true start end =
    record { start = start; end = end; kind = kinds.Punct }
    ∷ record { start = start; end = end; kind = kinds.Punct }
    ∷ doc_group_places start end
doc_places false start end = record { start = start; end = end; kind = kinds.Punct } ∷ doc_group_places start end
