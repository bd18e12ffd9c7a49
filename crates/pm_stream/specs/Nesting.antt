-- How one list holds the trees of all open groups. The frames are listed from the innermost to the outermost.
use Rattle.std.specs.Prelude.{ℕ, ◌≤◌, List, [], ◌∷◌, take, drop}
use Rattle.pm_stream.specs.Trees.{forest}
use Rattle.pm_stream.specs.OpenGroups.{Opened}
use Rattle.pm_stream.specs.declared.parse.Frame.{Frame}
use Rattle.pm_stream.specs.declared.stream.TokenTree.{TokenTree}

-- the trees of the innermost open group, or all trees if no group is open
abbrev pub innermost : List Frame → List TokenTree → List TokenTree
innermost [] trees = trees
innermost (frame ∷ frames) trees = drop frame.before trees

-- the open groups, each with the trees before it
abbrev pub groups_open : List Frame → List TokenTree → List Opened
groups_open [] trees = []
groups_open (frame ∷ frames) trees =
    let outer = take frame.before trees in
    record { outer = forest (innermost frames outer); delimiter = frame.delimiter; lo = frame.lo }
    ∷ groups_open frames outer

-- the trees of each frame begin at an index of at most `count`, and not before those of the frame around it
abbrev pub IsNested : List Frame → ℕ → Type 0
IsNested [] count = Unit {0}
IsNested (frame ∷ frames) count = (frame.before ≤ count) × IsNested frames frame.before
