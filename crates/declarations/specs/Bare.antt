-- Groups without delimiters, in which a macro by example passes a fragment.
use Rattle.std.specs.Prelude.{◌&&◌, Bool, true, false, List, [], ◌∷◌, Option, Some, None, if◌then◌else◌}
use Rattle.pm_token.specs.declared.delimiters.Delimiter.{Delimiter}
use Rattle.pm_token.specs.declared.delimiters.Delimiter.TheVariants as delimiters
use Rattle.pm_stream.specs.DocGroup.{trees_of}
use Rattle.pm_stream.specs.Forest.{Forest, nil, leaf, group}
use Rattle.pm_stream.specs.Size.{is_nil}
use Rattle.pm_stream.specs.declared.stream.Group.{Group as Grouped}
use Rattle.pm_stream.specs.declared.stream.TokenTree.{TokenTree}
use Rattle.pm_stream.specs.declared.stream.TokenTree.TheVariants.{Group}

abbrev pub has_no_delimiters : Delimiter → Bool
has_no_delimiters delimiters.None = true
has_no_delimiters _ = false

-- the trees in a group, if it has no delimiters and is the last tree
abbrev pub held_by : Delimiter → Forest → Bool → Option Forest
held_by d inside last = if has_no_delimiters d && last then Some inside else None

-- the trees in the group without delimiters that is the only tree, or nothing
abbrev pub held_alone : Forest → Option Forest
held_alone nil = None
held_alone (leaf token lo hi rest) = None
held_alone (group d lo hi inside rest) = held_by d inside (is_nil rest)

-- the trees; or if they are one group without delimiters, the trees in the innermost of such groups
abbrev pub innermost : Forest → Forest
innermost nil = nil
innermost (leaf token lo hi rest) = leaf token lo hi rest
innermost (group d lo hi inside rest) =
    if has_no_delimiters d && is_nil rest then innermost inside else group d lo hi inside rest

-- the innermost trees of a stream, as a list
abbrev pub innermost_trees : Forest → List TokenTree
innermost_trees stream = trees_of (innermost stream)

-- the trees in a group; or if these are one group without delimiters, the trees in the innermost of such groups
abbrev pub inside_of : Grouped → List TokenTree
inside_of g = innermost_trees g.stream

-- the trees; or if they are one group without delimiters, the trees in the innermost of such groups
abbrev pub bare_trees : List TokenTree → List TokenTree
bare_trees (Group g ∷ []) = if has_no_delimiters g.delimiter then inside_of g else Group g ∷ []
bare_trees trees = trees

-- the group without delimiters that the trees begin with, and the trees after it
abbrev pub bare_first : List TokenTree → Option (Grouped × List TokenTree)
bare_first (Group g ∷ rest) = if has_no_delimiters g.delimiter then Some (g, rest) else None
bare_first _ = None
