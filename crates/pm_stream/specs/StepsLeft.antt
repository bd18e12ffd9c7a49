-- The value of a traversal in contracts: the steps that are left.
use Rattle.std.specs.Prelude.{List, [], ◌∷◌}
use Rattle.pm_stream.specs.Steps.{Step, Leave, steps_onto}
use Rattle.pm_stream.specs.Trees.{forest}
use Rattle.pm_stream.specs.declared.steps.OpenGroup.{OpenGroup}
use Rattle.pm_stream.specs.declared.stream.TokenTree.{TokenTree}

-- the steps that leave the open groups and visit the trees after each, and then others. The outermost group is given
-- first
abbrev pub ends_onto : List OpenGroup → List Step → List Step
ends_onto [] more = more
ends_onto (frame ∷ inner) more =
    let after = forest frame.after.now in
    ends_onto inner (Leave frame.group.now after ∷ steps_onto after more)

-- the steps that are left: those over these trees, and then those that leave the open groups
abbrev pub steps_left : List OpenGroup → List TokenTree → List Step
steps_left outer left = steps_onto (forest left) (ends_onto outer [])
