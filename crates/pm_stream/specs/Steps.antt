-- The steps of a traversal, which enters and leaves each group.
use Rattle.std.specs.Prelude.{◌≡◌, ◌⊎◌, refl, ℕ, List, [], ◌∷◌, length, Option, Some, None}
use Rattle.std.specs.Coded.{Coded, code_by, coded×, coded⊎}
use mathlib.Core.Logic.{inl, inr}
use Rattle.pm_stream.specs.Codec.{coded_forest}
use Rattle.pm_stream.specs.Forest.{Forest, nil, leaf, group}
use Rattle.pm_stream.specs.InOrder.{in_order_onto, token_tree}
use Rattle.pm_stream.specs.Trees.{forest, inside}
use Rattle.pm_stream.specs.contracts.stream.Group as the_group
use Rattle.pm_stream.specs.contracts.stream.TokenTree as the_tree
use Rattle.pm_stream.specs.declared.steps.Step.{Step as Given}
use Rattle.pm_stream.specs.declared.steps.Step.TheVariants as given
use Rattle.pm_stream.specs.declared.stream.Group.{Group as Grouped}
use Rattle.pm_stream.specs.declared.stream.TokenTree.{TokenTree}
use Rattle.pm_stream.specs.declared.stream.TokenTree.TheVariants.{Group}

-- a step, with the trees that follow in the same list
pub data Step : Type 0 where
  -- enters this group; the trees are those that follow it
  Enter : Grouped → Forest → Step
  -- leaves this group; the trees are those that follow it
  Leave : Grouped → Forest → Step
  -- visits this token; the trees are those that follow it
  Token : TokenTree → Forest → Step

-- the value in contracts of a step that the traversal gave
abbrev pub step_of : Given → Step
step_of (given.Enter g after) = Enter g.now (forest after.now)
step_of (given.Leave g after) = Leave g.now (forest after.now)
step_of (given.Token tree after) = Token tree.now (forest after.now)

-- the steps over these trees, and then others
abbrev pub steps_onto : Forest → List Step → List Step
steps_onto nil more = more
steps_onto (leaf token lo hi rest) more = Token (token_tree token lo hi) rest ∷ steps_onto rest more
steps_onto (group d lo hi inside rest) more =
    let whole : Grouped = record { delimiter = d; stream = inside; span = record { lo = lo; hi = hi } } in
    Enter whole rest ∷ steps_onto inside (Leave whole rest ∷ steps_onto rest more)

-- the steps over a stream
abbrev pub steps : Forest → List Step
steps stream = steps_onto stream []

-- the first of the steps enters a group
abbrev pub EntersNext : List Step → Type 0
EntersNext steps = (g : Grouped) × (after : Forest) × (rest : List Step) × (steps ≡ Enter g after ∷ rest)

-- the steps that follow a step: those over the trees after it. After `Enter` those over the group's trees come first,
-- and then its `Leave`. A token has no trees inside
abbrev pub FollowedBy : Step → List Step → Type 0
FollowedBy (Enter g after) new =
    (later : List Step) × (new ≡ steps_onto g.stream (Leave g after ∷ steps_onto after later))
FollowedBy (Leave g after) new = (later : List Step) × (new ≡ steps_onto after later)
FollowedBy (Token tree after) new = (later : List Step) × (new ≡ steps_onto after later) × (inside tree ≡ nil)

-- the trees that the steps enter or visit, each group before the trees inside it
abbrev pub trees_given : List Step → List TokenTree
trees_given [] = []
trees_given (Enter g after ∷ steps) = Group g ∷ trees_given steps
trees_given (Leave g after ∷ steps) = trees_given steps
trees_given (Token tree after ∷ steps) = tree ∷ trees_given steps

-- the tree that the first of the steps enters or visits, if it does
abbrev pub front_tree : List Step → Option TokenTree
front_tree [] = None
front_tree (Enter g after ∷ steps) = Some (Group g)
front_tree (Leave g after ∷ steps) = None
front_tree (Token tree after ∷ steps) = Some tree

-- the next `count` trees were skipped, each with the trees inside it
abbrev pub PassesTrees : ℕ → List Step → List Step → Type 0
PassesTrees count old new =
    (passed rest : List TokenTree) → length passed ≡ count → trees_given old ≡ in_order_onto (forest passed) rest
    → trees_given new ≡ rest

-- ---- how a step is stored

-- the parts of a step: a group or a token, and the trees after it
abbrev Parts : Type 0
Parts = (Grouped × Forest) ⊎ ((Grouped × Forest) ⊎ (TokenTree × Forest))

-- the parts of this step
abbrev parts_of : Step → Parts
parts_of (Enter g after) = inl (g, after)
parts_of (Leave g after) = inr (inl (g, after))
parts_of (Token tree after) = inr (inr (tree, after))

-- the step that has these parts
abbrev of_parts : Parts → Step
of_parts (inl p) = Enter p.0 p.1
of_parts (inr (inl p)) = Leave p.0 p.1
of_parts (inr (inr p)) = Token p.0 p.1

-- a step is determined by its parts
pub of_parts-parts_of : (step : Step) → of_parts (parts_of step) ≡ step
of_parts-parts_of (Enter g after) = refl
of_parts-parts_of (Leave g after) = refl
of_parts-parts_of (Token tree after) = refl

-- the code of steps, with the proof that it tells any two apart
abbrev pub coded_step : Coded Step
coded_step =
    code_by Parts
    (coded⊎ (coded× the_group.the_row.coded coded_forest)
    (coded⊎ (coded× the_group.the_row.coded coded_forest) (coded× the_tree.the_row.coded coded_forest)))
    parts_of of_parts of_parts-parts_of
