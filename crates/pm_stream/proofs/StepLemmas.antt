-- Steps of a traversal of a stream's trees.
use Rattle.std.proofs.Common.{◌≡◌, ℕ, ◌+◌, ◌-◌, ◌<◌, ◌≤◌, List, [], ◌∷◌, ◌++◌, Option, Some, None, length}
use Rattle.std.proofs.Common.{refl, sym, ap, ◌∙◌}
use Rattle.std.proofs.Common.{arith, drop, Bor, IfSome, MatchOption, option_copied}
use Rattle.std.proofs.lemmas.List.{length-drop}
use Rattle.pm_stream.specs.Forest.{Forest, nil, leaf, group}
use Rattle.pm_stream.specs.InOrder.{in_order_onto, token_tree}
use Rattle.pm_stream.specs.Steps.{Step, Enter, Leave, Token, EntersNext, FollowedBy, front_tree, step_of, steps}
use Rattle.pm_stream.specs.Steps.{steps_onto}
use Rattle.pm_stream.specs.Steps.{trees_given}
use Rattle.pm_stream.specs.StepsLeft.{ends_onto, steps_left}
use Rattle.pm_stream.specs.Trees.{before, forest, inside}
use Rattle.pm_stream.specs.declared.steps.OpenGroup.{OpenGroup}
use Rattle.pm_stream.specs.declared.steps.Step.{Step as Given}
use Rattle.pm_stream.specs.declared.steps.Step.TheVariants as given
use Rattle.pm_stream.specs.declared.stream.Group.{Group as Grouped}
use Rattle.pm_stream.specs.declared.stream.TokenTree.{TokenTree}
use Rattle.pm_stream.specs.declared.stream.TokenTree.TheVariants.{Group, Ident, Punct, Literal}
use Rattle.pm_stream.proofs.InOrderLemmas.{in_order-forest, spacing_back}

-- ---- one step

ends_onto-push : (outer : List OpenGroup) (frame : OpenGroup) (more : List Step)
    → ends_onto (outer ++ frame ∷ []) more
    ≡ Leave frame.group.now (forest frame.after.now) ∷ steps_onto (forest frame.after.now) (ends_onto outer more)
ends_onto-push [] frame more = refl
ends_onto-push (x ∷ outer) frame more =
    ends_onto-push outer frame (Leave x.group.now (forest x.after.now) ∷ steps_onto (forest x.after.now) more)

-- the first step over a tree that is no group
steps-token : (t : TokenTree) (rest : Forest) (more : List Step) → ((g : Grouped) → t ≡ Group g → ⊥)
    → steps_onto (before t rest) more ≡ Token t rest ∷ steps_onto rest more
steps-token (Group g) rest more other = absurd (other g refl)
steps-token (Ident i) rest more other = refl
steps-token (Punct p) rest more other =
    ap (λ s. Token (Punct (record p { spacing = s })) rest ∷ steps_onto rest more) (spacing_back p.spacing)
steps-token (Literal l) rest more other = refl

-- the step over a token
pub past_token : (outer : List OpenGroup) (left after : List TokenTree) (t : TokenTree) → left ≡ t ∷ after
    → ((g : Grouped) → t ≡ Group g → ⊥)
    → steps_left outer left ≡ Token t (forest after) ∷ steps_left outer after
past_token outer left after t whole other = rw whole (steps-token t (forest after) (ends_onto outer []) other)

-- the step into a group
pub into_group : (outer new : List OpenGroup) (left within : List TokenTree) (frame : OpenGroup) (t : TokenTree)
    → left ≡ t ∷ frame.after.now → t ≡ Group frame.group.now → forest within ≡ frame.group.now.stream
    → new ≡ outer ++ frame ∷ []
    → steps_left outer left ≡ Enter frame.group.now (forest frame.after.now) ∷ steps_left new within
into_group outer new left within frame t whole is into push =
    rw (whole, is, into, push, ends_onto-push outer frame []) refl

-- after the step into a group come the steps over its trees, and its `Leave`
pub inside_group : (outer new : List OpenGroup) (within : List TokenTree) (frame : OpenGroup)
    → forest within ≡ frame.group.now.stream → new ≡ outer ++ frame ∷ []
    → steps_left new within
    ≡ steps_onto frame.group.now.stream
    (Leave frame.group.now (forest frame.after.now) ∷ steps_onto (forest frame.after.now) (ends_onto outer []))
inside_group outer new within frame into push = rw (into, push, ends_onto-push outer frame []) refl

-- a group is skipped
pub over_group : (outer : List OpenGroup) (left after : List TokenTree) (t : TokenTree) (g : Grouped)
    → left ≡ t ∷ after → t ≡ Group g
    → steps_left outer left
    ≡ Enter g (forest after) ∷ steps_onto g.stream (Leave g (forest after) ∷ steps_left outer after)
over_group outer left after t g whole is = rw (whole, is) refl

-- the step out of a group
pub out_of_group : (outer new : List OpenGroup) (left : List TokenTree) (frame : OpenGroup)
    → length left ≡ 0 → outer ≡ new ++ frame ∷ []
    → steps_left outer left
    ≡ Leave frame.group.now (forest frame.after.now) ∷ steps_left new frame.after.now
out_of_group outer new [] frame none pop = rw pop (ends_onto-push new frame [])
out_of_group outer new (t ∷ left) frame none pop = absurd (omega (arith, none))

-- if no group is open and no tree is left, no step is left
pub none_left : (outer : List OpenGroup) (left : List TokenTree) → length left ≡ 0 → outer ≡ []
    → steps_left outer left ≡ []
none_left outer [] none end = rw end refl
none_left outer (t ∷ left) none end = absurd (omega (arith, none))

pub token_inside : (t : TokenTree) → ((g : Grouped) → t ≡ Group g → ⊥) → inside t ≡ nil
token_inside (Group g) other = absurd (other g refl)
token_inside (Ident i) other = refl
token_inside (Punct p) other = refl
token_inside (Literal l) other = refl

-- a step that the traversal returned is the first of those that were left
pub takes_first : (next : Option Given) (step : Given) (old new : List Step) → next ≡ Some step
    → MatchOption next ((old ≡ []) × (new ≡ [])) (λ s. old ≡ step_of s ∷ new) → old ≡ step_of step ∷ new
takes_first next step old new is h = rw is at h

-- ---- the tree that comes next

front-ends : (outer : List OpenGroup) (more : List Step) → front_tree more ≡ None
    → front_tree (ends_onto outer more) ≡ None
front-ends [] more none = none
front-ends (x ∷ outer) more none =
    front-ends outer (Leave x.group.now (forest x.after.now) ∷ steps_onto (forest x.after.now) more) refl

-- there is no next tree if no tree is left in the innermost group
pub front-none : (outer : List OpenGroup) (left : List TokenTree) → length left ≡ 0
    → front_tree (steps_left outer left) ≡ None
front-none outer [] none = front-ends outer [] refl
front-none outer (t ∷ left) none = absurd (omega (arith, none))

front-before : (t : TokenTree) (rest : Forest) (more : List Step)
    → front_tree (steps_onto (before t rest) more) ≡ Some t
front-before (Group g) rest more = refl
front-before (Ident i) rest more = refl
front-before (Punct p) rest more = ap (λ s. Some (Punct (record p { spacing = s }))) (spacing_back p.spacing)
front-before (Literal l) rest more = refl

pub front-some : (outer : List OpenGroup) (left after : List TokenTree) (t : TokenTree) → left ≡ t ∷ after
    → front_tree (steps_left outer left) ≡ Some t
front-some outer left after t whole = rw whole (front-before t (forest after) (ends_onto outer []))

-- the next step enters no group, if the next tree is no group
pub enters_none : (steps : List Step) (next : Option TokenTree) → front_tree steps ≡ next
    → ((g : Grouped) → next ≡ Some (Group g) → ⊥) → EntersNext steps → ⊥
enters_none steps next is other enters = other enters.0 (sym is ∙ ap front_tree enters.3)

-- the next step enters the first of the trees that are left, if it is a group
pub enters_next : (outer : List OpenGroup) (left after : List TokenTree) (t : TokenTree) (g : Grouped) (all : List Step)
    → left ≡ t ∷ after → t ≡ Group g → steps_left outer left ≡ all → EntersNext all
enters_next outer left after t g all whole is left_is = (
  g,
  forest after,
  steps_onto g.stream (Leave g (forest after) ∷ steps_left outer after),
  sym left_is ∙ over_group outer left after t g whole is,
)

-- ---- the number of steps

pub length-steps : (f : Forest) (more : List Step) → length (steps_onto f more) ≡ length (steps f) + length more
length-steps nil more = omega arith
length-steps (leaf token lo hi rest) more = omega (arith, length-steps rest more)
length-steps (group d lo hi inside rest) more =
    let whole : Grouped = record { delimiter = d; stream = inside; span = record { lo = lo; hi = hi } } in
    omega (
      arith,
      length-steps inside (Leave whole rest ∷ steps_onto rest more),
      length-steps inside (Leave whole rest ∷ steps_onto rest []),
      length-steps rest more,
    )

-- what skipping a group does to the steps that were left
abbrev pub PassesOver : List Step → Grouped → Forest → List Step → Type 0
PassesOver old g after new = old ≡ Enter g after ∷ steps_onto g.stream (Leave g after ∷ new)

-- fewer steps are left after a group than before it, and inside it too
pub over_less : (was old new : List Step) (g : Grouped) (after : Forest) → old ≡ was → PassesOver old g after new
    → length new < length was
over_less was old new g after same over =
    rw (← same, over) (omega (arith, length-steps g.stream (Leave g after ∷ new)))

pub inside_less : (was old new : List Step) (g : Grouped) (after : Forest) (inside : List TokenTree) (most : ℕ)
    → old ≡ was → PassesOver old g after new → forest inside ≡ g.stream → length was ≤ most
    → length (steps (forest inside)) < most
inside_less was old new g after inside most same over into within =
    let inner = length-steps g.stream (Leave g after ∷ new) in
    rw into (omega (arith, inner, within, ap length same, ap length over))

-- ---- the trees that the steps enter or visit

pub trees_given-onto : (f : Forest) (more : List Step)
    → trees_given (steps_onto f more) ≡ in_order_onto f (trees_given more)
trees_given-onto nil more = refl
trees_given-onto (leaf token lo hi rest) more = ap (λ ts. token_tree token lo hi ∷ ts) (trees_given-onto rest more)
trees_given-onto (group d lo hi inside rest) more =
    let whole : Grouped = record { delimiter = d; stream = inside; span = record { lo = lo; hi = hi } } in
    ap (λ ts. Group whole ∷ ts)
    (trees_given-onto inside (Leave whole rest ∷ steps_onto rest more)
    ∙ ap (in_order_onto inside) (trees_given-onto rest more))

-- the trees of the steps that are left
pub trees_left : (outer : List OpenGroup) (left : List TokenTree)
    → trees_given (steps_left outer left) ≡ in_order_onto (forest left) (trees_given (ends_onto outer []))
trees_left outer left = trees_given-onto (forest left) (ends_onto outer [])

-- after a tree, those inside it come next
pub inside_next : (front : Option (Bor TokenTree)) (next : Option Given) (old new : List Step)
    → option_copied front ≡ front_tree old
    → MatchOption next ((old ≡ []) × (new ≡ [])) (λ s. old ≡ step_of s ∷ new)
    → IfSome next (λ s. FollowedBy (step_of s) new)
    → IfSome front (λ tree. (rest : List TokenTree) × (trees_given new ≡ in_order_onto (inside tree.now) rest))
inside_next None next old new comes is follows = tt
inside_next (Some tree) None old new comes is follows = let none = ap front_tree is.0 in absurd cc
inside_next (Some tree) (Some (given.Enter g after)) old new comes is follows =
    let whole : Some tree.now ≡ Some (Group g.now) = comes ∙ ap front_tree is in
    let same : tree.now ≡ Group g.now = cc in
    let later = Leave g.now (forest after.now) ∷ steps_onto (forest after.now) follows.0 in
    (trees_given later, rw (same, follows.1) (trees_given-onto g.now.stream later))
inside_next (Some tree) (Some (given.Leave g after)) old new comes is follows =
    let none = ap front_tree is in absurd cc
inside_next (Some tree) (Some (given.Token t after)) old new comes is follows =
    let whole : Some tree.now ≡ Some t.now = comes ∙ ap front_tree is in
    let same : tree.now ≡ t.now = cc in
    (trees_given new, rw (same, follows.2) refl)

-- ---- trees that are skipped

heads_same : (t u : TokenTree) (ts us : List TokenTree) → t ∷ ts ≡ u ∷ us → t ≡ u
heads_same t u ts us e = cc

tails_same : (t u : TokenTree) (ts us : List TokenTree) → t ∷ ts ≡ u ∷ us → ts ≡ us
tails_same t u ts us e = cc

-- if the trees in reading order are the same, so are the trees after the stream's own
in_order-cancel : (f : Forest) (xs ys : List TokenTree) → in_order_onto f xs ≡ in_order_onto f ys → xs ≡ ys
in_order-cancel nil xs ys same = same
in_order-cancel (leaf token lo hi rest) xs ys same = in_order-cancel rest xs ys (tails_same _ _ _ _ same)
in_order-cancel (group d lo hi inside rest) xs ys same =
    in_order-cancel rest xs ys
    (in_order-cancel inside (in_order_onto rest xs) (in_order_onto rest ys) (tails_same _ _ _ _ same))

-- after these trees come the others that are still to be skipped
passed_on : (left more m rest : List TokenTree) → length left ≤ length more
    → in_order_onto (forest left) m ≡ in_order_onto (forest more) rest
    → m ≡ in_order_onto (forest (drop (length left) more)) rest
passed_on [] more m rest within same = same
passed_on (t ∷ left) [] m rest within same = absurd (omega (arith, within))
passed_on (t ∷ left) (u ∷ more) m rest within same =
    let both = sym (in_order-forest t left m) ∙ (same ∙ in_order-forest u more rest) in
    let is : t ≡ u = heads_same _ _ _ _ both in
    let later = tails_same _ _ _ _ both
    ∙ ap (λ x. in_order_onto (inside x) (in_order_onto (forest more) rest)) (sym is) in
    passed_on left more m rest (omega (arith, within)) (in_order-cancel (inside t) _ _ later)

-- this number of trees is still to be skipped, if they come next
abbrev pub StillPasses : ℕ → List TokenTree → ℕ → List Step → Type 0
StillPasses count given still now =
    (passed rest : List TokenTree) → length passed ≡ count → given ≡ in_order_onto (forest passed) rest
    → (more : List TokenTree) × (length more ≡ still) × (trees_given now ≡ in_order_onto (forest more) rest)

-- all trees left in the innermost group were skipped, and those after the group are next
pub passed_group : (count still : ℕ) (given : List TokenTree) (outer new : List OpenGroup) (left : List TokenTree)
    (frame : OpenGroup)
    → length left < still → outer ≡ new ++ frame ∷ [] → StillPasses count given still (steps_left outer left)
    → StillPasses count given (still - length left) (steps_left new frame.after.now)
passed_group count still given outer new left frame fewer pop so_far = λ passed rest size is.
    let was = so_far passed rest size is in
    let after : trees_given (ends_onto outer []) ≡ trees_given (steps_left new frame.after.now) =
    rw pop (ap trees_given (ends_onto-push new frame [])) in (
      drop (length left) was.0,
      length-drop (length left) was.0 ∙ ap (λ n. n - length left) was.1,
      sym after
          ∙ passed_on left was.0 _ rest (omega (arith, was.1, fewer)) (sym (trees_left outer left) ∙ was.2),
    )

none_passed : (more rest : List TokenTree) (n m : ℕ) → length more ≡ n - m → m < n
    → [] ≡ in_order_onto (forest more) rest → ⊥
none_passed [] rest n m size fewer same = omega (arith, size, fewer)
none_passed (t ∷ more) rest n m size fewer same =
    let clash = same ∙ in_order-forest t more rest in cc

-- no group is open, so fewer trees are left than are to be skipped
pub passed_none : (count still : ℕ) (given : List TokenTree) (outer : List OpenGroup) (left : List TokenTree)
    → length left < still → outer ≡ [] → StillPasses count given still (steps_left outer left)
    → (passed rest : List TokenTree) → length passed ≡ count
    → given ≡ in_order_onto (forest passed) rest → ⊥
passed_none count still given outer left fewer none so_far passed rest size is =
    let was = so_far passed rest size is in
    let end = passed_on left was.0 _ rest (omega (arith, was.1, fewer)) (sym (trees_left outer left) ∙ was.2) in
    none_passed (drop (length left) was.0) rest still (length left)
    (length-drop (length left) was.0 ∙ ap (λ n. n - length left) was.1) fewer
    (ap (λ o. trees_given (ends_onto o [])) (sym none) ∙ end)

-- the last trees to be skipped are in the innermost group
pub passed_last : (count still : ℕ) (given : List TokenTree) (outer : List OpenGroup) (left new : List TokenTree)
    → still ≤ length left → new ≡ drop still left → StillPasses count given still (steps_left outer left)
    → (passed rest : List TokenTree) → length passed ≡ count → given ≡ in_order_onto (forest passed) rest
    → trees_given (steps_left outer new) ≡ rest
passed_last count still given outer left new within is so_far passed rest size given_is =
    let was = so_far passed rest size given_is in
    trees_left outer new
    ∙ sym (passed_on was.0 left rest _ (omega (arith, was.1, within)) (sym was.2 ∙ trees_left outer left)
    ∙ ap (λ n. in_order_onto (forest (drop n left)) (trees_given (ends_onto outer []))) was.1
    ∙ ap (λ ts. in_order_onto (forest ts) (trees_given (ends_onto outer []))) (sym is))
