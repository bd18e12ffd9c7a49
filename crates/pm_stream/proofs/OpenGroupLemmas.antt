-- What was read, after one more step.
use Rattle.std.proofs.Common.{◌≡◌, ℕ, ◌≤◌, List, [], ◌∷◌, ◌++◌, length, take, drop, sym, ap, ◌∙◌, subst, arith}
use Rattle.std.proofs.lemmas.List.{take-append-le, drop-append-le, length-take-le}
use Rattle.pm_token.specs.declared.delimiters.Delimiter.{Delimiter}
use Rattle.pm_stream.specs.Events.{Event, Opens, Closes}
use Rattle.pm_stream.specs.Forest.{Forest, flat_onto, chain, IsBuilt}
use Rattle.pm_stream.specs.Trees.{forest, alone}
use Rattle.pm_stream.specs.Nesting.{innermost, groups_open, IsNested}
use Rattle.pm_stream.specs.OpenGroups.{Opened, unclosed_onto, IsBuiltUpTo}
use Rattle.pm_stream.specs.declared.parse.Frame.{Frame}
use Rattle.pm_stream.specs.declared.stream.TokenTree.{TokenTree}
use Rattle.pm_stream.specs.declared.stream.TokenTree.TheVariants.{Group}
use Rattle.pm_stream.proofs.TreeLemmas.{forest-push, IsBuilt-joined}
use Rattle.pm_stream.proofs.EventLemmas.{unclosed-joined}

-- the open groups and the innermost group's trees that the list and the frames give. The innermost frame is first
abbrev open_state : List Frame → List TokenTree → List Opened × Forest
open_state frames trees = (groups_open frames trees, forest (innermost frames trees))

-- one more tree
open_state-push : (frames : List Frame) (trees : List TokenTree) (tree : TokenTree) → IsNested frames (length trees)
    → open_state frames (trees ++ tree ∷ [])
    ≡ (groups_open frames trees, chain (forest (innermost frames trees)) (alone tree))
open_state-push [] trees tree h = ap (λ f. ([], f)) (forest-push trees tree)
open_state-push (frame ∷ frames) trees tree h =
    rw (take-append-le frame.before trees (tree ∷ []) h.0, drop-append-le frame.before trees (tree ∷ []) h.0)
    (ap (λ f. (groups_open (frame ∷ frames) trees, f)) (forest-push (drop frame.before trees) tree))

pub nested_more : (frames : List Frame) (m n : ℕ) → m ≤ n → IsNested frames m → IsNested frames n
nested_more [] m n le h = tt
nested_more (frame ∷ frames) m n le h = (omega (arith, h.0), h.1)

-- the trees of the list before a group
pub nested_before : (frame : Frame) (frames : List Frame) (trees : List TokenTree)
    → IsNested (frame ∷ frames) (length trees)
    → IsNested frames (length (take frame.before trees))
nested_before frame frames trees h = subst (IsNested frames) (sym (length-take-le frame.before trees h.0)) h.1

-- ---- the events of what was read

abbrev pub unclosed_in : List Frame → List TokenTree → List Event → List Event
unclosed_in frames trees = unclosed_onto (groups_open frames trees) (forest (innermost frames trees))

pub unclosed-push : (frames : List Frame) (trees : List TokenTree) (tree : TokenTree) (events : List Event)
    → IsNested frames (length trees)
    → unclosed_in frames (trees ++ tree ∷ []) events ≡ unclosed_in frames trees (flat_onto (alone tree) events)
unclosed-push frames trees tree events h =
    ap (λ (s : List Opened × Forest). unclosed_onto s.0 s.1 events) (open_state-push frames trees tree h)
    ∙ unclosed-joined (groups_open frames trees) (forest (innermost frames trees)) (alone tree) events

-- the tree of a group that was open
abbrev pub closed_group : Delimiter → Frame → List TokenTree → ℕ → TokenTree
closed_group d frame trees hi =
    Group (record {
      delimiter = d;
      stream = forest (drop frame.before trees);
      span =
          record { lo = frame.lo; hi = hi };
    })

-- the list, once the group is closed
abbrev pub with_closed : Delimiter → Frame → List TokenTree → ℕ → List TokenTree
with_closed d frame trees hi = take frame.before trees ++ closed_group d frame trees hi ∷ []

pub unclosed-close : (frames : List Frame) (frame : Frame) (trees : List TokenTree) (d : Delimiter) (hi : ℕ)
    (events : List Event)
    → IsNested (frame ∷ frames) (length trees) → frame.delimiter ≡ d
    → unclosed_in frames (with_closed d frame trees hi) events
    ≡ unclosed_in (frame ∷ frames) trees (Closes d hi ∷ events)
unclosed-close frames frame trees d hi events h same =
    let outer = take frame.before trees in
    unclosed-push frames outer (closed_group d frame trees hi) events (nested_before frame frames trees h)
    ∙ ap (λ x. unclosed_in frames outer
    (Opens x frame.lo ∷ flat_onto (forest (drop frame.before trees)) (Closes d hi ∷ events))) (sym same)

-- ---- what was read stays built

pub built_later : (groups : List Opened) (trees : Forest) (m n : ℕ) → m ≤ n → IsBuiltUpTo m groups trees
    → IsBuiltUpTo n groups trees
built_later [] trees m n le h = h
built_later (x ∷ groups) trees m n le h = (h.0, omega (arith, h.1), h.2)

pub built_joined : (at : ℕ) (groups : List Opened) (trees more : Forest) → IsBuiltUpTo at groups trees
    → IsBuilt more → IsBuiltUpTo at groups (chain trees more)
built_joined at [] trees more h k = IsBuilt-joined trees more h k
built_joined at (x ∷ groups) trees more h k = (IsBuilt-joined trees more h.0 k, h.1, h.2)

-- what was read is built, in terms of the frames, of which the innermost is first
abbrev pub IsBuiltIn : ℕ → List Frame → List TokenTree → Type 0
IsBuiltIn at frames trees = IsBuiltUpTo at (groups_open frames trees) (forest (innermost frames trees))

pub built_push : (at : ℕ) (frames : List Frame) (trees : List TokenTree) (tree : TokenTree)
    → IsNested frames (length trees) → IsBuiltIn at frames trees → IsBuilt (alone tree)
    → IsBuiltIn at frames (trees ++ tree ∷ [])
built_push at frames trees tree nested h k =
    subst (λ (s : List Opened × Forest). IsBuiltUpTo at s.0 s.1) (sym (open_state-push frames trees tree nested))
    (built_joined at (groups_open frames trees) (forest (innermost frames trees)) (alone tree) h k)

pub built_close : (at hi after : ℕ) (frames : List Frame) (frame : Frame) (trees : List TokenTree) (d : Delimiter)
    → at ≤ hi → at ≤ after → IsNested (frame ∷ frames) (length trees) → IsBuiltIn at (frame ∷ frames) trees
    → IsBuiltIn after frames (with_closed d frame trees hi)
built_close at hi after frames frame trees d le on nested h =
    let outer = take frame.before trees in
    let within : frame.lo ≤ hi = omega (arith, h.1) in
    built_push after frames outer (closed_group d frame trees hi) (nested_before frame frames trees nested)
    (built_later (groups_open frames outer) (forest (innermost frames outer)) frame.lo after (omega (arith, h.1)) h.2)
    (within, h.0, tt)
