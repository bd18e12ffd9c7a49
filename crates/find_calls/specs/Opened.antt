-- The candidates of a search, the groups and `<` that are open, and what the steps of the search change.
use Rattle.std.specs.Prelude.{◌≡◌, ℕ, zero, suc, ◌+◌, ◌*◌, ◌<◌, ◌≤◌, Bool, true, false, ◌&&◌, List, [], ◌∷◌, ◌++◌}
use Rattle.std.specs.Prelude.{Option, Some, None, is_some, ◌^◌, length, if◌then◌else◌}
use Rattle.lexical.specs.Token.{Token}
use Rattle.pm_span.specs.Extent.{Extent}
use Rattle.pm_stream.specs.Forest.{Forest, nil, leaf, group}
use Rattle.pm_stream.specs.Size.{count}
use Rattle.token_buffer.specs.Arguments.{is_joint_colon, is_token_mark, past_arguments}
use Rattle.token_buffer.specs.Reads.{first_extent, group_first, left}
use Rattle.find_calls.specs.Calls.{calls_onto, has_arguments, has_arguments_there, is_parenthesis}
use Rattle.find_calls.specs.declared.calls.Candidate.{Candidate}
use Rattle.find_calls.specs.declared.calls.Open.{Open}
use Rattle.find_calls.specs.declared.calls.Open.TheVariants.{Group, Angle}

-- ---- what follows a name

-- what is left after the `<` that comes first
abbrev pub inside_angle : Forest → Option Forest
inside_angle nil = None
inside_angle (leaf token lo hi rest) = if is_token_mark 60 token then Some rest else None
inside_angle (group d lo hi inside rest) = None

-- what is left after the `:<` that comes first
abbrev pub inside_colon : Forest → Option Forest
inside_colon nil = None
inside_colon (leaf token lo hi rest) = if is_token_mark 58 token then inside_angle rest else None
inside_colon (group d lo hi inside rest) = None

-- what is left after the `::<` that comes first, which begins a turbofish
abbrev pub inside_turbofish : Forest → Option Forest
inside_turbofish nil = None
inside_turbofish (leaf token lo hi rest) = if is_joint_colon token then inside_colon rest else None
inside_turbofish (group d lo hi inside rest) = None

-- whether a group in parentheses comes first, or `!` (33) and a group
abbrev pub is_called_at_once : Forest → Bool
is_called_at_once nil = false
is_called_at_once (leaf token lo hi rest) = is_token_mark 33 token && is_some (group_first rest)
is_called_at_once (group d lo hi inside rest) = is_parenthesis d

-- what is left after a `>` (62) that comes first, or all trees if none does
abbrev pub past_arrow : Forest → Forest
past_arrow nil = nil
past_arrow (leaf token lo hi rest) = if is_token_mark 62 token then rest else leaf token lo hi rest
past_arrow (group d lo hi inside rest) = group d lo hi inside rest

-- ---- candidates

-- the candidate of this span, if there is one
abbrev pub candidate : Bool → Option Extent → List Candidate
candidate is None = []
candidate is (Some span) = record { span = span; is_call = is } ∷ []

-- the span before the others, if it is taken
abbrev pub put : Bool → Extent → List Extent → List Extent
put true span spans = span ∷ spans
put false span spans = spans

-- the spans of the candidates that are calls
abbrev pub call_spans : List Candidate → List Extent
call_spans [] = []
call_spans (one ∷ more) = put one.is_call one.span (call_spans more)

-- the candidates, with the one of this index made a call
abbrev pub as_call : ℕ → List Candidate → List Candidate
as_call k [] = []
as_call zero (one ∷ more) = record { span = one.span; is_call = true } ∷ more
as_call (suc k) (one ∷ more) = one ∷ as_call k more

-- the candidates, with the one of this index made a call if it has arguments
abbrev pub mark : ℕ → Bool → List Candidate → List Candidate
mark k true slots = as_call k slots
mark k false slots = slots

-- the candidates, with each one made a call whose `<` is open and closes before arguments. What is open comes innermost
-- first. The trees are those that are left of the innermost list, and `depth` counts the `<` that were passed
abbrev pub resolve : ℕ → Bool → Forest → List Open → List Candidate → List Candidate
resolve depth arrow here [] slots = slots
resolve depth arrow here (Angle (Some k) ∷ outer) slots =
    resolve (suc depth) arrow here outer (mark k (has_arguments_there (past_arguments depth arrow here)) slots)
resolve depth arrow here (Angle None ∷ outer) slots = resolve (suc depth) arrow here outer slots
resolve depth arrow here (Group after ∷ outer) slots = resolve 0 false (left after) outer slots

-- the calls after the open groups, the innermost group first
abbrev pub rests : List ℕ → List Open → List Extent
rests name [] = []
rests name (Group after ∷ outer) = calls_onto name false (left after) (rests name outer)
rests name (Angle opens ∷ outer) = rests name outer

-- the steps that are left after what is open: two for each tree, and one for each group or `<` that is open
abbrev pub rests_steps : List Open → ℕ
rests_steps [] = 0
rests_steps (Group after ∷ outer) = 1 + 2 * count (left after) + rests_steps outer
rests_steps (Angle opens ∷ outer) = 1 + rests_steps outer

-- every index of a candidate is below this count
abbrev pub AreBelow : ℕ → List Open → Type 0
AreBelow n [] = Unit {0}
AreBelow n (Group after ∷ outer) = AreBelow n outer
AreBelow n (Angle None ∷ outer) = AreBelow n outer
AreBelow n (Angle (Some k) ∷ outer) = (k < n) × AreBelow n outer

-- whether a `<` is open innermost
abbrev pub is_in_angle : List Open → Bool
is_in_angle [] = false
is_in_angle (Group after ∷ outer) = false
is_in_angle (Angle opens ∷ outer) = true

-- the candidates after a `<` is closed before the trees
abbrev pub close_angle : Option ℕ → Forest → List Candidate → List Candidate
close_angle None f slots = slots
close_angle (Some k) f slots = mark k (has_arguments f) slots

-- ---- steps

-- the search leaves the end of a list, and goes on at the other trees
abbrev pub Leaves : Forest → List Open → Forest → List Open → Type 0
Leaves end [] next now = ⊥
Leaves end (Group after ∷ outer) next now = (next ≡ left after) × (now ≡ outer)
Leaves end (Angle opens ∷ outer) next now = (next ≡ end) × (now ≡ outer)

-- the search closes the innermost `<` before the trees
abbrev pub Closes : Forest → List Open → List Candidate → List Open → List Candidate → Type 0
Closes f [] found now new_found = Unit {0}
Closes f (Group after ∷ outer) found now new_found = Unit {0}
Closes f (Angle opens ∷ outer) found now new_found = (now ≡ outer) × (new_found ≡ close_angle opens f found)

-- the name that comes first is added to the candidates if it is called with no turbofish
pub record IsNoted (here after : Forest) (opened : List Open) (found : List Candidate) (now : List Open)
    (new_found : List Candidate) : Type 0 where
  pub turbofish : inside_turbofish after ≡ None
  pub same : now ≡ opened
  pub noted : new_found ≡ (if is_called_at_once after then found ++ candidate true (first_extent here) else found)

-- the name that comes first is added to the candidates, and the `<` of its turbofish is opened before the trees
pub record IsOpened (here after trees : Forest) (opened : List Open) (found : List Candidate) (now : List Open)
    (new_found : List Candidate) : Type 0 where
  pub turbofish : inside_turbofish after ≡ Some trees
  pub opens : now ≡ opened ++ (Angle (Some (length found)) ∷ [])
  pub noted : new_found ≡ found ++ candidate false (first_extent here)
  pub few : length opened + 1 < 2 ^ 32

-- the search passes the token and goes on at the trees `next`, and the same candidates and names are calls as before
pub record Passes (token : Token) (rest : Forest) (opened : List Open) (found : List Candidate) (next : Forest)
    (now : List Open) (new_found : List Candidate) : Type 0 where
  pub below : AreBelow (length found) opened → AreBelow (length new_found) now
  pub same : (lo hi : ℕ) → resolve 0 false (leaf token lo hi rest) opened found ≡ resolve 0 false next now new_found
  pub onto : (name : List ℕ) (more : List Extent) → calls_onto name false rest more ≡ calls_onto name false next more
  pub outside : (name : List ℕ) → rests name now ≡ rests name opened
  pub few : 2 * count next + rests_steps now ≤ 2 * count rest + rests_steps opened + 1
