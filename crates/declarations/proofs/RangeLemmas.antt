-- Within types and bounds the tables take the steps of the grammar.
use Rattle.std.proofs.Common.{◌≡◌, refl, ap, ℕ, zero, suc, ◌+◌, ◌-◌, ◌==◌, Bool, true, false, List, [], ◌∷◌}
use Rattle.std.proofs.Common.{◌++◌, Option, Some, None, arith, eqb-true, ◌&&◌}
use Rattle.std.proofs.lemmas.Bool.{both_ways, false_from_ne_true}
use Rattle.grammars.specs.Grammar.{To}
use Rattle.grammars.specs.Machine.{is_nullable}
use Rattle.grammars.specs.Machine as machine
use Rattle.grammars.proofs.FlatLemmas.{flat, move}
use Rattle.item_tables.specs.Classes.{is}
use Rattle.item_tables.specs.TypeStep.{step_of}
use Rattle.item_tables.specs.Walk.{after_angle, after_range, depth_after, else_for, range_state, step}
use Rattle.declarations.specs.rules.Names.{G, Inside, Name, Outside, Range, Target}
use Rattle.declarations.specs.rules.Rules.{rules}
use Rattle.declarations.specs.rules.Types.{range}
use Rattle.item_tables.specs.declared.class.SignClass.{SignClass}
use Rattle.item_tables.specs.declared.class.SignClass.TheVariants as signs
use Rattle.item_tables.specs.declared.class.Keyword.TheVariants as keywords
use Rattle.item_tables.specs.declared.class.Word.TheVariants as words
use Rattle.item_tables.specs.declared.walk_state.WalkState.{WalkState}
use Rattle.item_tables.specs.declared.walk_state.Continuation.{Continuation}
use Rattle.item_tables.specs.declared.walk_state.Continuation.TheVariants as places
use Rattle.item_tables.specs.declared.walk_state.State.TheVariants as states
use Rattle.item_tables.specs.declared.types.Turn.{Turn}
use Rattle.item_tables.specs.declared.types.Turn.TheVariants as turns
use Rattle.item_tables.specs.declared.types.TypeState.{TypeState}
use Rattle.item_tables.specs.declared.types.TypeState.TheVariants as types
use Rattle.item_tables.specs.declared.types.TypeStep.{TypeStep}
use Rattle.declarations.proofs.StackLemmas.{after_brackets, brackets_left, left_after}
use Rattle.declarations.proofs.StackLemmas.{range_left, stack_after, state_left}
use Rattle.declarations.proofs.AgreeLemmas.{Agrees, EndsAgree}

abbrev pub at_range : TypeState → ℕ → Continuation → WalkState
at_range state depth rule = record { rule = rule; state = states.Range state; depth = depth }

-- ---- outside of angle brackets

-- the tables take the steps of the grammar in the whole of a type or bounds
outside_agrees : (state : TypeState) (c : SignClass)
    → left_after (step (at_range state 0 places.Outside) c) ≡ stack_after (move rules (range state Outside ∷ []) c)
outside_agrees types.Wanted (signs.Word words.Auto) = refl
outside_agrees _ (signs.Word words.Auto) = refl
outside_agrees _ (signs.Word _) = refl
outside_agrees _ (signs.Keyword keywords.Async) = refl
outside_agrees _ (signs.Keyword _) = refl
outside_agrees _ _ = refl

-- in arguments within angle brackets, which are not part of what is read
arguments_agree : (state : TypeState) (c : SignClass)
    → left_after (step (at_range state 0 places.Inside) c) ≡ stack_after (move rules (range state Inside ∷ []) c)
arguments_agree types.Wanted (signs.Word words.Auto) = refl
arguments_agree _ (signs.Word words.Auto) = refl
arguments_agree _ (signs.Word _) = refl
arguments_agree _ (signs.Keyword keywords.Async) = refl
arguments_agree _ (signs.Keyword _) = refl
arguments_agree _ _ = refl

-- in the type after `impl`, which `for` may follow
target_agrees : (state : TypeState) (c : SignClass)
    → left_after (step (at_range state 0 places.Target) c) ≡ stack_after (move rules (range state Target ∷ []) c)
target_agrees types.Wanted (signs.Word words.Auto) = refl
target_agrees _ (signs.Word words.Auto) = refl
target_agrees _ (signs.Word _) = refl
target_agrees _ (signs.Keyword keywords.Async) = refl
target_agrees _ (signs.Keyword _) = refl
target_agrees _ _ = refl

-- ---- within angle brackets

-- what is left to read within angle brackets. The rule is the one that goes on after them
abbrev inside_left : Name → List G → Option TypeStep → Option (List G)
inside_left n k None = None
inside_left n k (Some taken) = elim taken.turn [
  | turns.Stay ↦ Some (range taken.state Inside ∷ To (is signs.Greater) n ∷ k)
  | turns.Open ↦ Some (range taken.state Inside ∷ To (is signs.Greater) (Range types.Whole Inside) ∷ To
      (is signs.Greater) n ∷ k)
  | turns.Close ↦ Some (flat (rules n) ++ k)
]

inside_same : (state : TypeState) (n : Name) (k : List G) (c : SignClass)
    → move rules (range state Inside ∷ To (is signs.Greater) n ∷ k) c ≡ inside_left n k (step_of state c false)
inside_same types.Wanted n k (signs.Word words.Auto) = refl
inside_same _ n k (signs.Word words.Auto) = refl
inside_same _ n k (signs.Word _) = refl
inside_same _ n k (signs.Keyword keywords.Async) = refl
inside_same _ n k (signs.Keyword _) = refl
inside_same _ n k _ = refl

-- whether the state is after an operand
abbrev is_whole : TypeState → Bool
is_whole types.Whole = true
is_whole _ = false

-- whether a step at `>` leads to the state after an operand
abbrev closes_whole : Option TypeStep → Bool
closes_whole None = true
closes_whole (Some taken) = elim taken.turn [
  | turns.Stay ↦ true
  | turns.Open ↦ true
  | turns.Close ↦ is_whole taken.state
]

closing_whole : (state : TypeState) (c : SignClass) → closes_whole (step_of state c false) ≡ true
closing_whole types.Wanted (signs.Word words.Auto) = refl
closing_whole _ (signs.Word words.Auto) = refl
closing_whole _ (signs.Word _) = refl
closing_whole _ (signs.Keyword keywords.Async) = refl
closing_whole _ (signs.Keyword _) = refl
closing_whole _ _ = refl

-- the step of the tables within brackets, if it is known
abbrev deep_step : Continuation → ℕ → TypeState → SignClass → Option TypeStep → Option WalkState
deep_step rule depth state c o = else_for (after_range rule (suc depth) o) rule (suc depth) state c

deep_same : (rule : Continuation) (depth : ℕ) (state : TypeState) (c : SignClass) → (suc depth == 0) ≡ false
    → step (at_range state (suc depth) rule) c ≡ deep_step rule depth state c (step_of state c false)
deep_same places.Inside depth state c deep = refl
deep_same places.Outside depth state c deep = rw deep refl
deep_same places.Target depth state c deep = rw deep refl
deep_same places.Angle depth state c deep = rw deep refl
deep_same places.CastAngle depth state c deep = rw deep refl
deep_same places.ClosureAngle depth state c deep = rw deep refl

-- a step within brackets does not end the arguments in them
deep_range : (rule : Continuation) (depth : ℕ) (taken : TypeStep) → (suc depth == 0) ≡ false
    → after_range rule (suc depth) (Some taken)
    ≡ Some (record {
      rule = rule;
      state = range_state rule taken.state taken.turn (depth_after taken.turn (suc depth));
      depth = depth_after taken.turn (suc depth);
    })
deep_range places.Inside depth taken deep = go taken.turn
  where
    go : (turn : Turn)
        → after_range places.Inside (suc depth) (Some (record { state = taken.state; turn = turn }))
        ≡ Some (record {
          rule = places.Inside;
          state = range_state places.Inside taken.state turn (depth_after turn (suc depth));
          depth = depth_after turn (suc depth);
        })
    go turns.Stay = refl
    go turns.Open = refl
    go turns.Close = rw deep refl
deep_range places.Outside depth taken deep = refl
deep_range places.Target depth taken deep = refl
deep_range places.Angle depth taken deep = refl
deep_range places.CastAngle depth taken deep = refl
deep_range places.ClosureAngle depth taken deep = refl

inside_agrees : (rule : Continuation) (depth : ℕ) (n : Name) (k : List G)
    → ((s : TypeState) → range_left s (suc depth) rule ≡ Some (range s Inside ∷ To (is signs.Greater) n ∷ k))
    → ((s : TypeState) → range_left s (suc depth + 1) rule
    ≡ Some (range s Inside ∷ To (is signs.Greater) (Range types.Whole Inside) ∷ To (is signs.Greater) n ∷ k))
    → (state_left (range_state rule types.Whole turns.Close (suc depth - 1)) (suc depth - 1) rule
    ≡ Some (flat (rules n) ++ k))
    → (suc depth == 0) ≡ false
    → (state : TypeState) (c : SignClass)
    → left_after (step (at_range state (suc depth) rule) c)
    ≡ stack_after (move rules (range state Inside ∷ To (is signs.Greater) n ∷ k) c)
inside_agrees rule depth n k stay opened close deep state c =
    rw (deep_same rule depth state c deep, inside_same state n k c) (go (step_of state c false) (closing_whole state c))
  where
    one : (s : TypeState) (turn : Turn) → closes_whole (Some (record { state = s; turn = turn })) ≡ true
        → left_after (deep_step rule depth state c (Some (record { state = s; turn = turn })))
        ≡ stack_after (inside_left n k (Some (record { state = s; turn = turn })))
    one s turns.Stay h = rw (deep_range rule depth (record { state = s; turn = turns.Stay }) deep) (ap Some (stay s))
    one s turns.Open h = rw (deep_range rule depth (record { state = s; turn = turns.Open }) deep) (ap Some (opened s))
    one types.Whole turns.Close h =
        rw (deep_range rule depth (record { state = types.Whole; turn = turns.Close }) deep) (ap Some close)
    one _ turns.Close h = absurd (both_ways _ refl h)

    go : (o : Option TypeStep) → closes_whole o ≡ true
        → left_after (deep_step rule depth state c o) ≡ stack_after (inside_left n k o)
    go None h = rw deep refl
    go (Some taken) h = one taken.state taken.turn h

-- ---- any number of open angle brackets

-- after the outermost angle brackets
close_agrees : (rule : Continuation)
    → state_left (after_angle rule types.Whole) 0 rule ≡ Some (flat (rules (after_brackets rule)) ++ [])
close_agrees places.Angle = refl
close_agrees places.CastAngle = refl
close_agrees places.ClosureAngle = refl
close_agrees places.Outside = refl
close_agrees places.Inside = refl
close_agrees places.Target = refl

pub not_zero : (n : ℕ) → (suc n == 0) ≡ false
not_zero n = false_from_ne_true _ (λ e. let x = eqb-true (suc n) 0 e in absurd (omega (arith, x)))

one_more : (n : ℕ) → suc n + 1 ≡ suc (suc n)
one_more n = omega arith

one_less : (n : ℕ) → suc (suc n) - 1 ≡ suc n
one_less n = omega arith

deep_agrees : (depth : ℕ) (outer : Continuation) (state : TypeState) (c : SignClass)
    → left_after (step (at_range state (suc depth) outer) c)
    ≡ stack_after (move rules (range state Inside ∷ brackets_left outer depth) c)
deep_agrees zero outer state c =
    inside_agrees outer 0 (after_brackets outer) [] (λ s. refl) (λ s. refl) (close_agrees outer) refl state c
deep_agrees (suc depth) outer state c =
    inside_agrees outer (suc depth) (Range types.Whole Inside) (brackets_left outer depth) (λ s. refl)
    (λ s. rw (one_more (suc depth)) refl) close (not_zero (suc depth)) state c
  where
    close : state_left (range_state outer types.Whole turns.Close (suc (suc depth) - 1)) (suc (suc depth) - 1) outer
        ≡ Some (flat (rules (Range types.Whole Inside)) ++ brackets_left outer depth)
    close = rw (one_less depth, not_zero depth) refl

pub range_agrees : (depth : ℕ) (state : TypeState) (rule : Continuation) (c : SignClass)
    → Agrees (range_left state depth rule) (step (at_range state depth rule) c) c
range_agrees (suc depth) state rule c = deep_agrees depth rule state c
range_agrees zero state places.Outside c = outside_agrees state c
range_agrees zero state places.Inside c = arguments_agree state c
range_agrees zero state places.Target c = target_agrees state c
range_agrees zero state _ c = refl

-- ---- ends

never : (x : Bool) → (x && false) ≡ false
never true = refl
never false = refl

zero_ends : (state : TypeState) (rule : Continuation)
    → EndsAgree (range_left state 0 rule) (at_range state 0 rule)
zero_ends types.Wanted places.Outside = refl
zero_ends _ places.Outside = refl
zero_ends types.Wanted places.Inside = refl
zero_ends _ places.Inside = refl
zero_ends types.Wanted places.Target = refl
zero_ends _ places.Target = refl
zero_ends state _ = refl

pub range_ends_agree : (depth : ℕ) (state : TypeState) (rule : Continuation)
    → EndsAgree (range_left state depth rule) (at_range state depth rule)
range_ends_agree zero state rule = zero_ends state rule
range_ends_agree (suc depth) state rule =
    rw (not_zero depth, open_end depth, never (is_nullable (range state Inside))) refl
  where
    open_end : (depth : ℕ) → machine.ends (brackets_left rule depth) ≡ false
    open_end zero = refl
    open_end (suc depth) = refl
