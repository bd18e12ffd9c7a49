-- The walk over a type or bounds that stand alone.
use Rattle.std.proofs.Common.{◌≡◌, refl, sym, ◌∙◌, ap, ℕ, ◌+◌, ◌≤◌, ◌==◌, Bool, true, false, ◌&&◌, List}
use Rattle.std.proofs.Common.{Option, Some, None, length, arith, if◌then◌else◌}
use Rattle.pm_stream.specs.declared.stream.TokenTree.{TokenTree}
use Rattle.item_tables.specs.Walk.{after_angle, after_range, else_for, for_step, range_state}
use Rattle.item_tables.specs.Walk.{step}
use Rattle.item_tables.specs.Walk.{depth_after}
use Rattle.declarations.specs.Range.{in_range}
use Rattle.declarations.specs.Tables.{StopsAt, Walked}
use Rattle.declarations.specs.Signs.{BeginsWith, classes_of, signs}
use Rattle.item_tables.specs.TypeStep.{may_end, step_of}
use Rattle.declarations.specs.Walk.{Stops}
use Rattle.item_tables.specs.declared.class.SignClass.{SignClass}
use Rattle.item_tables.specs.declared.walk_state.Continuation.TheVariants as rules
use Rattle.item_tables.specs.declared.walk_state.State.TheVariants as states
use Rattle.item_tables.specs.declared.types.Turn.{Turn}
use Rattle.item_tables.specs.declared.types.Turn.TheVariants as turns
use Rattle.item_tables.specs.declared.types.TypeState.{TypeState}
use Rattle.item_tables.specs.declared.types.TypeStep.{TypeStep}
use Rattle.declarations.proofs.WalkedLemmas.{walked-more, walked-none}

-- ---- one step

same_range : (b : Bool) (state : TypeState)
    → (if b then after_angle rules.Outside state else states.Range state) ≡ states.Range state
same_range true state = refl
same_range false state = refl

range_alone : (state : TypeState) (turn : Turn) (depth : ℕ)
    → range_state rules.Outside state turn depth ≡ states.Range state
range_alone state turns.Stay depth = refl
range_alone state turns.Open depth = refl
range_alone state turns.Close depth = same_range (depth == 0) state

ranged_alone : (depth : ℕ) (taken : TypeStep)
    → after_range rules.Outside depth (Some taken) ≡ Some (in_range taken.state (depth_after taken.turn depth))
ranged_alone depth taken =
    ap (λ s. Some (record { rule = rules.Outside; state = s; depth = depth_after taken.turn depth }))
    (range_alone taken.state taken.turn (depth_after taken.turn depth))

no_for : (b : Bool) (class : SignClass) → (if b then for_step rules.Outside class else None) ≡ None
no_for true class = refl
no_for false class = refl

step_alone : (state : TypeState) (depth : ℕ) (class : SignClass) (o : Option TypeStep)
    → step_of state class (depth == 0) ≡ o
    → step (in_range state depth) class ≡ after_range rules.Outside depth o
step_alone state depth class None e =
    ap (λ x. else_for (after_range rules.Outside depth x) rules.Outside depth state class) e
    ∙ no_for ((depth == 0) && may_end state) class
step_alone state depth class (Some taken) e =
    ap (λ x. else_for (after_range rules.Outside depth x) rules.Outside depth state class) e

-- a sign is a step
pub step_taken : (state : TypeState) (depth : ℕ) (class : SignClass) (o : Option TypeStep) (taken : TypeStep)
    (inner : ℕ)
    → o ≡ step_of state class (depth == 0) → o ≡ Some taken → inner ≡ depth_after taken.turn depth
    → step (in_range state depth) class ≡ Some (in_range taken.state inner)
step_taken state depth class o taken inner is some turn =
    step_alone state depth class (Some taken) (sym is ∙ some)
    ∙ (ranged_alone depth taken ∙ ap (λ n. Some (in_range taken.state n)) (sym turn))

-- a sign is no step
pub step_none : (state : TypeState) (depth : ℕ) (class : SignClass) (o : Option TypeStep)
    → o ≡ step_of state class (depth == 0) → o ≡ None
    → step (in_range state depth) class ≡ None
step_none state depth class o is none = step_alone state depth class None (sym is ∙ none)

pub ruleset range_steps = (step_taken, step_none)

-- ---- the walk

-- where the walk is
pub record InRange (start : TypeState) (trees left : List TokenTree) (state : TypeState) (depth : ℕ) : Type 0 where
  pub walked : Walked (in_range start 0) trees left (in_range state depth)
  pub room : depth + length left ≤ length trees

pub range_start : (start : TypeState) (trees : List TokenTree) → InRange start trees trees start 0
range_start start trees =
    record { walked = walked-none (in_range start 0) trees; room = omega arith }

pub range_more : (start : TypeState) (trees left after : List TokenTree) (state next : TypeState) (depth inner : ℕ)
    (class : SignClass) → InRange start trees left state depth → BeginsWith left class after
    → step (in_range state depth) class ≡ Some (in_range next inner)
    → inner + length after ≤ depth + length left
    → InRange start trees after next inner
range_more start trees left after state next depth inner class here begins steps fewer = record {
  walked = walked-more (in_range start 0) trees left (in_range state depth) (in_range next inner) class after
      here.walked begins steps;
  room = let room = here.room in omega arith;
}

pub range_stops : (start : TypeState) (trees left : List TokenTree) (state : TypeState) (depth : ℕ) (ended : Bool)
    → InRange start trees left state depth → Stops step (in_range state depth) (classes_of (signs left))
    → ((depth == 0) && may_end state) ≡ ended
    → StopsAt (in_range start 0) ended trees left
range_stops start trees left state depth ended here stops may = record {
  place = in_range state depth;
  walked = here.walked;
  stops = stops;
  may_end = may;
}

pub ruleset walks = (range_start, range_more, range_stops)
