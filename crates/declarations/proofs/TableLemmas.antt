-- The tables are the grammar: they read the same pieces.
use Rattle.std.proofs.Common.{◌≡◌, refl, sym, ◌∙◌, ap, subst, ℕ, zero, suc, List, [], ◌∷◌}
use Rattle.std.proofs.Common.{Option}
use Rattle.std.proofs.Common.{Some, None}
use Rattle.grammars.specs.Grammar.{Event}
use Rattle.grammars.specs.Machine as machine
use Rattle.grammars.specs.Deterministic.{IsStart, IsWellFormed}
use Rattle.grammars.specs.Reading.{IsPiece}
use Rattle.grammars.proofs.FlatLemmas.{ends_flat, flat_all, flat_stack_after, move, moves, step_flat, walk_flat}
use Rattle.grammars.proofs.PieceLemmas.{piece_stops, piece_walk, walk_piece}
use Rattle.declarations.specs.Tables.{IsFrom}
use Rattle.item_tables.specs.Walk.{ends, step}
use Rattle.declarations.specs.Walk.{Stops, walk}
use Rattle.declarations.specs.rules.Names.{G, Label, Name}
use Rattle.declarations.specs.rules.Pieces.{ReadsBy}
use Rattle.declarations.specs.rules.Rules.{follows, rules}
use Rattle.item_tables.specs.declared.class.SignClass.{SignClass}
use Rattle.item_tables.specs.declared.walk_state.WalkState.{WalkState}
use Rattle.item_tables.specs.declared.walk_state.Continuation.{Continuation}
use Rattle.item_tables.specs.declared.walk_state.State.{State}
use Rattle.item_tables.specs.declared.walk_state.State.TheVariants as states
use Rattle.declarations.proofs.AgreeLemmas.{Agrees, EndsAgree}
use Rattle.declarations.proofs.RangeLemmas.{range_agrees, range_ends_agree}
use Rattle.declarations.proofs.SpotLemmas.{spot_agrees, spot_ends_agree}
use Rattle.declarations.proofs.StackLemmas.{left_at, left_after, stack_after, state_left}

-- ---- steps

state_agrees : (state : State) (depth : ℕ) (rule : Continuation) (c : SignClass)
    → Agrees (state_left state depth rule) (step (record { rule = rule; state = state; depth = depth }) c) c
state_agrees (states.Range state) depth rule c = range_agrees depth state rule c
state_agrees (states.At spot) zero rule c = spot_agrees spot c
state_agrees (states.At spot) (suc depth) rule c = refl

place_agrees : (place : WalkState) (c : SignClass) → Agrees (left_at place) (step place c) c
place_agrees place c = state_agrees place.state place.depth place.rule c

state_ends : (state : State) (depth : ℕ) (rule : Continuation)
    → EndsAgree (state_left state depth rule) (record { rule = rule; state = state; depth = depth })
state_ends (states.Range state) depth rule = range_ends_agree depth state rule
state_ends (states.At spot) zero rule = spot_ends_agree spot
state_ends (states.At spot) (suc depth) rule = refl

ends_agree : (place : WalkState) → EndsAgree (left_at place) place
ends_agree place = state_ends place.state place.depth place.rule

-- ---- walks

pub step_lifted : (place : WalkState) (k : List G) → left_at place ≡ Some k → (c : SignClass)
    → left_after (step place c) ≡ stack_after (move rules k c)
step_lifted place k e c = subst (λ o. Agrees o (step place c) c) e (place_agrees place c)

ends_same : (place : WalkState) (k : List G) → left_at place ≡ Some k → ends place ≡ machine.ends k
ends_same place k e = subst (λ o. EndsAgree o place) e (ends_agree place)

walk_lifted : (place : WalkState) (k : List G) → left_at place ≡ Some k → (signs : List SignClass)
    → left_after (walk step place signs) ≡ stack_after (moves rules k signs)
walk_lifted place k e [] = ap Some e
walk_lifted place k e (c ∷ signs) =
    go (step place c) (move rules k c) (step_lifted place k e c) (λ q j h. walk_lifted q j h signs)
  where
    go : (o : Option WalkState) (m : Option (List G)) → left_after o ≡ stack_after m
        → ((q : WalkState) (j : List G) → left_at q ≡ Some j
        → left_after (walk step q signs) ≡ stack_after (moves rules j signs))
        → left_after (elim o as (λ x. Option WalkState) [ None ↦ None | Some next ↦ walk step next signs ])
        ≡ stack_after (elim m as (λ x. Option (List G)) [ None ↦ None | Some j ↦ moves rules j signs ])
    go None None h f = refl
    go None (Some j) h f = absurd cc
    go (Some q) None h f = absurd cc
    go (Some q) (Some j) h f = let same : left_at q ≡ Some j = cc in f q j same

-- ---- pieces

-- the tables in a state, and the machine with what is left to read in it
pub record Meets (place : WalkState) (k : List G) : Type 0 where
  pub left : left_at place ≡ Some (flat_all k)

pub meet_ends : (place : WalkState) (k : List G) → Meets place k → ends place ≡ machine.ends k
meet_ends place k m = ends_same place (flat_all k) m.left ∙ ends_flat rules k

-- the machine takes each walk that the tables take
pub table_walk : (start : WalkState) (g : G) → Meets start (g ∷ []) → (signs : List SignClass) (last : WalkState)
    → walk step start signs ≡ Some last
    → (taken : List (Event SignClass Label) × List G) ×
    (machine.walk rules (g ∷ []) signs ≡ Some taken) × Meets last taken.1
table_walk start g m signs last e = go (machine.walk rules (g ∷ []) signs) refl
  where
    both : Some (left_at last) ≡ stack_after (flat_stack_after (machine.walk rules (g ∷ []) signs))
    both =
        ap left_after (sym e)
        ∙ (walk_lifted start (flat_all (g ∷ [])) m.left signs ∙ ap stack_after (sym (walk_flat rules (g ∷ []) signs)))

    go : (o : Option (List (Event SignClass Label) × List G)) → machine.walk rules (g ∷ []) signs ≡ o
        → (taken : List (Event SignClass Label) × List G) × (machine.walk rules (g ∷ []) signs ≡ Some taken)
        × Meets last taken.1
    go None h =
        let no : Some (left_at last) ≡ None = both ∙ ap (λ x. stack_after (flat_stack_after x)) h in absurd cc
    go (Some taken) h =
        let yes : Some (left_at last) ≡ Some (Some (flat_all taken.1)) =
        both ∙ ap (λ x. stack_after (flat_stack_after x)) h in
        let same : left_at last ≡ Some (flat_all taken.1) = cc in
        (taken, h, record { left = same })

-- the tables take each walk that the machine takes
machine_walk : (start : WalkState) (g : G) → Meets start (g ∷ []) → (signs : List SignClass)
    (taken : List (Event SignClass Label) × List G) → machine.walk rules (g ∷ []) signs ≡ Some taken
    → (last : WalkState) × (walk step start signs ≡ Some last) × Meets last taken.1
machine_walk start g m signs taken e = go (walk step start signs) refl
  where
    both : left_after (walk step start signs) ≡ Some (Some (flat_all taken.1))
    both =
        walk_lifted start (flat_all (g ∷ [])) m.left signs
        ∙ (ap stack_after (sym (walk_flat rules (g ∷ []) signs)) ∙ ap (λ x. stack_after (flat_stack_after x)) e)

    go : (o : Option WalkState) → walk step start signs ≡ o
        → (last : WalkState) × (walk step start signs ≡ Some last) × Meets last taken.1
    go None h = let no : None ≡ Some (Some (flat_all taken.1)) = ap left_after (sym h) ∙ both in absurd cc
    go (Some last) h =
        let yes : Some (left_at last) ≡ Some (Some (flat_all taken.1)) = ap left_after (sym h) ∙ both in
        let same : left_at last ≡ Some (flat_all taken.1) = cc in
        (last, h, record { left = same })

-- if the tables have no step, then the machine has none
pub no_step : (place : WalkState) (k : List G) → Meets place k → (c : SignClass) → step place c ≡ None
    → machine.step rules k c ≡ None
no_step place k m c e = go (machine.step rules k c) refl
  where
    both : left_after (step place c) ≡ stack_after (flat_stack_after (machine.step rules k c))
    both = step_lifted place (flat_all k) m.left c ∙ ap stack_after (sym (step_flat rules k c))

    go : (o : machine.Transition SignClass Name Label) → machine.step rules k c ≡ o → machine.step rules k c ≡ None
    go None h = h
    go (Some taken) h =
        let no : None ≡ Some (Some (flat_all taken.1)) =
        ap left_after (sym e) ∙ (both ∙ ap (λ x. stack_after (flat_stack_after x)) h) in
        absurd cc

no_table_step : (place : WalkState) (k : List G) → Meets place k → (c : SignClass) → machine.step rules k c ≡ None
    → step place c ≡ None
no_table_step place k m c e = go (step place c) refl
  where
    both : left_after (step place c) ≡ None
    both =
        step_lifted place (flat_all k) m.left c
        ∙ (ap stack_after (sym (step_flat rules k c)) ∙ ap (λ x. stack_after (flat_stack_after x)) e)

    go : (o : Option WalkState) → step place c ≡ o → step place c ≡ None
    go None h = h
    go (Some q) h = let no : Some (left_at q) ≡ None = ap left_after (sym h) ∙ both in absurd cc

module _ (good : IsWellFormed rules follows) (place : WalkState) (g : G) (start : IsStart rules follows (g ∷ []))
    (left : left_at place ≡ Some (flat_all (g ∷ []))) where
  meets : Meets place (g ∷ [])
  meets = record { left = left }

  -- a walk of the tables is a piece of the rule
  form_piece : (piece rest : List SignClass) → IsFrom place piece rest → IsPiece rules (g ∷ []) piece rest
  form_piece piece rest f =
      let at = table_walk place g meets piece f.last f.walks in
      walk_piece rules follows good (g ∷ []) start piece rest
      (record { taken = at.0; walks = at.1; ended = sym (meet_ends f.last at.0.1 at.2) ∙ f.ended })
      (λ c more e. no_step f.last at.0.1 at.2 c (stop f.last rest f.stops c more e))
    where
      stop : (last : WalkState) (rest : List SignClass) → Stops step last rest → (c : SignClass) (more : List SignClass)
          → rest ≡ c ∷ more
          → step last c ≡ None
      stop last [] s c more e = absurd cc
      stop last (d ∷ rest) s c more e = let same : d ≡ c = cc in ap (step last) (sym same) ∙ s

  -- a piece of the rule is a walk of the tables
  piece_form : (piece rest : List SignClass) → IsPiece rules (g ∷ []) piece rest → IsFrom place piece rest
  piece_form piece rest p =
      let w = piece_walk rules follows good (g ∷ []) start piece rest p in
      let at = machine_walk place g meets piece w.taken w.walks in
      record {
        last = at.0;
        walks = at.1;
        ended = meet_ends at.0 w.taken.1 at.2 ∙ w.ended;
        stops = stop at.0 rest
            (λ c more e. no_table_step at.0 w.taken.1 at.2 c
            (piece_stops rules follows good (g ∷ []) start piece rest p w c more e));
      }
    where
      stop : (last : WalkState) (rest : List SignClass)
          → ((c : SignClass) (more : List SignClass) → rest ≡ c ∷ more → step last c ≡ None)
          → Stops step last rest
      stop last [] f = tt
      stop last (c ∷ rest) f = f c rest refl

  pub reads_by : ReadsBy g (IsFrom place)
  reads_by piece rest = (form_piece piece rest, piece_form piece rest)
