-- Tables read rules of the grammar, and the first signs of rules that tables read after a test.
use Rattle.std.proofs.Common.{◌≡◌, refl, sym, ◌∙◌, ap, subst, Bool, true, false, ◌&&◌, ◌||◌, List, [], ◌∷◌, Option}
use Rattle.std.proofs.Common.{Some, None, is_some}
use Rattle.std.proofs.lemmas.Bool.{and_parts, both_ways}
use Rattle.grammars.specs.First.{heads, may_begin, starts}
use Rattle.grammars.specs.Machine as machine
use Rattle.grammars.specs.Machine.{is_nullable, only}
use Rattle.grammars.specs.Next as signs_next
use Rattle.grammars.specs.Next.{stop}
use Rattle.grammars.proofs.FlatLemmas.{ends_flat, flat_all, flat_stack_after, move, step_flat}
use Rattle.grammars.proofs.NextLemmas.{step_is}
use Rattle.grammars.proofs.NextWordLemmas as laws
use Rattle.grammars.proofs.StopLemmas.{stop_none, stop_some}
use Rattle.pm_stream.specs.declared.stream.TokenTree.{TokenTree}
use Rattle.declarations.specs.Expected.{HasSigns, holds, holds_end}
use Rattle.declarations.specs.Explore.{Explores, Sees}
use Rattle.item_tables.specs.Walk.{step}
use Rattle.declarations.specs.Reader.{classes_in}
use Rattle.declarations.specs.Tables.{AreSteps, Walked}
use Rattle.declarations.specs.Signs.{BeginsWith, classes_of, signs}
use Rattle.declarations.specs.Syntax.{TablesRead, admits, guarded_rule, rule_of, start_of, table_of}
use Rattle.declarations.specs.Walk.{Stops}
use Rattle.item_tables.specs.declared.class.SignClass.{SignClass}
use Rattle.item_tables.specs.declared.class.SignClass.TheVariants as classes
use Rattle.item_tables.specs.declared.class.Keyword.TheVariants as keywords
use Rattle.item_tables.specs.declared.class.Word.TheVariants as words
use Rattle.declarations.specs.declared.expected.Expected.{Expected}
use Rattle.declarations.specs.declared.explore.Seen.{Seen}
use Rattle.declarations.specs.declared.syntax.Guard.{Guard}
use Rattle.declarations.specs.declared.syntax.Guard.TheVariants as guards
use Rattle.declarations.specs.declared.syntax.Table.{Table}
use Rattle.declarations.specs.declared.syntax.Table.TheVariants as tables
use Rattle.item_tables.specs.declared.walk_state.WalkState.{WalkState}
use Rattle.declarations.specs.rules.Names.{G, Label, Name}
use Rattle.declarations.specs.rules.Rules.{follows, rules}
use Rattle.declarations.proofs.ExploreLemmas.{first_sign, none_seen}
use Rattle.declarations.proofs.ReadingLemmas.{classes-append}
use Rattle.declarations.proofs.StackLemmas.{left_after, left_at, stack_after}
use Rattle.declarations.proofs.TableLemmas.{Meets, meet_ends, reads_by, step_lifted, table_walk}
use Rattle.declarations.proofs.StartLemmas as begin
use Rattle.declarations.proofs.RuleLemmas.{starts as table_start, well_formed}
use Rattle.grammars.specs.Deterministic.{IsStart}

abbrev Stack : Type 0
Stack = List G

-- ---- tables

table_left : (table : Table) → left_at (start_of table) ≡ Some (flat_all (rule_of table ∷ []))
table_left tables.Type = refl
table_left tables.Bounds = refl
table_left tables.Target = refl
table_left tables.TargetRest = refl
table_left tables.Argument = refl
table_left tables.ArgumentRest = refl
table_left tables.Expression = refl

-- a reading may begin with the rule of each table
table_starts : (table : Table) → IsStart rules follows (rule_of table ∷ [])
table_starts tables.Type = begin.type_starts
table_starts tables.Bounds = begin.bounds_starts
table_starts tables.Target = table_start (rule_of tables.Target) refl refl
table_starts tables.TargetRest = table_start (rule_of tables.TargetRest) refl refl
table_starts tables.Argument = table_start (rule_of tables.Argument) refl refl
table_starts tables.ArgumentRest = table_start (rule_of tables.ArgumentRest) refl refl
table_starts tables.Expression = begin.expression_starts

pub tables_read : TablesRead
tables_read table = reads_by well_formed (start_of table) (rule_of table) (table_starts table) (table_left table)

-- the tables have a step exactly where the machine has one
steps_same : (place : WalkState) (k : Stack) → Meets place k → (c : SignClass) → is_some (step place c) ≡ starts k c
steps_same place k m c =
    go (step place c) (machine.step rules k c)
    (step_lifted place (flat_all k) m.left c ∙ ap stack_after (sym (step_flat rules k c))) ∙ step_is rules k c
  where
    go : (o : Option WalkState) (t : machine.Transition SignClass Name Label)
        → left_after o ≡ stack_after (flat_stack_after t)
        → is_some o ≡ is_some t
    go None None e = refl
    go None (Some t) e = absurd cc
    go (Some q) None e = absurd cc
    go (Some q) (Some t) e = refl

-- the first of the signs is no step
no_first : (place : WalkState) (left : List SignClass) → Stops step place left → (c : SignClass) (more : List SignClass)
    → left ≡ c ∷ more
    → step place c ≡ None
no_first place [] s c more e = absurd cc
no_first place (d ∷ left) s c more e = let same : d ≡ c = cc in ap (step place) (sym same) ∙ s

pub table_sees : (table : Table) (trees left : List TokenTree) (place : WalkState)
    (next : Expected) (start : WalkState)
    → start ≡ start_of table → Walked start trees left place → Stops step place (classes_of (signs left))
    → AreSteps place next
    → Explores (rule_of table) trees left next
unfolding classes_in
table_sees table trees left place next start same w stops s =
    let m : Meets start (rule_of table ∷ []) = record { left = ap left_at same ∙ table_left table } in
    let at = table_walk start (rule_of table) m (classes_of w.front) place w.walks in
    record {
      remains = record { front = w.front; read = w.read; whole = w.whole };
      sees = laws.is_seen SignClass Name Label rules (rule_of table ∷ []) (classes_of (signs trees))
          (classes_of (signs left)) (holds next) (holds_end next)
          (record {
            front = classes_of w.front;
            whole = ap classes_of w.read ∙ classes-append w.front (signs left);
            walks = ap is_some at.1;
            follows = λ c.
                s.classes c
                ∙ (steps_same place at.0.1 at.2 c
                ∙ ap (λ o. elim o as (λ x. Bool) [ None ↦ false | Some t ↦ starts t.1 c ]) (sym at.1));
            ends = s.end
                ∙ (meet_ends place at.0.1 at.2
                ∙ ap (λ o. elim o as (λ x. Bool) [ None ↦ false | Some t ↦ machine.ends t.1 ]) (sym at.1));
            longest = λ c more e.
                s.classes c ∙ ap is_some (no_first place (classes_of (signs left)) stops c more e);
          });
    }

-- ---- rules that tables read after a test of the first sign

guard_begins : (guard : Guard) (c : SignClass)
    → may_begin (guarded_rule guard) c ≡ (admits guard c && is_some (step (start_of (table_of guard)) c))
guard_begins guards.Value (classes.Word words.Auto) = refl
guard_begins guards.Value (classes.Word _) = refl
guard_begins guards.Value (classes.Keyword keywords.Async) = refl
guard_begins guards.Value (classes.Keyword _) = refl
guard_begins guards.Value _ = refl
guard_begins guards.Angle (classes.Word words.Auto) = refl
guard_begins guards.Angle (classes.Word _) = refl
guard_begins guards.Angle (classes.Keyword keywords.Async) = refl
guard_begins guards.Angle (classes.Keyword _) = refl
guard_begins guards.Angle _ = refl
guard_begins guards.Word (classes.Word words.Auto) = refl
guard_begins guards.Word (classes.Word _) = refl
guard_begins guards.Word (classes.Keyword keywords.Async) = refl
guard_begins guards.Word (classes.Keyword _) = refl
guard_begins guards.Word _ = refl
guard_begins guards.Operand (classes.Word words.Auto) = refl
guard_begins guards.Operand (classes.Word _) = refl
guard_begins guards.Operand (classes.Keyword keywords.Async) = refl
guard_begins guards.Operand (classes.Keyword _) = refl
guard_begins guards.Operand _ = refl
guard_begins guards.Unrestricted (classes.Word words.Auto) = refl
guard_begins guards.Unrestricted (classes.Word _) = refl
guard_begins guards.Unrestricted (classes.Keyword keywords.Async) = refl
guard_begins guards.Unrestricted (classes.Keyword _) = refl
guard_begins guards.Unrestricted _ = refl
guard_begins guards.Target (classes.Word words.Auto) = refl
guard_begins guards.Target (classes.Word _) = refl
guard_begins guards.Target (classes.Keyword keywords.Async) = refl
guard_begins guards.Target (classes.Keyword _) = refl
guard_begins guards.Target _ = refl
guard_begins guards.PlainTarget (classes.Word words.Auto) = refl
guard_begins guards.PlainTarget (classes.Word _) = refl
guard_begins guards.PlainTarget (classes.Keyword keywords.Async) = refl
guard_begins guards.PlainTarget (classes.Keyword _) = refl
guard_begins guards.PlainTarget _ = refl
guard_begins guards.Argument (classes.Word words.Auto) = refl
guard_begins guards.Argument (classes.Word _) = refl
guard_begins guards.Argument (classes.Keyword keywords.Async) = refl
guard_begins guards.Argument (classes.Keyword _) = refl
guard_begins guards.Argument _ = refl
guard_begins guards.ArgumentRest (classes.Word words.Auto) = refl
guard_begins guards.ArgumentRest (classes.Word _) = refl
guard_begins guards.ArgumentRest (classes.Keyword keywords.Async) = refl
guard_begins guards.ArgumentRest (classes.Keyword _) = refl
guard_begins guards.ArgumentRest _ = refl

-- after a first sign that passes the test, both have the same left to read
guard_moves : (guard : Guard) (c : SignClass)
    → move rules (flat_all (guarded_rule guard ∷ [])) c
    ≡ only (admits guard c) (move rules (flat_all (rule_of (table_of guard) ∷ [])) c)
guard_moves guards.Value (classes.Word words.Auto) = refl
guard_moves guards.Value (classes.Word _) = refl
guard_moves guards.Value (classes.Keyword keywords.Async) = refl
guard_moves guards.Value (classes.Keyword _) = refl
guard_moves guards.Value _ = refl
guard_moves guards.Angle (classes.Word words.Auto) = refl
guard_moves guards.Angle (classes.Word _) = refl
guard_moves guards.Angle (classes.Keyword keywords.Async) = refl
guard_moves guards.Angle (classes.Keyword _) = refl
guard_moves guards.Angle _ = refl
guard_moves guards.Word (classes.Word words.Auto) = refl
guard_moves guards.Word (classes.Word _) = refl
guard_moves guards.Word (classes.Keyword keywords.Async) = refl
guard_moves guards.Word (classes.Keyword _) = refl
guard_moves guards.Word _ = refl
guard_moves guards.Operand (classes.Word words.Auto) = refl
guard_moves guards.Operand (classes.Word _) = refl
guard_moves guards.Operand (classes.Keyword keywords.Async) = refl
guard_moves guards.Operand (classes.Keyword _) = refl
guard_moves guards.Operand _ = refl
guard_moves guards.Unrestricted (classes.Word words.Auto) = refl
guard_moves guards.Unrestricted (classes.Word _) = refl
guard_moves guards.Unrestricted (classes.Keyword keywords.Async) = refl
guard_moves guards.Unrestricted (classes.Keyword _) = refl
guard_moves guards.Unrestricted _ = refl
guard_moves guards.Target (classes.Word words.Auto) = refl
guard_moves guards.Target (classes.Word _) = refl
guard_moves guards.Target (classes.Keyword keywords.Async) = refl
guard_moves guards.Target (classes.Keyword _) = refl
guard_moves guards.Target _ = refl
guard_moves guards.PlainTarget (classes.Word words.Auto) = refl
guard_moves guards.PlainTarget (classes.Word _) = refl
guard_moves guards.PlainTarget (classes.Keyword keywords.Async) = refl
guard_moves guards.PlainTarget (classes.Keyword _) = refl
guard_moves guards.PlainTarget _ = refl
guard_moves guards.Argument (classes.Word words.Auto) = refl
guard_moves guards.Argument (classes.Word _) = refl
guard_moves guards.Argument (classes.Keyword keywords.Async) = refl
guard_moves guards.Argument (classes.Keyword _) = refl
guard_moves guards.Argument _ = refl
guard_moves guards.ArgumentRest (classes.Word words.Auto) = refl
guard_moves guards.ArgumentRest (classes.Word _) = refl
guard_moves guards.ArgumentRest (classes.Keyword keywords.Async) = refl
guard_moves guards.ArgumentRest (classes.Keyword _) = refl
guard_moves guards.ArgumentRest _ = refl

guard_needs : (guard : Guard) → is_nullable (guarded_rule guard) ≡ false
guard_needs guards.Value = refl
guard_needs guards.Angle = refl
guard_needs guards.Word = refl
guard_needs guards.Operand = refl
guard_needs guards.Unrestricted = refl
guard_needs guards.Target = refl
guard_needs guards.PlainTarget = refl
guard_needs guards.Argument = refl
guard_needs guards.ArgumentRest = refl

-- ---- stacks that have the same left to read

some_same : (s t : machine.Transition SignClass Name Label) → flat_stack_after s ≡ flat_stack_after t
    → is_some s ≡ is_some t
some_same None None e = refl
some_same None (Some t) e = absurd cc
some_same (Some s) None e = absurd cc
some_same (Some s) (Some t) e = refl

steps_flat : (j k : Stack) (c : SignClass) → move rules (flat_all j) c ≡ move rules (flat_all k) c
    → flat_stack_after (machine.step rules j c) ≡ flat_stack_after (machine.step rules k c)
steps_flat j k c e = step_flat rules j c ∙ (e ∙ sym (step_flat rules k c))

starts_same : (j k : Stack) → flat_all j ≡ flat_all k → (c : SignClass) → starts j c ≡ starts k c
starts_same j k e c =
    sym (step_is rules j c)
    ∙ (some_same (machine.step rules j c) (machine.step rules k c) (steps_flat j k c (ap (λ x. move rules x c) e))
    ∙ step_is rules k c)

ends_same : (j k : Stack) → flat_all j ≡ flat_all k → machine.ends j ≡ machine.ends k
ends_same j k e = sym (ends_flat rules j) ∙ (ap machine.ends e ∙ ends_flat rules k)

-- both stop before the same signs, and have the same left to read there
abbrev Alike : List SignClass × Stack → List SignClass × Stack → Type 0
Alike x y = (x.0 ≡ y.0) × (flat_all x.1 ≡ flat_all y.1)

alike_as : (x y p q : List SignClass × Stack) → p ≡ x → q ≡ y → Alike x y → Alike p q
alike_as x y p q e f a =
    (ap (λ z. z.0) e ∙ (a.0 ∙ ap (λ z. z.0) (sym f)), ap (λ z. flat_all z.1) e ∙ (a.1 ∙ ap (λ z. flat_all z.1) (sym f)))

stops_alike : (j k : Stack) (cs : List SignClass) → flat_all j ≡ flat_all k → Alike (stop rules j cs) (stop rules k cs)
stops_alike j k [] e = (refl, e)
stops_alike j k (c ∷ cs) e =
    go (machine.step rules j c) refl (machine.step rules k c) refl
    (steps_flat j k c (ap (λ x. move rules x c) e)) (λ i l h. stops_alike i l cs h)
  where
    go : (s : machine.Transition SignClass Name Label) → machine.step rules j c ≡ s
        → (t : machine.Transition SignClass Name Label) → machine.step rules k c ≡ t
        → flat_stack_after s ≡ flat_stack_after t
        → ((i l : Stack) → flat_all i ≡ flat_all l → Alike (stop rules i cs) (stop rules l cs))
        → Alike (stop rules j (c ∷ cs)) (stop rules k (c ∷ cs))
    go None h None i f r =
        alike_as (c ∷ cs, j) (c ∷ cs, k) (stop rules j (c ∷ cs)) (stop rules k (c ∷ cs)) (stop_none rules j c cs h)
        (stop_none rules k c cs i) (refl, e)
    go None h (Some t) i f r = absurd cc
    go (Some s) h None i f r = absurd cc
    go (Some s) h (Some t) i f r =
        let same : flat_all s.1 ≡ flat_all t.1 = cc in
        alike_as (stop rules s.1 cs) (stop rules t.1 cs) (stop rules j (c ∷ cs)) (stop rules k (c ∷ cs))
        (stop_some rules j c cs s h) (stop_some rules k c cs t i) (r s.1 t.1 same)

-- stacks that have the same left to read after a step stop alike
first_alike : (j k : Stack) (c : SignClass) (cs : List SignClass)
    → flat_stack_after (machine.step rules j c) ≡ flat_stack_after (machine.step rules k c)
    → is_some (machine.step rules j c) ≡ true
    → Alike (stop rules j (c ∷ cs)) (stop rules k (c ∷ cs))
first_alike j k c cs e some = go (machine.step rules j c) refl (machine.step rules k c) refl e some
  where
    go : (s : machine.Transition SignClass Name Label) → machine.step rules j c ≡ s
        → (t : machine.Transition SignClass Name Label) → machine.step rules k c ≡ t
        → flat_stack_after s ≡ flat_stack_after t → is_some s ≡ true
        → Alike (stop rules j (c ∷ cs)) (stop rules k (c ∷ cs))
    go None h t i f g = absurd (both_ways _ refl g)
    go (Some s) h None i f g = absurd cc
    go (Some s) h (Some t) i f g =
        let same : flat_all s.1 ≡ flat_all t.1 = cc in
        alike_as (stop rules s.1 cs) (stop rules t.1 cs) (stop rules j (c ∷ cs)) (stop rules k (c ∷ cs))
        (stop_some rules j c cs s h) (stop_some rules k c cs t i) (stops_alike s.1 t.1 cs same)

-- ---- what is seen after a first sign that passes the test

guard_signs : (guard : Guard) (c : SignClass) (cs left : List SignClass) (next : SignClass → Bool) (end : Bool)
    → may_begin (guarded_rule guard) c ≡ true
    → signs_next.Sees rules (rule_of (table_of guard) ∷ []) (c ∷ cs) left next end
    → signs_next.Sees rules (guarded_rule guard ∷ []) (c ∷ cs) left next end
guard_signs guard c cs left next end h s =
    let g = guarded_rule guard in
    let table = rule_of (table_of guard) in
    let passes = and_parts (admits guard c) (is_some (step (start_of (table_of guard)) c))
    (sym (guard_begins guard c) ∙ h) in
    let one = stop rules (g ∷ []) (c ∷ cs) in
    let two = stop rules (table ∷ []) (c ∷ cs) in
    let alike = first_alike (g ∷ []) (table ∷ []) c cs
    (steps_flat (g ∷ []) (table ∷ []) c
    (guard_moves guard c ∙ ap (λ b. only b (move rules (flat_all (table ∷ [])) c)) passes.0))
    (step_is rules (g ∷ []) c ∙ ap (λ b. b || (is_nullable g && false)) h) in
    record {
      stops = alike.0 ∙ s.stops;
      nexts = λ d. s.nexts d ∙ sym (starts_same one.1 two.1 alike.1 d);
      ended = s.ended ∙ sym (ends_same one.1 two.1 alike.1);
    }

pub guard_sees : (guard : Guard) (trees rest : List TokenTree) (class : SignClass) (first : Expected) (table : Table)
    (seen : Seen)
    → BeginsWith trees class rest → HasSigns first (may_begin (guarded_rule guard)) false → holds first class ≡ true
    → table ≡ table_of guard → Sees (rule_of table) trees seen
    → Sees (guarded_rule guard) trees seen
guard_sees guard trees rest class first table seen b f h same e =
    let whole = first_sign trees rest class b in
    let s = subst (λ t. signs_next.Sees rules (rule_of t ∷ []) (classes_in trees) (classes_in seen.left.now)
    (holds seen.next) (holds_end seen.next)) same e.sees in
    record {
      remains = e.remains;
      sees = subst (λ x. signs_next.Sees rules (guarded_rule guard ∷ []) x (classes_in seen.left.now) (holds seen.next)
          (holds_end seen.next)) (sym whole)
          (guard_signs guard class (classes_in rest) (classes_in seen.left.now) (holds seen.next)
          (holds_end seen.next) (sym (f.classes class) ∙ h)
          (subst (λ x. signs_next.Sees rules (rule_of (table_of guard) ∷ []) x (classes_in seen.left.now)
          (holds seen.next) (holds_end seen.next)) whole s));
    }

-- what is seen if the rule does not begin with the first sign
pub guard_none : (guard : Guard) (trees : List TokenTree) (seen : Seen)
    → heads (guarded_rule guard) (classes_in trees) ≡ false → seen.left.now ≡ trees
    → HasSigns seen.next (may_begin (guarded_rule guard)) false
    → Sees (guarded_rule guard) trees seen
guard_none guard trees seen h l n =
    none_seen (guarded_rule guard) trees seen h l
    (record { classes = n.classes; end = n.end ∙ sym (guard_needs guard) })

pub guard_first : (guard : Guard) (set : Expected)
    → HasSigns set (λ c. admits guard c && is_some (step (start_of (table_of guard)) c)) false
    → HasSigns set (may_begin (guarded_rule guard)) false
guard_first guard set n = record { classes = λ c. n.classes c ∙ sym (guard_begins guard c); end = n.end }
